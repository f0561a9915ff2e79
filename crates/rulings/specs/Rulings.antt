-- The numbers of rulings.
--     number e                   the number of an irregularity, 8 to 13
--     ruling r                   the number of a ruling: 0 if the act is accepted, else that of its irregularity
use Rattle.std.specs.Prelude.{ℕ, Ok, Err, Result}
use Rattle.rulings.specs.declared.Irregularity.{Irregularity}
use Rattle.rulings.specs.declared.Irregularity.TheVariants.{NoSuchAct, InsufficientBid, InadmissibleDouble, InadmissibleRedouble, CardNotHeld, Revoke}

abbrev pub number : Irregularity → ℕ
number NoSuchAct = 8
number InsufficientBid = 9
number InadmissibleDouble = 10
number InadmissibleRedouble = 11
number CardNotHeld = 12
number Revoke = 13

abbrev pub ruling : {A : Type 0} → Result A Irregularity → ℕ
ruling (Ok a) = 0
ruling (Err e) = number e
