-- Contracts, and how far they are doubled.
--     code x, with_code n        the number of a doubling, 0 to 2, and the doubling of a number
--     made r l d x               r is the contract of the level l, the denomination d and the doubling x, and none unless l is 1 to 7
use Rattle.std.specs.Prelude.{◌≡◌, ℕ, false, cond, Some, None, Option, ◌==◌, nat_le}
use Rattle.cards.specs.declared.suits.Denomination.{Denomination}
use Rattle.scoring.specs.declared.contracts.Contract.{Contract}
use Rattle.scoring.specs.declared.contracts.Doubling.{Doubling}
use Rattle.scoring.specs.declared.contracts.Doubling.TheVariants.{Undoubled, Doubled, Redoubled}

abbrev pub code : Doubling → ℕ
code Undoubled = 0
code Doubled = 1
code Redoubled = 2

abbrev pub with_code : ℕ → Option Doubling
with_code n = cond (n == 0) (Some Undoubled) (cond (n == 1) (Some Doubled) (cond (n == 2) (Some Redoubled) None))

abbrev pub made : Option Contract → ℕ → Denomination → Doubling → Type 0
made None l d x = cond (nat_le 1 l) (nat_le l 7) false ≡ false
made (Some c) l d x = (c.level ≡ l) × (c.denomination ≡ d) × (c.doubling ≡ x)
