-- What an auction comes to: the contract and its declarer, or nothing if nobody bid.
--     doubling_by m              how far a contract is doubled, by the last call other than Pass
--     Terms                      level, denomination and doubling
--     terms k                    those of a contract
--     contract_of s              those of the last bid, where an auction stands
--     names bid c a              the call a of the chair c is a bid in the denomination of `bid`, and c is of the side that made it
--     first_to_name bid d calls  the first chair that does so, where d makes the first of the calls
--     declarer_of d calls        of the side that made the last bid, the chair that first bid its denomination
use Rattle.std.specs.Prelude.{ℕ, ◌-◌, ◌%◌, Bool, cond, ◌&&◌, List, [], ◌∷◌, Some, None, Option, ◌==◌}
use Rattle.cards.specs.declared.chairs.Chair.{Chair}
use Rattle.cards.specs.declared.suits.Denomination.{Denomination}
use Rattle.cards.specs.Calls.{denomination_of, is_bid, level_of}
use Rattle.cards.specs.Chairs.{next, same_side}
use Rattle.scoring.specs.declared.contracts.Contract.{Contract}
use Rattle.scoring.specs.declared.contracts.Doubling.{Doubling}
use Rattle.scoring.specs.declared.contracts.Doubling.TheVariants.{Undoubled, Doubled, Redoubled}
use Rattle.auctions.specs.declared.Made.{Made}
use Rattle.auctions.specs.declared.Standing.{Standing}
use Rattle.auctions.specs.Auctions.{is_double, is_redouble, last_bid}

abbrev pub doubling_by : Option Made → Doubling
doubling_by None = Undoubled
doubling_by (Some m) = cond (is_double m.call) Doubled (cond (is_redouble m.call) Redoubled Undoubled)

abbrev pub Terms : Type 0
Terms = ℕ × Denomination × Doubling

abbrev pub terms : Contract → Terms
terms k = (k.level, k.denomination, k.doubling)

abbrev pub terms_of : Doubling → Option ℕ → Option Denomination → Option Terms
terms_of x None n = None
terms_of x (Some l) None = None
terms_of x (Some l) (Some n) = Some (l, n, x)

abbrev pub contract_by : Option Made → Doubling → Option Terms
contract_by None x = None
contract_by (Some m) x = terms_of x (level_of m.call) (denomination_of m.call)

abbrev pub contract_of : Standing → Option Terms
contract_of s = contract_by s.bid (doubling_by s.action)

abbrev pub same_denomination : ℕ → ℕ → Bool
same_denomination a b = (a - 3) % 5 == (b - 3) % 5

abbrev pub names : Made → Chair → ℕ → Bool
names bid c a = is_bid a && (same_denomination a bid.call && same_side c bid.by)

abbrev pub first_to_name : Made → Chair → List ℕ → Option Chair
first_to_name bid d [] = None
first_to_name bid d (a ∷ more) = cond (names bid d a) (Some d) (first_to_name bid (next d) more)

abbrev pub declarer_by : Chair → List ℕ → Option Made → Option Chair
declarer_by d calls None = None
declarer_by d calls (Some bid) = first_to_name bid d calls

abbrev pub declarer_of : Chair → List ℕ → Option Chair
declarer_of d calls = declarer_by d calls (last_bid d calls)
