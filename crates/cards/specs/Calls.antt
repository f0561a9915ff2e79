-- Calls: 0 Pass, 1 Double, 2 Redouble, and from 3 to 37 the bids.
--     bid l d                     the bid of the level l and the denomination d
--     bid_of l d                  the same, if there is such a level
--     is_bid a                    the call a is a bid
--     level_of a, denomination_of a  the level and the denomination of a bid
use Rattle.std.specs.Prelude.{ℕ, ◌+◌, ◌-◌, ◌*◌, ◌/◌, ◌%◌, Bool, false, cond, Some, None, Option, nat_le}
use Rattle.cards.specs.declared.suits.Denomination.{Denomination}
use Rattle.cards.specs.Suits.{rank, denomination_with_code}

abbrev pub bid : ℕ → Denomination → ℕ
bid l d = 3 + 5 * (l - 1) + rank d

abbrev pub bid_of : ℕ → Denomination → Option ℕ
bid_of l d = cond (nat_le 1 l) (cond (nat_le l 7) (Some (bid l d)) None) None

abbrev pub is_bid : ℕ → Bool
is_bid a = cond (nat_le 3 a) (nat_le a 37) false

abbrev pub level_of : ℕ → Option ℕ
level_of a = cond (is_bid a) (Some ((a - 3) / 5 + 1)) None

abbrev pub denomination_of : ℕ → Option Denomination
denomination_of a = cond (is_bid a) (denomination_with_code ((a - 3) % 5)) None
