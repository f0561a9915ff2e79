-- The auction, by its calls from the first on. The dealer calls first, then the turn goes clockwise.
--     is_pass a, is_double a, is_redouble a  what a call is; is_bid is told with the calls
--     Made                       a call with the chair that made it
--     last_call p d calls        the last call of which p holds, with its chair, where d made the first
--     last_bid, last_action      the last bid, and the last call other than Pass
--     standing d calls           where the auction stands: the chair in turn, the last bid, the last call other than Pass,
--                                and how many passes end the calls, of which four are enough to know
--     is_over s                  the auction has ended: after four passes with no bid, or three after a bid
--     by_opponent p c m          p holds of the call m, and an opponent of the chair c made it
--     opponents_call c m         what the call m is, if an opponent of the chair c made it
--     call_ruling s a            the number with which the call a is refused, 0 if it is lawful
--     start d, called s a        where an auction stands before the first call, and after one call more
use Rattle.std.specs.Prelude.{ℕ, ◌+◌, min, Bool, false, cond, not, ◌&&◌, List, [], ◌∷◌, length, Some, None, Option, ◌==◌, nat_le}
use Rattle.std.specs.Option.{option_or}
use Rattle.std.specs.List.{suffix_len}
use Rattle.cards.specs.declared.chairs.Chair.{Chair}
use Rattle.cards.specs.Calls.{is_bid}
use Rattle.cards.specs.Chairs.{ahead, next, same_side}
use Rattle.auctions.specs.declared.Made.{Made}
use Rattle.auctions.specs.declared.Standing.{Standing}

abbrev pub is_pass : ℕ → Bool
is_pass a = a == 0

abbrev pub is_double : ℕ → Bool
is_double a = a == 1

abbrev pub is_redouble : ℕ → Bool
is_redouble a = a == 2

abbrev pub made : Chair → ℕ → Made
made c a = record { by = c; call = a }

abbrev pub last_call : (ℕ → Bool) → Chair → List ℕ → Option Made
last_call p d [] = None
last_call p d (a ∷ more) = option_or (last_call p (next d) more) (cond (p a) (Some (made d a)) None)

abbrev pub last_bid : Chair → List ℕ → Option Made
last_bid d calls = last_call is_bid d calls

abbrev pub last_action : Chair → List ℕ → Option Made
last_action d calls = last_call (λ a. not (is_pass a)) d calls

abbrev pub standing : Chair → List ℕ → Standing
standing d calls = record { turn = ahead d (length calls); bid = last_bid d calls; action = last_action d calls; passes = min (suffix_len is_pass calls) 4 }

-- how many passes in a row end an auction
abbrev pub enough : Option Made → ℕ
enough None = 4
enough (Some bid) = 3

abbrev pub is_over : Standing → Bool
is_over s = nat_le (enough s.bid) s.passes

-- the number of a call, 0 with none: a higher bid has a higher number
abbrev pub height : Option Made → ℕ
height None = 0
height (Some m) = m.call

-- an opponent of the chair made the call, and p holds of it
abbrev pub by_opponent : (ℕ → Bool) → Chair → Option Made → Bool
by_opponent p c None = false
by_opponent p c (Some m) = p m.call && not (same_side c m.by)

-- what the call was, if an opponent of the chair made it
abbrev pub opponents_call : Chair → Option Made → Option ℕ
opponents_call c None = None
opponents_call c (Some m) = cond (same_side c m.by) None (Some m.call)

-- the questions in their order
abbrev pub call_ruling : Standing → ℕ → ℕ
call_ruling s a =
    cond (nat_le 38 a) 8
    (cond (is_bid a && nat_le a (height s.bid)) 9
    (cond (is_double a && not (by_opponent is_bid s.turn s.action)) 10
    (cond (is_redouble a && not (by_opponent is_double s.turn s.action)) 11
    0)))

abbrev pub start : Chair → Standing
start d = record { turn = d; bid = None; action = None; passes = 0 }

abbrev pub called : Standing → ℕ → Standing
called s a =
    record {
      turn = next s.turn;
      bid = cond (is_bid a) (Some (made s.turn a)) s.bid;
      action = cond (is_pass a) s.action (Some (made s.turn a));
      passes = cond (is_pass a) (min (s.passes + 1) 4) 0;
    }
