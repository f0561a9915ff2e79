-- Numbers in decimal, and board numbers.
--     extended most v b           the number that the digit b makes behind the number v, if it is at most `most`
--     digits_from most v w        the number that the digits w make behind the number v, if it is at most `most`
--     natural most w              the number that the digits w make, if there is one and it is at most `most`
--     number_from v w             the number that the digits w make behind the number v, if it is at most 255
--     board_number w              the board number that a text says: one to three digits, the first not 0, at most 255
use Rattle.std.specs.Prelude.{ℕ, ◌+◌, ◌-◌, ◌*◌, Bool, false, cond, List, [], ◌∷◌, length, Some, None, Option, ◌==◌, nat_le, slice_index}
use Rattle.tags.specs.Tags.{and_then}

abbrev pub is_digit : ℕ → Bool
is_digit b = cond (nat_le 48 b) (nat_le b 57) false

abbrev pub extended : ℕ → ℕ → ℕ → Option ℕ
extended most v b = cond (is_digit b) (cond (nat_le (10 * v + (b - 48)) most) (Some (10 * v + (b - 48))) None) None

abbrev pub digits_from : ℕ → ℕ → List ℕ → Option ℕ
digits_from most v [] = Some v
digits_from most v (b ∷ bs) = and_then (extended most v b) (λ n. digits_from most n bs)

abbrev pub natural : ℕ → List ℕ → Option ℕ
natural most w = cond (length w == 0) None (digits_from most 0 w)

abbrev pub number_from : ℕ → List ℕ → Option ℕ
number_from v [] = cond (nat_le v 255) (Some v) None
number_from v (b ∷ bs) = cond (is_digit b) (number_from (10 * v + (b - 48)) bs) None

abbrev pub board_number : List ℕ → Option ℕ
board_number w = cond (nat_le 1 (length w)) (cond (nat_le (length w) 3) (cond (slice_index w 0 == 48) None (number_from 0 w)) None) None
