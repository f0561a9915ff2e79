-- Hands. A hand is a number whose bit c is set when it holds the card c.
--     holds h c                  the hand h holds the card c
--     dealt d x                  the hand that the deal d gives the chair with the number x
use Rattle.std.specs.Prelude.{ℕ, zero, suc, ◌+◌, ◌*◌, ◌/◌, ◌%◌, Bool, cond, List, [], ◌∷◌, ◌==◌}

abbrev pub holds : ℕ → ℕ → Bool
holds h zero = h % 2 == 1
holds h (suc c) = holds (h / 2) c

abbrev pub dealt : List ℕ → ℕ → ℕ
dealt [] x = 0
dealt (y ∷ ys) x = dealt ys x * 2 + cond (y == x) 1 0
