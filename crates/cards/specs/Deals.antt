-- Deals: 52 bytes, of which byte c names the chair that gets the card c.
--     count x d                  how many cards of the deal d the chair with the number x gets
--     thirteen_each d            each chair gets 13
use Rattle.std.specs.Prelude.{ℕ, Bool, ◌&&◌, List, count_by, ◌==◌}

abbrev pub count : ℕ → List ℕ → ℕ
count x d = count_by (λ y. y == x) d

abbrev pub thirteen_each : List ℕ → Bool
thirteen_each d = count 0 d == 13 && (count 1 d == 13 && (count 2 d == 13 && count 3 d == 13))
