-- Words in rows of four, one behind another.
--     end_of_word i n             what follows the word i of n, counted from 0: LF after the fourth of a row and after the last, else a space
--     in_rows i n ws              the words ws from the word i on
use Rattle.std.specs.Prelude.{ℕ, ◌+◌, ◌%◌, cond, ◌||◌, List, [], ◌∷◌, ◌++◌, ◌==◌}

abbrev pub end_of_word : ℕ → ℕ → ℕ
end_of_word i n = cond (i % 4 == 3 || i + 1 == n) 10 32

abbrev pub in_rows : ℕ → ℕ → List (List ℕ) → List ℕ
in_rows i n [] = []
in_rows i n (w ∷ ws) = w ++ (end_of_word i n ∷ in_rows (i + 1) n ws)
