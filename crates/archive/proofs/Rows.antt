-- Words put one behind another stand in rows of four.
use Rattle.std.proofs.Common.{◌≡◌, ℕ, ◌+◌, ◌%◌, ◌<◌, List, [], ◌∷◌, length, refl, arith}
use Rattle.std.proofs.lemmas.List.{append_assoc}
use Rattle.std.proofs.lemmas.Bool.Decides.{nat_tests}
use Rattle.writer.specs.Texts.{text}
use Rattle.archive.specs.Records.{rows}
use Rattle.archive.specs.Words.{end_of_word, in_rows}

ends_row : (i n : ℕ) → i % 4 ≡ 3 → end_of_word i n ≡ 10
ends_row i n e = grind (arith, nat_tests)

ends_all : (i n : ℕ) → i + 1 ≡ n → end_of_word i n ≡ 10
ends_all i n e = grind (arith, nat_tests)

goes_on : (i n : ℕ) → i % 4 < 3 → i + 1 < n → end_of_word i n ≡ 32
goes_on i n l h = grind (arith, nat_tests)

pub rows_text : (ws : List (List ℕ)) (i n : ℕ) → i % 4 ≡ 0 → n ≡ i + length ws → in_rows i n ws ≡ text (rows ws)
rows_text [] i n e l = refl
rows_text (a ∷ []) i n e l = rw (ends_all i n (omega arith)) refl
rows_text (a ∷ b ∷ []) i n e l = rw (goes_on i n (omega arith) (omega arith), ends_all (i + 1) n (omega arith)) (simp append_assoc)
rows_text (a ∷ b ∷ c ∷ []) i n e l = rw (goes_on i n (omega arith) (omega arith), goes_on (i + 1) n (omega arith) (omega arith), ends_all (i + 1 + 1) n (omega arith)) (simp append_assoc)
rows_text (a ∷ b ∷ c ∷ d ∷ ws) i n e l =
    rw (
      goes_on i n (omega arith) (omega arith),
      goes_on (i + 1) n (omega arith) (omega arith),
      goes_on (i + 1 + 1) n (omega arith) (omega arith),
      ends_row (i + 1 + 1 + 1) n (omega arith),
      rows_text ws (i + 1 + 1 + 1 + 1) n (omega arith) (omega arith),
    )
    (simp append_assoc)
