-- The first line of some bytes, and the lines after it.
use Rattle.std.proofs.Common.{◌≡◌, ℕ, suc, ◌+◌, ◌-◌, ◌<◌, ◌≤◌, eqb, List, [], ◌∷◌, length, take, drop, inl, inr, ◌∙◌, add-suc, suc-add, add-one, arith}
use Rattle.std.proofs.lemmas.Bool.{cases_Bool}
use Rattle.std.proofs.lemmas.List.{length-drop, drop-drop}
use Rattle.lines.specs.Walks.{line_from}
use Rattle.lines.specs.Lines.{LF, CR, Line, line_length, line_size, lines}
use Rattle.lines.proofs.EndMarks.{line_size-by_lf}

abbrev pub first : ℕ → List ℕ → Line
first i bs = record { start = i; text = take (line_length bs) bs }

first_then : (i b : ℕ) (bs : List ℕ) → lines i (b ∷ bs) ≡ first i (b ∷ bs) ∷ lines (i + line_size (b ∷ bs)) (drop (line_size (b ∷ bs)) (b ∷ bs))
first_then i b [] =
    elim (cases_Bool (eqb b LF)) [
      | inl h ↦ simp h
      | inr h ↦ elim (cases_Bool (eqb b CR)) [ inl m ↦ simp (h, m) | inr m ↦ simp (h, m) ]
    ]
first_then i b (x ∷ bs) =
    let ih = first_then (suc i) x bs in
    elim (cases_Bool (eqb b LF)) [
      | inl h ↦ simp (h, add-one)
      | inr h ↦ elim (cases_Bool (eqb b CR)) [
        | inl m ↦ elim (cases_Bool (eqb x LF)) [ inl k ↦ let two : i + 2 ≡ suc (suc i) = omega arith in simp (h, m, k, two) | inr k ↦ simp (h, m, ih, add-suc, suc-add) (simp k) ]
        | inr m ↦ simp (h, m, ih, add-suc, suc-add)
      ]
    ]

pub lines_first : (i : ℕ) (bs : List ℕ) → 0 < length bs → lines i bs ≡ first i bs ∷ lines (i + line_size bs) (drop (line_size bs) bs)
lines_first i [] h = absurd (omega arith)
lines_first i (b ∷ bs) h = first_then i b bs

-- the first line's text, and where the next line starts, tell what comes from the offset i on
pub line_is : (i : ℕ) (file text : List ℕ) (next : ℕ) → i < length file → text ≡ take (line_length (drop i file)) (drop i file) → next ≡ i + line_size (drop i file)
    → (record { line = record { start = i; text = text }; next = next } ≡ line_from i file)
    × ((lines i (drop i file) ≡ record { start = i; text = text } ∷ lines next (drop next file)) × (i < next) × (next ≤ length file))
line_is i file text next h t n =
    let some : 0 < length (drop i file) = simp length-drop (omega arith) in
    let size = line_size-by_lf (drop i file) in
    let within : length (drop i file) ≡ length file - i = length-drop i file in
    (simp (t, n), (lines_first i (drop i file) some ∙ simp (t, n, drop-drop), omega arith, omega arith))
