-- A row's result is its sum against all other rows, under a rule f of comparison.
--     against f a rows           what the score a gets against each of the rows, added up
--     result_of f rows i         the result of row i, counted from 0
--     answered f rows i          the same, if there is such a row
--     sum_of f rows              the results of all rows, added up
--     shared t n                 the total t for each two of n rows: t × n × (n − 1) / 2
--     AddsUp f t                 the results of all rows always add up to that
use Rattle.std.specs.Prelude.{◌≡◌, ℕ, zero, suc, ◌-◌, ◌*◌, ◌/◌, cond, List, [], ◌∷◌, ◌++◌, length, take, drop, ℤ, pos, ◌+ℤ◌, ◌*ℤ◌, Ok, Err, Result, nat_lt, slice_index_or}
use Rattle.sheets.specs.declared.rows.Refusal.{Refusal}
use Rattle.sheets.specs.declared.rows.Refusal.TheVariants.{NoRow}
use Rattle.sheets.specs.declared.rows.Row.{Row}
use Rattle.sheets.specs.Rows.{blank}

abbrev pub score_at : List Row → ℕ → ℤ
score_at rows i = (slice_index_or rows i blank).score

abbrev pub against : (ℤ → ℤ → ℤ) → ℤ → List Row → ℤ
against f a [] = pos 0
against f a (r ∷ rs) = f a r.score +ℤ against f a rs

abbrev pub result_of : (ℤ → ℤ → ℤ) → List Row → ℕ → ℤ
result_of f rows i = against f (score_at rows i) (take i rows ++ drop (suc i) rows)

abbrev pub answered : (ℤ → ℤ → ℤ) → List Row → ℕ → Result ℤ Refusal
answered f rows i = cond (nat_lt i (length rows)) (Ok (result_of f rows i)) (Err NoRow)

abbrev pub sum_to : (ℤ → ℤ → ℤ) → List Row → ℕ → ℤ
sum_to f rows zero = pos 0
sum_to f rows (suc n) = sum_to f rows n +ℤ result_of f rows n

abbrev pub sum_of : (ℤ → ℤ → ℤ) → List Row → ℤ
sum_of f rows = sum_to f rows (length rows)

abbrev pub shared : ℤ → ℕ → ℤ
shared t n = t *ℤ pos (n * (n - 1) / 2)

abbrev pub AddsUp : (ℤ → ℤ → ℤ) → ℤ → Type 0
AddsUp f t = (rows : List Row) → sum_of f rows ≡ shared t (length rows)
