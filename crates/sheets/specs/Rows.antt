-- What a sheet asks of a row.
--     number e                   the number of a refusal
--     listed p rows              the pair p stands on one of the rows, in either column
--     pairs_fit rows ns ew       both pairs are 1 to 999, different, and neither is on the rows
--     score_fits z               z is a multiple of 10 from -7,600 to 7,600
--     row_at rows i              row i, counted from 0, if there is such a row
--     ruling cap rows row        what a sheet that holds rows, with memory for cap of them, answers to one more
use Rattle.std.specs.Prelude.{ℕ, ◌%◌, Bool, false, cond, not, ◌||◌, List, length, ℤ, pos, Ok, Err, Result, ◌==◌, nat_le, nat_lt, slice_index_or, unsigned_abs}
use Rattle.std.specs.List.{list_any}
use Rattle.sheets.specs.declared.rows.Refusal.{Refusal}
use Rattle.sheets.specs.declared.rows.Refusal.TheVariants.{NoSpace, WrongPairs, WrongScore, NoRow}
use Rattle.sheets.specs.declared.rows.Row.{Row}

abbrev pub number : Refusal → ℕ
number NoSpace = 16
number WrongPairs = 17
number WrongScore = 18
number NoRow = 19

abbrev pub listed : ℕ → List Row → Bool
listed p rows = list_any (λ (r : Row). r.ns == p || r.ew == p) rows

abbrev pub is_pair : ℕ → Bool
is_pair p = cond (nat_le 1 p) (nat_le p 999) false

abbrev pub pairs_fit : List Row → ℕ → ℕ → Bool
pairs_fit rows ns ew = cond (is_pair ns) (cond (is_pair ew) (cond (ns == ew) false (cond (listed ns rows) false (not (listed ew rows)))) false) false

abbrev pub score_fits : ℤ → Bool
score_fits z = cond (nat_le (unsigned_abs z) 7600) (unsigned_abs z % 10 == 0) false

abbrev pub ruling : ℕ → List Row → Row → Result Unit Refusal
ruling cap rows row =
    cond (nat_lt (length rows) 128) (cond (nat_lt (length rows) cap) (cond (pairs_fit rows row.ns row.ew) (cond (score_fits row.score) (Ok tt)
    (Err WrongScore)) (Err WrongPairs)) (Err NoSpace)) (Err NoSpace)

abbrev pub blank : Row
blank = record { ns = 0; ew = 0; score = pos 0 }

abbrev pub row_at : List Row → ℕ → Result Row Refusal
row_at rows i = cond (nat_lt i (length rows)) (Ok (slice_index_or rows i blank)) (Err NoRow)
