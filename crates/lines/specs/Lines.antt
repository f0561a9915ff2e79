-- A line ends at LF, at CR LF or at the file's end, which are no part of it; after a last LF no line begins.
--     lines i bs                 the lines of the bytes bs, of which the first stands at the offset i
--     line_length bs, line_size bs how many bytes the first line has, without its end mark and with it
--     printable bs               every byte is from 32 to 126
use Rattle.std.specs.Prelude.{ℕ, suc, Bool, true, false, cond, List, [], ◌∷◌, ◌==◌, nat_le}

abbrev pub LF : ℕ
LF = 10

abbrev pub CR : ℕ
CR = 13

abbrev pub begins_lf : List ℕ → Bool
begins_lf [] = false
begins_lf (b ∷ bs) = b == LF

-- an end mark begins at b, which bs follow
abbrev pub marks : ℕ → List ℕ → Bool
marks b bs = cond (b == LF) true (cond (b == CR) (begins_lf bs) false)

abbrev pub line_length : List ℕ → ℕ
line_length [] = 0
line_length (b ∷ bs) = cond (marks b bs) 0 (suc (line_length bs))

abbrev pub line_size : List ℕ → ℕ
line_size [] = 0
line_size (b ∷ bs) = cond (b == LF) 1 (suc (line_size bs))

-- the offset at which a line starts, and its text
pub record Line : Type 0 where
  pub start : ℕ
  pub text : List ℕ

-- some bytes, from the offset i on, put before the first of the lines that follow them
abbrev pub before : ℕ → List ℕ → List Line → List Line
before i bs [] = record { start = i; text = bs } ∷ []
before i [] (l ∷ ls) = record { start = i; text = l.text } ∷ ls
before i (b ∷ bs) (l ∷ ls) = record { start = i; text = b ∷ l.text } ∷ ls

abbrev pub lines : ℕ → List ℕ → List Line
lines i [] = []
lines i (b ∷ bs) =
    cond (b == LF) (record { start = i; text = [] } ∷ lines (suc i) bs)
    (before i (cond (marks b bs) [] (b ∷ [])) (lines (suc i) bs))

abbrev pub printable : List ℕ → Bool
printable [] = true
printable (b ∷ bs) = cond (nat_le 32 b) (cond (nat_le b 126) (printable bs) false) false
