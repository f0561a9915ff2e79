-- Layer 1 of reading: the questions put to a file and to its lines.
--     line_checked l              21 if the line l has more than 255 bytes, 22 if one of them is not printable
--     lines_checked ls            the same line by line
--     file_checked file           20 if the file has more than 65,535 bytes, then its lines
use Rattle.std.specs.Prelude.{ℕ, List, [], ◌∷◌, length, Ok, Result, nat_le}
use Rattle.faults.specs.declared.Fault.{Fault}
use Rattle.faults.specs.declared.Fault.TheVariants.{FileTooLong, LineTooLong, UnprintableByte}
use Rattle.faults.specs.Questions.{then, unless}
use Rattle.lines.specs.Lines.{Line, lines, printable}

abbrev pub line_checked : Line → Result Unit Fault
line_checked l =
    then (unless (nat_le (length l.text) 255) (LineTooLong l.start)) (λ _.
    unless (printable l.text) (UnprintableByte l.start))

abbrev pub lines_checked : List Line → Result Unit Fault
lines_checked [] = Ok tt
lines_checked (l ∷ ls) = then (line_checked l) (λ _. lines_checked ls)

abbrev pub file_checked : List ℕ → Result Unit Fault
file_checked file = then (unless (nat_le (length file) 65535) FileTooLong) (λ _. lines_checked (lines 0 file))
