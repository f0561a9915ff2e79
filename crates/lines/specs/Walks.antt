-- Walking over a file line by line.
--     seen l, step l, told r     what a line of the code stands for: a line, and where the next one starts
--     line_from i file           the line that starts at the offset i, and where the next one does
--     line_at i file             the same, if i is an offset in the file
--     lines_left it              the lines that an iterator over a file's lines has still to give
--     Heads r i file             r is the first of the lines from i on, and the others are those from its `next` on
use Rattle.std.specs.Prelude.{◌≡◌, ℕ, ◌+◌, ◌<◌, ◌≤◌, cond, List, [], ◌∷◌, length, take, drop, Some, None, Option, nat_lt}
use Rattle.std.specs.Option.{option_map}
use Rattle.lines.specs.declared.Line as code
use Rattle.lines.specs.declared.Lines as walk
use Rattle.lines.specs.Lines.{Line, lines, line_length, line_size}

abbrev pub seen : code.Line → Line
seen l = record { start = l.start; text = l.text.now }

pub record Step : Type 0 where
  pub line : Line
  pub next : ℕ

abbrev pub step : code.Line → Step
step l = record { line = seen l; next = l.next }

abbrev pub told : Option code.Line → Option Step
told = option_map step

abbrev pub line_from : ℕ → List ℕ → Step
line_from i file =
    let rest = drop i file in
    record { line = record { start = i; text = take (line_length rest) rest }; next = i + line_size rest }

abbrev pub line_at : ℕ → List ℕ → Option Step
line_at i file = cond (nat_lt i (length file)) (Some (line_from i file)) None

abbrev pub lines_left : walk.Lines → List Line
lines_left it = lines it.at (drop it.at it.file.now)

abbrev pub Heads : Option code.Line → ℕ → List ℕ → Type 0
Heads None i file = lines i (drop i file) ≡ []
Heads (Some l) i file = (lines i (drop i file) ≡ seen l ∷ lines l.next (drop l.next file)) × (i < l.next) × (l.next ≤ length file)
