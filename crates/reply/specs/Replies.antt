-- What is answered to a deal file: the four tag lines of its game, or a line that names its fault, and an empty line.
use Rattle.std.specs.Prelude.{ℕ, List, [], ◌∷◌, ◌++◌, Ok, Err, Result}
use Rattle.faults.specs.declared.Fault.{Fault}
use Rattle.reader.specs.Reading.{Game, file_read}
use Rattle.writer.specs.Texts.{fault_line, game_lines, text}

abbrev pub reply_lines : Result Game Fault → List (List ℕ)
reply_lines (Ok g) = game_lines g.number g.deal
reply_lines (Err f) = fault_line f ∷ []

unfoldable pub reply_to : List ℕ → List ℕ
reply_to file = text (reply_lines (file_read file) ++ ([] ∷ []))
