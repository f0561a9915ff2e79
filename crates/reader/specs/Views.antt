-- What the reader's own types stand for, and how it answers.
--     told h, headers r           the four tags of a game
--     number_in g                 the answer: a board number or a fault
--     deal_in old g               the caller's 52 bytes after it: the deal, or what they held before
use Rattle.std.specs.Prelude.{ℕ, List, Ok, Result}
use Rattle.faults.specs.declared.Fault.{Fault}
use Rattle.faults.specs.Questions.{then}
use Rattle.tags.specs.Views.{found}
use Rattle.values.specs.Cursors.{filled}
use Rattle.reader.specs.declared.Header.{Header}
use Rattle.reader.specs.Reading.{Game, Tags}

abbrev pub told : Header → Tags
told h = record { board = found h.board; dealer = found h.dealer; vulnerable = found h.vulnerable; deal = found h.deal }

abbrev pub headers : Result Header Fault → Result Tags Fault
headers r = then r (λ h. Ok (told h))

abbrev pub number_in : Result Game Fault → Result ℕ Fault
number_in r = then r (λ g. Ok g.number)

abbrev pub deal_in : List ℕ → Result Game Fault → List ℕ
deal_in old r = filled old (then r (λ g. Ok g.deal))
