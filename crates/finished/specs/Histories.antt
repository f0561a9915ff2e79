-- The board that a finished board is.
--     history f                  its number, dealer, vulnerability, deal, calls and cards
--     checked b                  the board b, if it is complete
use Rattle.std.specs.Prelude.{cond, Some, None, Option}
use Rattle.laws.specs.History.{Board}
use Rattle.finished.specs.declared.FinishedBoard.{FinishedBoard}
use Rattle.finished.specs.Finished.{board_of, is_complete}
use Rattle.text.specs.Bytes.{written}

abbrev pub history : FinishedBoard → Board
history f = board_of f.number f.dealer f.vulnerability f.deal (written f.calls) (written f.cards)

abbrev pub checked : Board → Option Board
checked b = cond (is_complete b) (Some b) None
