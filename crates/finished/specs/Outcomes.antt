-- What a board came to.
--     Came                       the contract by its terms, declarer, the tricks of declarer's side and the score to North-South
--     came_to b                  what the board b came to; nothing if it was passed out
--     told o                     what an outcome says
use Rattle.std.specs.Prelude.{ℕ, ℤ, Some, None, Option}
use Rattle.auctions.specs.Outcomes.{Terms, contract_of, terms}
use Rattle.cards.specs.declared.boards.Vulnerability.{Vulnerability}
use Rattle.cards.specs.declared.chairs.Chair.{Chair}
use Rattle.scoring.specs.Scores.{is_vulnerable, score, to_ns}
use Rattle.laws.specs.History.{Board, auction_of, declarer_on, tricks_on}
use Rattle.finished.specs.declared.Outcome.{Outcome}

pub record Came : Type 0 where
  pub contract : Terms
  pub declarer : Chair
  pub tricks : ℕ
  pub score : ℤ

abbrev pub came : Vulnerability → ℕ → Option Terms → Option Chair → Option Came
came v t None o = None
came v t (Some k) None = None
came v t (Some k) (Some c) = Some (record { contract = k; declarer = c; tricks = t; score = to_ns c (score k.0 k.1 k.2 (is_vulnerable v c) t) })

abbrev pub came_to : Board → Option Came
came_to b = came b.vulnerability (tricks_on b) (contract_of (auction_of b)) (declarer_on b)

abbrev pub told : Outcome → Came
told o = record { contract = terms o.contract; declarer = o.declarer; tricks = o.tricks; score = o.score }
