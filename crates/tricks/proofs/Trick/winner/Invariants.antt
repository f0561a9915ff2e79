use Rattle.std.proofs.Common.{◌≡◌, drop}
use Rattle.cards.specs.Chairs.{next}
use Rattle.tricks.specs.Tricks.{winner, winner_from}
use Rattle.tricks.proofs.Trick.winner.Given as goal

-- the best card so far and the cards to come give the winner
abbrev pub invariant-loop-card : goal.invariant-loop-card
invariant-loop-card l = winner_from l.trumps l.by l.best (next l.turn) (drop l.card-index l.rest) ≡ winner l.trumps l.self.leader l.self.cards.now
