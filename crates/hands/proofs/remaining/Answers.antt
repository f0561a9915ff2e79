use Rattle.hands.proofs.Holdings.{remains}
use Rattle.hands.proofs.remaining.Goals as goal

pub returns-clause-remains : goal.returns-clause-remains
returns-clause-remains c = remains
