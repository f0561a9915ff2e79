use Rattle.tricks.proofs.Winners.{highest_wins}
use Rattle.tricks.proofs.Trick.winner.Goals as goal

pub returns-in_default-clause-highest : goal.returns-in_default-clause-highest
returns-in_default-clause-highest c = highest_wins

pub returns-clause-highest : goal.returns-clause-highest
returns-clause-highest c = highest_wins
