use Rattle.tricks.proofs.Lowest.{legal}
use Rattle.tricks.proofs.Turn.lowest_legal.Goals as goal

pub returns-in-Some-clause-legal : goal.returns-in-Some-clause-legal
returns-in-Some-clause-legal c = legal

pub returns-in_default-clause-legal : goal.returns-in_default-clause-legal
returns-in_default-clause-legal c = legal
