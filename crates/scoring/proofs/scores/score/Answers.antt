use Rattle.std.proofs.Common.{rules}
use Rattle.scoring.proofs.Computed.{rises, tens, worked}
use Rattle.scoring.proofs.scores.score.Goals as goal

pub returns-then-tricks-gt13 : goal.returns-then-tricks-gt13
returns-then-tricks-gt13 c = record { score = search rules; bounded = search rules; worked = worked; tens = tens; rises = rises }

pub returns : goal.returns
returns c = record { score = search rules; bounded = search rules; worked = worked; tens = tens; rises = rises }
