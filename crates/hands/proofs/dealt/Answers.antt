use Rattle.hands.proofs.Holdings.{deals}
use Rattle.hands.proofs.dealt.Goals as goal

pub returns-clause-deals : goal.returns-clause-deals
returns-clause-deals c = deals
