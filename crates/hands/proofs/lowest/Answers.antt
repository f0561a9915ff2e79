use Rattle.hands.proofs.Holdings.{lowest_found}
use Rattle.hands.proofs.lowest.Goals as goal

pub returns-clause-lowest : goal.returns-clause-lowest
returns-clause-lowest c = lowest_found
