use Rattle.std.proofs.Common.{rules}
use Rattle.auctions.proofs.Lengths.{at_most_319, pass_is_lawful}
use Rattle.auctions.proofs.Steps.{steps}
use Rattle.auctions.proofs.Standing.start.Goals as goal

pub returns : goal.returns
returns c = record { standing = search rules; steps = steps; pass = pass_is_lawful; ends = at_most_319 }
