use Rattle.std.proofs.Common.{rules}
use Rattle.laws.proofs.Boards.{at_most_371, way_on}
use Rattle.laws.proofs.ruling.Goals as goal

pub returns-then-is_over : goal.returns-then-is_over
returns-then-is_over c = record { ruling = search rules; lasts = at_most_371; way = way_on }

pub returns-else-is_over : goal.returns-else-is_over
returns-else-is_over c = record { ruling = search rules; lasts = at_most_371; way = way_on }
