use Rattle.std.proofs.Common.{rules}
use Rattle.text.proofs.Writes.{alone}
use Rattle.text.proofs.bytes.Bytes.from_slice.Goals as goal

pub returns-clause-whole : goal.returns-clause-whole
returns-clause-whole g c = search (rules, alone)
