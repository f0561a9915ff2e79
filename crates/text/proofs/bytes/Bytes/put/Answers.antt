use Rattle.std.proofs.Common.{arith}
use Rattle.text.proofs.Writes.{fits_byte, full_byte}
use Rattle.text.proofs.bytes.Bytes.put.Goals as goal

pub returns-then-self : goal.returns-then-self
returns-then-self g c = record { wrote = record { text = fits_byte c.args.self.now c.args.byte (omega arith) (omega arith) } }

pub returns-else-self : goal.returns-else-self
returns-else-self g c = record { wrote = record { text = full_byte c.args.self.now c.args.byte (omega arith) (omega arith) } }
