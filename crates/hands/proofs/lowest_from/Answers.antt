use Rattle.std.proofs.Common.{◌∙◌, arith}
use Rattle.hands.proofs.Bits.{lowest_bit}
use Rattle.hands.proofs.lowest_from.Goals as goal

pub returns : goal.returns
returns c = record { card = c.then_some.ensures ∙ lowest_bit c.args.hand c.args.first c.args.cards 64 (omega arith) }
