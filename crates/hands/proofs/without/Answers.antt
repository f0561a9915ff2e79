use Rattle.std.proofs.Common.{sym, ◌∙◌, arith}
use Rattle.hands.proofs.Bits.{without_bit}
use Rattle.hands.proofs.Holdings.{without_none}
use Rattle.hands.proofs.without.Goals as goal

pub overflow_shl-result : goal.overflow_shl-result
overflow_shl-result c = (without_bit c.args.hand c.args.card (omega arith) (sym c.holds.ensures.holds ∙ c.if-holds.true)).0

pub overflow_sub-result : goal.overflow_sub-result
overflow_sub-result c = omega (arith, without_bit c.args.hand c.args.card (omega arith) (sym c.holds.ensures.holds ∙ c.if-holds.true))

pub returns-then-holds : goal.returns-then-holds
returns-then-holds c = record { hand = omega (arith, without_bit c.args.hand c.args.card (omega arith) (sym c.holds.ensures.holds ∙ c.if-holds.true)) }

pub returns-else-holds : goal.returns-else-holds
returns-else-holds c = record { hand = sym (without_none c.args.hand c.args.card (sym c.holds.ensures.holds ∙ c.if-holds.false)) }
