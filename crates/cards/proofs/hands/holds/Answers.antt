use Rattle.std.proofs.Common.{eqb, sym, ap, ◌∙◌, arith}
use Rattle.std.proofs.lemmas.Nat.{and_mask}
use Rattle.std.proofs.lemmas.Bool.Decides.{nat_tests}
use Rattle.cards.proofs.Bits.{holds_bit, holds_past}
use Rattle.cards.proofs.hands.holds.Goals as goal

pub returns-then-card-lt-BITS : goal.returns-then-card-lt-BITS
returns-then-card-lt-BITS c = record { holds = ap (λ x. eqb x 1) (and_mask _ 1) ∙ sym (holds_bit c.args.hand c.args.card) }

pub returns-else-card-lt-BITS : goal.returns-else-card-lt-BITS
returns-else-card-lt-BITS c = let past = holds_past c.args.hand 64 c.args.card (omega arith) (omega arith) in record { holds = grind (arith, nat_tests) }
