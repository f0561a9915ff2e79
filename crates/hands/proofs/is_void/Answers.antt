use Rattle.std.proofs.Common.{◌*◌, eqb, sym, ap, ◌∙◌}
use Rattle.std.proofs.lemmas.Nat.{and_mask}
use Rattle.hands.specs.Hands.{none_from}
use Rattle.hands.proofs.Bits.{none_bits}
use Rattle.hands.proofs.is_void.Goals as goal

pub returns : goal.returns
returns c =
    let first = 13 * c.from.result in
    record { void = ap (λ x. eqb x 0) (and_mask _ 13) ∙ sym (none_bits c.args.hand first 13) ∙ ap (λ n. none_from c.args.hand (13 * n) 13) c.from.ensures.0 }
