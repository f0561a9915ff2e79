use Rattle.std.proofs.Common.{◌<◌, length, ap, arith, length-append}
use Rattle.std.proofs.lemmas.Grind.{common_steps}
use Rattle.std.proofs.lemmas.Nat.{pow_below}
use Rattle.cards.proofs.hands.dealt.Goals as goal

pub overflow_mul-hand : goal.overflow_mul-hand
overflow_mul-hand c =
    let l : length c.loop-receiver.invariant.0 < 62 = omega (arith, simp length-append at (ap length c.loop-receiver.invariant.1)) in
    omega (arith, pow_below (length c.loop-receiver.invariant.0) 62 l)

pub overflow_add-hand : goal.overflow_add-hand
overflow_add-hand c =
    let l : length c.loop-receiver.invariant.0 < 62 = omega (arith, simp length-append at (ap length c.loop-receiver.invariant.1)) in
    let p = pow_below (length c.loop-receiver.invariant.0) 62 l in
    grind (arith, common_steps)
