use Rattle.std.proofs.Common.{◌≡◌, ◌+◌, cond, length, sym, ap, ◌∙◌, ap₂, arith}
use Rattle.std.proofs.lemmas.List.{length_push}
use Rattle.cards.specs.Chairs.{same_side}
use Rattle.tricks.specs.Tricks.{leader}
use Rattle.tricks.proofs.Rounds.{leader_after, next_trick, won_next, won_one}
use Rattle.tricks.proofs.Progress.of.Goals as goal

pub loop-cards-preserved : goal.loop-cards-preserved
loop-cards-preserved c =
    let cards = c.args.cards.now in
    let first = c.next-leader.result in
    let k = length c.loop-cards.yielded in
    let so_far = c.loop-cards.invariant in
    let steps = c.in-Some.ensures.steps in
    let next = next_trick c.args.trumps first cards k c.in-Some.cards.now _ so_far.whole (sym so_far.to_come ∙ steps.1.0) (steps.1.1 ∙ so_far.by_four) in
    let leads : c.winner-leader.result ≡ leader c.args.trumps first cards (k + 1) =
    c.winner-leader.ensures.winner ∙ leader_after c.args.trumps first cards k c.loop-cards.leader c.in-Some.cards.now so_far.leads next.0 in
    let one = won_one c.same_side.result in
    simp length_push (record {
      by_four = steps.0 ∙ so_far.by_four;
      to_come = next.1;
      whole = next.2;
      leads = leads;
      wins = ap₂ (λ m n. m + n) so_far.wins (c.from-won.ensures ∙ one.0 ∙ ap (λ b. cond b 1 0) (c.same_side.ensures.side ∙ ap (λ x. same_side x c.args.declarer) leads)) ∙ sym (won_next c.args.trumps first cards c.args.declarer k);
      few = omega (arith, so_far.few, c.from-won.ensures, one.1);
    })
