use Rattle.std.proofs.Common.{◌∷◌, [], length, sym, refl, ap, ◌∙◌, ap₂, add-one, arith, rules}
use Rattle.std.proofs.lemmas.List.{length_push}
use Rattle.text.proofs.Writes.{nothing, told}
use Rattle.tricks.specs.Tricks.{leader, trick}
use Rattle.tricks.proofs.Rounds.{leader_after, next_trick}
use Rattle.writer.specs.Texts.{text}
use Rattle.writer.proofs.Lines.{lines_put}
use Rattle.archive.specs.Records.{trick_columns, trick_rows}
use Rattle.archive.proofs.plays.put_tricks.Goals as goal

pub loop-cards-init : goal.loop-cards-init
loop-cards-init c =
    record {
      by_four = search rules;
      to_come = search rules;
      whole = omega arith;
      leads = refl;
      wrote = nothing _;
    }

pub loop-cards-preserved : goal.loop-cards-preserved
loop-cards-preserved c =
    let t = c.args.trumps in
    let l = c.args.opening in
    let cards = c.args.cards.now in
    let k = length c.loop-cards.yielded in
    let so_far = c.loop-cards.invariant in
    let steps = c.in-Some.ensures.steps in
    let next = next_trick t l cards k c.in-Some.cards.now _ so_far.whole (sym so_far.to_come ∙ steps.1.0) (steps.1.1 ∙ so_far.by_four) in
    let row = told (ap₂ (λ m cs. text (trick_columns m cs l ∷ [])) so_far.leads next.0) c.put_trick.ensures.wrote in
    simp length_push (record {
      by_four = steps.0 ∙ so_far.by_four;
      to_come = next.1;
      whole = next.2;
      leads = c.winner-leader.ensures.winner ∙ leader_after t l cards k c.loop-cards.leader c.in-Some.cards.now so_far.leads next.0;
      wrote = told (ap (λ n. text (trick_rows t l cards n)) (sym (add-one k))) (lines_put (trick_rows t l cards k) (trick_columns (leader t l cards k) (trick cards k) l ∷ []) so_far.wrote row);
    })
