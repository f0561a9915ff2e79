use Rattle.std.proofs.Common.{ℕ, [], ◌∷◌, ap, ◌∙◌}
use Rattle.cards.specs.Chairs.{next}
use Rattle.text.proofs.Writes.{then, told}
use Rattle.writer.specs.Texts.{deal_text, hand_text}
use Rattle.writer.proofs.put_hands.Goals as goal

pub returns : goal.returns
unfolding deal_text
returns c =
    let hand = hand_text c.args.deal.now in
    let second = c.next-second.ensures.chair in
    let third = c.next-third.ensures.chair ∙ ap next second in
    let fourth = c.next.ensures.chair ∙ ap next third in
    record {
      wrote = then (told (ap (λ (b : ℕ). b ∷ []) c.chair_letter.ensures.letter) c.put.ensures.wrote) (then c.put-2.ensures.wrote
          (then c.put_hand.ensures.wrote (then c.put-3.ensures.wrote (then (told (ap hand second) c.put_hand-2.ensures.wrote) (then c.put-4.ensures.wrote
          (then (told (ap hand third) c.put_hand-3.ensures.wrote) (then c.put-5.ensures.wrote (told (ap hand fourth) c.put_hand-4.ensures.wrote))))))));
    }
