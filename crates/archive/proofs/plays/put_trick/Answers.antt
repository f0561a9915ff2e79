use Rattle.std.proofs.Common.{ap, ◌∙◌}
use Rattle.cards.specs.declared.chairs.Chair.{Chair}
use Rattle.cards.specs.Chairs.{next}
use Rattle.text.proofs.Writes.{then, told}
use Rattle.archive.specs.Records.{card_by, card_text, trick_columns}
use Rattle.archive.proofs.plays.put_trick.Goals as goal

pub returns : goal.returns
unfolding trick_columns
returns c =
    let card = λ (x : Chair). card_text (card_by c.args.trick.now.leader c.args.trick.now.cards.now x) in
    let second = c.next-second.ensures.chair in
    let third = c.next-third.ensures.chair ∙ ap next second in
    let fourth = c.next.ensures.chair ∙ ap next third in
    let row = then c.put_card_of.ensures.wrote (then c.put.ensures.wrote (then (told (ap card second) c.put_card_of-2.ensures.wrote) (then c.put-2.ensures.wrote
    (then (told (ap card third) c.put_card_of-3.ensures.wrote) (then c.put-3.ensures.wrote (told (ap card fourth) c.put_card_of-4.ensures.wrote)))))) in
    record { wrote = then row c.put-4.ensures.wrote }
