use Rattle.text.proofs.Writes.{then}
use Rattle.writer.specs.Texts.{hand_text}
use Rattle.writer.proofs.put_hand.Goals as goal

pub returns : goal.returns
unfolding hand_text
returns c =
    record {
      wrote = then c.put_suit.ensures.wrote (then c.put.ensures.wrote (then c.put_suit-2.ensures.wrote (then c.put-2.ensures.wrote
          (then c.put_suit-3.ensures.wrote (then c.put-3.ensures.wrote c.put_suit-4.ensures.wrote)))));
    }
