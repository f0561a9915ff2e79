use Rattle.std.proofs.Common.{decimal, ap, arith}
use Rattle.std.proofs.lemmas.List.{append_assoc}
use Rattle.text.proofs.Writes.{then, told}
use Rattle.writer.specs.Texts.{fault_text}
use Rattle.writer.proofs.Lengths.{fault_short}
use Rattle.writer.proofs.put_fault.Goals as goal

pub returns : goal.returns
unfolding fault_text
returns c =
    record {
      wrote = told (simp append_assoc)
          (then c.put_all.ensures.wrote (then (told (ap decimal c.layer.ensures.layer) c.put_decimal.ensures.wrote) (then c.put.ensures.wrote (then (told (ap decimal c.number.ensures.number) c.put_decimal-2.ensures.wrote)
          (then c.put-2.ensures.wrote (then (told (ap decimal c.offset.ensures.offset) c.put_decimal-3.ensures.wrote) c.put-3.ensures.wrote))))));
      short = fault_short _ _ _ (omega (arith, c.layer.ensures.layer)) (omega (arith, c.number.ensures.number)) (omega (arith, c.offset.ensures.offset));
    }
