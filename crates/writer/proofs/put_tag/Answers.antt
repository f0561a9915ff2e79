use Rattle.text.proofs.Writes.{then, told}
use Rattle.writer.proofs.Lines.{tag_parts}
use Rattle.writer.proofs.put_tag.Goals as goal

pub returns : goal.returns
returns c =
    record {
      wrote = told (tag_parts c.args.name.now c.args.value.now)
          (then c.put.ensures.wrote (then c.put_all.ensures.wrote (then c.put_all-2.ensures.wrote (then c.put_all-3.ensures.wrote c.put_all-4.ensures.wrote))));
    }
