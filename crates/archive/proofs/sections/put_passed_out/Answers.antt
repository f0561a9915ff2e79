use Rattle.std.proofs.Common.{[], ◌∷◌, codes}
use Rattle.writer.specs.Texts.{tag_line}
use Rattle.writer.proofs.Lines.{more_lines}
use Rattle.archive.proofs.sections.put_passed_out.Goals as goal

pub returns : goal.returns
returns c =
    let contract = tag_line (codes "Contract") (codes "Pass") in
    let result = tag_line (codes "Result") [] in
    let score = tag_line (codes "Score") (codes "NS 0") in
    record {
      wrote = more_lines (tag_line (codes "Declarer") []) (contract ∷ result ∷ score ∷ []) c.put_tag.ensures.wrote
          (more_lines contract (result ∷ score ∷ []) c.put_tag-2.ensures.wrote (more_lines result (score ∷ []) c.put_tag-3.ensures.wrote c.put_tag-4.ensures.wrote));
    }
