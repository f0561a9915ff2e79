use Rattle.std.proofs.Common.{◌∙◌}
use Rattle.text.proofs.Writes.{then, told}
use Rattle.archive.proofs.sections.put_contract.Goals as goal

pub returns : goal.returns
returns c =
    let denomination = told (c.as_bytes.ensures.value ∙ c.denomination_text.ensures.text) c.put_all.ensures.wrote in
    let doubling = told (c.as_bytes-2.ensures.value ∙ c.doubling_text.ensures.text) c.put_all-2.ensures.wrote in
    record { wrote = then c.put.ensures.wrote (then denomination doubling) }
