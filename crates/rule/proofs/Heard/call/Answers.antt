use Rattle.std.proofs.Common.{◌∷◌, [], ◌++◌, length, ap, ◌∙◌, arith}
use Rattle.std.proofs.lemmas.List.{length-append}
use Rattle.text.specs.Bytes.{written}
use Rattle.text.proofs.Writes.{kept_whole}
use Rattle.rule.proofs.Heard.call.Goals as goal

pub returns : goal.returns
returns c =
    let calls = written c.args.self.now.calls ++ (c.in_ok-call.call ∷ []) in
    let whole = c.put.ensures.wrote.text ∙ kept_whole _ calls (simp length-append (omega arith)) in
    record { kept = ap length whole ∙ length-append (written c.args.self.now.calls) (c.in_ok-call.call ∷ []) }
