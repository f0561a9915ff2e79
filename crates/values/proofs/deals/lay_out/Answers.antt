use Rattle.std.proofs.Common.{◌≡◌, ◌≤◌, false, Some, length, get_or, sym, ap, ◌∙◌, rules}
use Rattle.values.specs.Cursors.{layout}
use Rattle.values.specs.Letters.{chair_named}
use Rattle.values.proofs.Layouts.{hands_of}
use Rattle.values.proofs.deals.lay_out.Goals as goal

pub returns : goal.returns
returns c =
    let value = c.args.value.now in
    let long : 2 ≤ length value = search rules in
    let colon : get_or value 1 0 ≡ 58 = search rules in
    let named : chair_named (get_or value 0 0) ≡ Some c.in_ok-first.first = search rules in
    let e = hands_of value c.in_ok-first.first long colon named in
    record { laid = c.lay_out_hands.ensures.laid ∙ ap (layout c.args.laid.now false) (sym e) }
