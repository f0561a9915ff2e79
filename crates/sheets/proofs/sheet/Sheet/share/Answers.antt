use Rattle.std.proofs.Common.{◌≡◌, ◌-◌, ◌*◌, ◌/◌, length, ap, ◌∙◌, arith, w32, SFits, rules}
use Rattle.sheets.proofs.Shares.{meetings_few, share_is}
use Rattle.sheets.proofs.sheet.Sheet.share.Goals as goal

pub returns : goal.returns
returns g c =
    let n = length c.rows-rows.result.now in
    let total : c.from.result ≡ g.C.Comparison.TOTAL = search rules in
    let meetings = meetings_few n c.saturating_sub.result c.rows-rows.ensures.few (omega arith) in
    let fits : SFits w32 c.from.result = search rules in
    let met = ap (λ k. n * k / 2) c.saturating_sub.ensures ∙ ap (λ r. length r * (length r - 1) / 2) c.rows-rows.ensures.rows in
    record { share = share_is c.from.result (n * c.saturating_sub.result / 2) fits (omega arith) _ _ total met }
