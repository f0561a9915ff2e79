use Rattle.std.proofs.Common.{◌≡◌, ◌*◌, ◌^◌, ◌≤◌, drop, ◌+ℤ◌, nat_abs}
use Rattle.sheets.specs.Results.{against}
use Rattle.sheets.proofs.sheet.results.against.Given as goal

abbrev pub invariant-loop-row : goal.invariant-loop-row
invariant-loop-row g l =
    let f = g.C.Comparison.compared in
    (nat_abs l.sum ≤ l.row-index * 2 ^ 31)
    × (l.sum +ℤ against f l.score (drop l.row-index l.rows) ≡ against f l.score l.rows)
