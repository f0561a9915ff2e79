use Rattle.std.proofs.Common.{◌≡◌, ◌*◌, ◌^◌, ◌≤◌, length, nat_abs}
use Rattle.sheets.specs.Results.{sum_to}
use Rattle.sheets.specs.Sheets.{held}
use Rattle.sheets.proofs.sheet.Sheet.sum.Given as goal

abbrev pub invariant-loop-i : goal.invariant-loop-i
invariant-loop-i g l =
    (l.i-end ≡ length (held l.self)) × (l.i-end ≤ 128) × (nat_abs l.sum ≤ l.i * 2 ^ 39)
    × (l.sum ≡ sum_to g.C.Comparison.compared (held l.self) l.i)
