use Rattle.std.proofs.Common.{arith, w32, SFits, rules}
use Rattle.std.proofs.lemmas.Int.{ints, to_z-of_z}
use Rattle.sheets.specs.Results.{score_at}
use Rattle.sheets.proofs.Sums.{against_more}
use Rattle.sheets.proofs.sheet.results.against.Goals as goal

pub loop-row-preserved : goal.loop-row-preserved
loop-row-preserved g c =
    let score_fits = c.ranges.score in
    let row_fits : SFits w32 (score_at c.args.rows.now c.loop-row.row-index) = search rules in
    let more = against_more g.C.Comparison.compared c.args.score c.args.rows.now c.loop-row.row-index (omega arith) in
    let compared = simp to_z-of_z at c.compare.ensures.compared in
    let so_far = simp to_z-of_z at c.loop-row.invariant.1 in
    (omega (arith, ints), simp to_z-of_z (omega (arith, ints)))
