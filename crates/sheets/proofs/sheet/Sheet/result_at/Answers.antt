use Rattle.std.proofs.Common.{◌≡◌, take, drop, ◌+◌, arith, w32, SFits, rules}
use Rattle.std.proofs.lemmas.Int.{ints, to_z-of_z}
use Rattle.std.proofs.lemmas.List.{take_rest}
use Rattle.sheets.specs.Results.{score_at, against}
use Rattle.sheets.proofs.Sums.{result_split}
use Rattle.sheets.proofs.sheet.Sheet.result_at.Goals as goal

pub returns-clause-result : goal.returns-clause-result
returns-clause-result g c =
    let f = g.C.Comparison.compared in
    let rows = c.rows-rows.result.now in
    let score = score_at rows c.args.i in
    let fits : SFits w32 score = search rules in
    let before : c.against.result ≡ against f score (take c.args.i rows) = simp to_z-of_z at c.against.ensures.sum in
    let after : c.against-2.result ≡ against f score (drop (c.args.i + 1) rows) = simp (to_z-of_z, take_rest) at c.against-2.ensures.sum in
    let split = result_split f rows c.args.i in
    rw (← c.rows-rows.ensures.rows) (omega (arith, ints))
