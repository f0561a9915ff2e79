use Rattle.std.proofs.Common.{◌≡◌, length, ap, ◌∙◌, arith}
use Rattle.std.proofs.lemmas.Int.{ints}
use Rattle.sheets.specs.Results.{sum_to}
use Rattle.sheets.specs.Sheets.{held}
use Rattle.sheets.proofs.Sums.{adds_up, sum_more}
use Rattle.sheets.proofs.sheet.Sheet.sum.Goals as goal

pub loop-i-preserved : goal.loop-i-preserved
loop-i-preserved g c =
    let more = sum_more g.C.Comparison.compared (held c.args.self.now) c.loop-i.i in
    let so_far = c.loop-i.invariant in
    (so_far.0, so_far.1, omega (arith, ints), omega (arith, ints))

pub returns-clause-shared : goal.returns-clause-shared
returns-clause-shared g c =
    let f = g.C.Comparison.compared in
    let all : c.loop-i.i ≡ length (held c.args.self.now) = omega arith in
    c.loop-i.invariant.3 ∙ ap (sum_to f (held c.args.self.now)) all ∙ adds_up f g.C.Comparison.TOTAL g.met.C.Comparison.balanced (held c.args.self.now)

pub returns-clause-law : goal.returns-clause-law
returns-clause-law g c = adds_up g.C.Comparison.compared g.C.Comparison.TOTAL g.met.C.Comparison.balanced
