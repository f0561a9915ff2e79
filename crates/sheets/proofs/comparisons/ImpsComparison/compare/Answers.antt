use Rattle.std.proofs.Common.{◌≡◌, arith, Less, int_cmp}
use Rattle.std.proofs.lemmas.Int.{ints, to_z-of_z}
use Rattle.std.proofs.lemmas.Bool.Decides.{nat_tests}
use Rattle.std.proofs.lemmas.Cmp.{int_ranked}
use Rattle.sheets.proofs.comparisons.ImpsComparison.compare.Goals as goal

pub returns-in-Less : goal.returns-in-Less
returns-in-Less c =
    let cmp : Less ≡ int_cmp c.args.score c.args.other = simp (to_z-of_z, c.ranges.score, c.ranges.other) at c.in-Less.ensures in
    let below = int_ranked c.args.score c.args.other Less cmp in
    record { compared = grind (arith, nat_tests, ints, to_z-of_z) }
