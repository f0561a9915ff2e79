use Rattle.std.proofs.Common.{◌≡◌, pos, ◌-ℤ◌, arith, w32, to_z, of_z}
use Rattle.std.proofs.lemmas.Int.{ints}
use Rattle.scoring.specs.Scores.{score}
use Rattle.scoring.proofs.Computed.{tens}
use Rattle.scoring.proofs.Points.{is_down, is_made, sized}
use Rattle.scoring.proofs.scores.points.Goals as goal

pub returns-then-tricks-needed : goal.returns-then-tricks-needed
returns-then-tricks-needed c =
    let k = c.args.contract in
    let e = is_made k.level k.denomination k.doubling c.args.vulnerable c.args.tricks c.made_points.result (omega arith) (rw c.from.ensures at c.made_points.ensures.points) in
    let b = (tens k.level k.denomination k.doubling c.args.vulnerable c.args.tricks k.least k.most c.requires).0 in
    let s : to_z w32 c.made_points.result ≡ score k.level k.denomination k.doubling c.args.vulnerable c.args.tricks = omega (arith, ints) in
    record { score = s; bounded = sized _ _ s b }

pub returns-else-tricks-needed : goal.returns-else-tricks-needed
returns-else-tricks-needed c =
    let k = c.args.contract in
    let e = is_down k.level k.denomination k.doubling c.args.vulnerable c.args.tricks c.undertricks.result (omega arith) (rw c.from-else-tricks-needed.ensures at c.undertricks.ensures.points) in
    let b = (tens k.level k.denomination k.doubling c.args.vulnerable c.args.tricks k.least k.most c.requires).0 in
    let n = c.undertricks.result in
    let s : to_z w32 (of_z w32 (pos 0 -ℤ to_z w32 n)) ≡ score k.level k.denomination k.doubling c.args.vulnerable c.args.tricks = omega (arith, ints) in
    record { score = s; bounded = sized _ _ s b }
