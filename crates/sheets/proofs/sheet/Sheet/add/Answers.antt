use Rattle.std.proofs.Common.{◌<◌, ◌≤◌, length, arith, w32, SFits, rules}
use Rattle.std.proofs.lemmas.List.{length-take-le, get_or-set_same, set-set}
use Rattle.std.proofs.lemmas.Int.{to_z-of_z}
use Rattle.sheets.proofs.sheet.Sheet.add.Goals as goal

pub returns-clause-memory : goal.returns-clause-memory
returns-clause-memory c =
    let s = c.args.self.now in
    let within : s.used ≤ length s.rows.now = s.within in
    let room : s.used < length s.rows.now = omega arith in
    let fits : SFits w32 c.args.row.score = search rules in
    simp (set-set, get_or-set_same, length-take-le, to_z-of_z)
