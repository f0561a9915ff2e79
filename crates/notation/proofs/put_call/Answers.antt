use Rattle.std.proofs.Common.{arith}
use Rattle.std.proofs.lemmas.Bool.Decides.{nat_tests}
use Rattle.text.proofs.Writes.{nothing, then, told}
use Rattle.notation.proofs.put_call.Goals as goal

pub returns-in-Some : goal.returns-in-Some
returns-in-Some c = record { wrote = told (grind (arith, nat_tests)) (then c.put.ensures.wrote c.put_all-in-Some.ensures.wrote) }

pub returns-in_default-zip : goal.returns-in_default-zip
returns-in_default-zip c = record { wrote = told (grind (arith, nat_tests)) (nothing _) }
