use Rattle.std.proofs.Common.{arith}
use Rattle.std.proofs.lemmas.Bool.Decides.{nat_tests}
use Rattle.std.proofs.lemmas.Grind.{common_steps}
use Rattle.values.proofs.Digits.{by_natural}
use Rattle.values.proofs.numbers.board_number.Goals as goal

pub returns-in_err-natural : goal.returns-in_err-natural
returns-in_err-natural c = record { number = rw (by_natural c.args.value.now) (grind (arith, nat_tests, common_steps)) }

pub returns : goal.returns
returns c = record { number = rw (by_natural c.args.value.now) (grind (arith, nat_tests, common_steps)) }
