use Rattle.std.proofs.Common.{arith}
use Rattle.std.proofs.lemmas.Grind.{common_steps}
use Rattle.notation.proofs.Names.{named_only, reads_back}
use Rattle.notation.proofs.call_named.Goals as goal

pub returns-in-Pass : goal.returns-in-Pass
returns-in-Pass c = record { call = grind (arith, common_steps); reads_back = reads_back; named_only = named_only }

pub returns-in-X : goal.returns-in-X
returns-in-X c = record { call = grind (arith, common_steps); reads_back = reads_back; named_only = named_only }

pub returns-in-XX : goal.returns-in-XX
returns-in-XX c = record { call = grind (arith, common_steps); reads_back = reads_back; named_only = named_only }

pub returns-in_default : goal.returns-in_default
returns-in_default c = record { call = grind (arith, common_steps); reads_back = reads_back; named_only = named_only }
