-- Questions put one after another: the first that is answered no gives the fault.
--     then r f                   r, and if it is no fault, f of what it gives
--     unless b e                 the fault e unless b holds
--     given o e                  what o gives, or the fault e
use Rattle.std.specs.Prelude.{Bool, cond, Some, None, Ok, Err, Option, Result}
use Rattle.faults.specs.declared.Fault.{Fault}

abbrev pub then : {A B : Type 0} → Result A Fault → (A → Result B Fault) → Result B Fault
then (Ok a) f = f a
then (Err e) f = Err e

abbrev pub unless : Bool → Fault → Result Unit Fault
unless b e = cond b (Ok tt) (Err e)

abbrev pub given : {A : Type 0} → Option A → Fault → Result A Fault
given None e = Err e
given (Some a) e = Ok a
