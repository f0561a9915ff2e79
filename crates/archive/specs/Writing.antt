-- Writing a text into memory that a caller lends.
--     number e                   the number of a refusal
--     fitted t room              the length of the text t, or 15 if it does not fit the room
--     over t buffer              what the buffer then holds: the text and, beyond it, what it held; at a refusal all that it held
use Rattle.std.specs.Prelude.{ℕ, cond, List, ◌++◌, length, drop, Ok, Err, Result, nat_le}
use Rattle.archive.specs.declared.Refusal.{Refusal}
use Rattle.archive.specs.declared.Refusal.TheVariants.{NoRoom}

abbrev pub number : Refusal → ℕ
number NoRoom = 15

abbrev pub fitted : List ℕ → ℕ → Result ℕ Refusal
fitted t room = cond (nat_le (length t) room) (Ok (length t)) (Err NoRoom)

abbrev pub over : List ℕ → List ℕ → List ℕ
over t buffer = cond (nat_le (length t) (length buffer)) (t ++ drop (length t) buffer) buffer
