use Rattle.std.proofs.Common.{◌≡◌, ◌≤◌, drop}
use Rattle.values.specs.Numbers.{digits_from}
use Rattle.values.proofs.numbers.natural.Given as goal

abbrev pub invariant-loop-byte : goal.invariant-loop-byte
invariant-loop-byte l = (l.number ≤ l.most) × (digits_from l.most l.number (drop l.byte-index l.word) ≡ digits_from l.most 0 l.word)
