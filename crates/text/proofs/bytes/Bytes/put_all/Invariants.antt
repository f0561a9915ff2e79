use Rattle.std.proofs.Common.{◌≡◌, ◌+◌, ◌++◌, take}
use Rattle.text.proofs.bytes.Bytes.put_all.Given as goal

abbrev pub invariant-loop-i : goal.invariant-loop-i
invariant-loop-i g l = take (l.used + l.i) l.self.bytes ≡ take l.used l.initial.self.bytes ++ take l.i l.bytes
