use Rattle.std.proofs.Common.{◌≡◌, drop, Some}
use Rattle.values.specs.Cursors.{outcome}
use Rattle.values.proofs.deals.lay_out_hands.Given as goal

abbrev pub invariant-loop-byte : goal.invariant-loop-byte
invariant-loop-byte l = outcome (Some l.cursor) l.laid (drop l.byte-index l.text) ≡ outcome (Some l.initial.cursor) l.initial.laid l.text
