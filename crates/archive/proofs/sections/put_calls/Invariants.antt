use Rattle.std.proofs.Common.{◌≡◌, ℕ, List, ◌++◌, map, length, drop}
use Rattle.notation.specs.Notation.{call_text}
use Rattle.text.specs.Bytes.{Wrote}
use Rattle.archive.specs.Words.{in_rows}
use Rattle.archive.proofs.sections.put_calls.Given as goal

-- the calls before i are on the page
abbrev pub invariant-loop-i : goal.invariant-loop-i
invariant-loop-i l =
    (done : List ℕ) × Wrote done l.initial.page l.page
    × (done ++ in_rows l.i (length l.calls) (drop l.i (map call_text l.calls)) ≡ in_rows 0 (length l.calls) (map call_text l.calls))
