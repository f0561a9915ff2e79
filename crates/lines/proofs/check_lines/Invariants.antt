use Rattle.std.proofs.Common.{◌≡◌}
use Rattle.lines.specs.Checks.{lines_checked}
use Rattle.lines.specs.Lines.{lines}
use Rattle.lines.specs.Walks.{lines_left}
use Rattle.lines.proofs.check_lines.Given as goal

abbrev pub invariant-loop-line : goal.invariant-loop-line
invariant-loop-line l = lines_checked (lines_left l.line-iterator) ≡ lines_checked (lines 0 l.file)
