use Rattle.std.proofs.Common.{◌≡◌}
use Rattle.lines.specs.Lines.{lines}
use Rattle.lines.specs.Walks.{lines_left}
use Rattle.tags.specs.Searches.{tags_checked}
use Rattle.tags.proofs.check_tags.Given as goal

abbrev pub invariant-loop-line : goal.invariant-loop-line
invariant-loop-line l = tags_checked (lines_left l.line-iterator) ≡ tags_checked (lines 0 l.file)
