use Rattle.std.proofs.Common.{◌≡◌, List, Option, Some, None, Result}
use Rattle.std.specs.Option.{option_map}
use Rattle.faults.specs.declared.Fault.{Fault}
use Rattle.lines.specs.Lines.{lines}
use Rattle.lines.specs.Walks.{lines_left}
use Rattle.tags.specs.Searches.{Found, named, alone, only}
use Rattle.tags.specs.Views.{found}
use Rattle.tags.proofs.find.Given as goal

-- what comes of a search that has found f so far, with the tags fs still to come
abbrev pub outcome : Option Found → List Found → Result Found Fault
outcome None fs = only fs
outcome (Some f) fs = alone f fs

abbrev pub invariant-loop-line : goal.invariant-loop-line
invariant-loop-line l = outcome (option_map found l.found) (named l.name (lines_left l.line-iterator)) ≡ only (named l.name (lines 0 l.file))
