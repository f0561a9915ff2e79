-- What a sheet holds.
--     memory s                   the rows of the lent memory, used or not
--     held s                     the rows that the sheet holds
--     lent s                     which loan the memory is: it stays the caller's
use Rattle.std.specs.Borrow.{GName}
use Rattle.std.specs.Prelude.{List, take}
use Rattle.sheets.specs.declared.rows.Row.{Row}
use Rattle.sheets.specs.declared.sheet.Sheet.{Sheet}

abbrev pub memory : Sheet → List Row
memory s = s.rows.now

abbrev pub held : Sheet → List Row
held s = take s.used (memory s)

abbrev pub lent : Sheet → GName
lent s = s.rows.ghost_name
