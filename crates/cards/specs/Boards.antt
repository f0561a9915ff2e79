-- What a board's number settles.
--     code v, with_code n                the number of a vulnerability, 0 to 3, and the vulnerability of a number
--     dealer n, vulnerability n          who deals the board n, and which sides are vulnerable on it
use Rattle.std.specs.Prelude.{ℕ, ◌+◌, ◌-◌, ◌/◌, ◌%◌, cond, Some, None, Option, ◌==◌}
use Rattle.std.specs.Option.{unwrap_or}
use Rattle.cards.specs.Chairs as chairs
use Rattle.cards.specs.declared.chairs.Chair.{Chair}
use Rattle.cards.specs.declared.chairs.Chair.TheVariants.{West}
use Rattle.cards.specs.declared.boards.Vulnerability.{Vulnerability}
use Rattle.cards.specs.declared.boards.Vulnerability.TheVariants.{Neither, NorthSouth, EastWest, Both}

abbrev pub code : Vulnerability → ℕ
code Neither = 0
code NorthSouth = 1
code EastWest = 2
code Both = 3

abbrev pub with_code : ℕ → Option Vulnerability
with_code n = cond (n == 0) (Some Neither) (cond (n == 1) (Some NorthSouth) (cond (n == 2) (Some EastWest) (cond (n == 3) (Some Both) None)))

-- the chair, or the vulnerability, that has this number; a remainder by four always has one
abbrev pub dealer : ℕ → Chair
dealer n = unwrap_or (chairs.with_code ((n - 1) % 4)) West

abbrev pub vulnerability : ℕ → Vulnerability
vulnerability n = unwrap_or (with_code (((n - 1) % 4 + (n - 1) / 4) % 4)) Both
