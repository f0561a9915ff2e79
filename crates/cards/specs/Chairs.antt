-- The four chairs, clockwise.
--     code c                     the number of a chair, 0 to 3
--     with_code n                the chair of a number, if it has one
--     next c, partner c          the chair after c clockwise, and the one across
--     ahead c n                  the chair n places after c clockwise
--     place l c                  how many places after l, clockwise, the chair c sits
--     same_side c e              c and e are one chair, or partners
--     Clockwise                  the chair n places after c has the number (c + n) mod 4
use Rattle.std.specs.Prelude.{◌≡◌, ℕ, zero, suc, ◌+◌, ◌-◌, ◌%◌, Bool, cond, Some, None, Option, ◌==◌}
use Rattle.cards.specs.declared.chairs.Chair.{Chair}
use Rattle.cards.specs.declared.chairs.Chair.TheVariants.{North, East, South, West}

abbrev pub code : Chair → ℕ
code North = 0
code East = 1
code South = 2
code West = 3

abbrev pub with_code : ℕ → Option Chair
with_code n = cond (n == 0) (Some North) (cond (n == 1) (Some East) (cond (n == 2) (Some South) (cond (n == 3) (Some West) None)))

abbrev pub next : Chair → Chair
next North = East
next East = South
next South = West
next West = North

abbrev pub partner : Chair → Chair
partner c = next (next c)

abbrev pub ahead : Chair → ℕ → Chair
ahead c zero = c
ahead c (suc n) = ahead (next c) n

abbrev pub place : Chair → Chair → ℕ
place l c = (code c + 4 - code l) % 4

abbrev pub same_side : Chair → Chair → Bool
same_side c e = code c % 2 == code e % 2

abbrev pub Clockwise : Type 0
Clockwise = (c : Chair) (n : ℕ) → code (ahead c n) ≡ (code c + n) % 4
