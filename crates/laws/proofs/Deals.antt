-- A lawful deal gives every card to one of the four chairs.
use Rattle.std.proofs.Common.{◌≡◌, ℕ, zero, suc, ◌+◌, ◌<◌, cond, eqb, leb, List, [], ◌∷◌, length, get_or, refl, ◌∙◌, subst, le_of_suc-le-suc, not-suc-le-zero, arith}
use Rattle.std.proofs.lemmas.Bool.{and_parts, eqb-true}
use Rattle.std.proofs.lemmas.Bool.Decides.{nat_tests}
use Rattle.cards.specs.declared.chairs.Chair.{Chair}
use Rattle.cards.specs.declared.chairs.Chair.TheVariants.{North, East, South, West}
use Rattle.cards.specs.Chairs.{code}
use Rattle.cards.proofs.Counts.{count_more}
use Rattle.cards.specs.Deals.{count}
use Rattle.cards.specs.Hands.{dealt}
use Rattle.hands.proofs.Holdings.{held, held_dealt}
use Rattle.laws.specs.Lawful.{LawfulDeal}

record Thirteens (d : List ℕ) : Type 0 where
  north : count 0 d ≡ 13
  east : count 1 d ≡ 13
  south : count 2 d ≡ 13
  west : count 3 d ≡ 13

thirteens : (d : List ℕ) → LawfulDeal d → Thirteens d
thirteens d l =
    let n = and_parts (eqb (count 0 d) 13) _ l.1 in
    let e = and_parts (eqb (count 1 d) 13) _ n.1 in
    let s = and_parts (eqb (count 2 d) 13) (eqb (count 3 d) 13) e.1 in
    record { north = eqb-true (count 0 d) 13 n.0; east = eqb-true (count 1 d) 13 e.0; south = eqb-true (count 2 d) 13 s.0; west = eqb-true (count 3 d) 13 s.1 }

pub thirteen : (d : List ℕ) → LawfulDeal d → (c : Chair) → held (dealt d (code c)) 52 ≡ 13
thirteen d l c = subst (λ n. held (dealt d (code c)) n ≡ 13) l.0 (held_dealt d (code c) ∙ each c (thirteens d l))
  where
    each : (c : Chair) → Thirteens d → count (code c) d ≡ 13
    each North t = t.north
    each East t = t.east
    each South t = t.south
    each West t = t.west

-- how many bytes name no chair
abbrev strays : List ℕ → ℕ
strays [] = 0
strays (y ∷ ys) = cond (leb 4 y) 1 0 + strays ys

one_of_five : (y : ℕ) → cond (eqb y 0) 1 0 + cond (eqb y 1) 1 0 + cond (eqb y 2) 1 0 + cond (eqb y 3) 1 0 + cond (leb 4 y) 1 0 ≡ 1
one_of_five y = grind (arith, nat_tests)

all_counted : (d : List ℕ) → count 0 d + count 1 d + count 2 d + count 3 d + strays d ≡ length d
all_counted [] = refl
all_counted (y ∷ ys) = omega (arith, one_of_five y, all_counted ys, count_more 0 y ys, count_more 1 y ys, count_more 2 y ys, count_more 3 y ys)

no_stray : (d : List ℕ) (x : ℕ) → strays d ≡ 0 → x < length d → get_or d x 0 < 4
no_stray [] x e l = absurd (not-suc-le-zero l)
no_stray (y ∷ ys) zero e l = grind (arith, nat_tests)
no_stray (y ∷ ys) (suc x) e l = no_stray ys x (omega arith) (le_of_suc-le-suc l)

with_number : (n : ℕ) → n < 4 → (c : Chair) × (code c ≡ n)
with_number zero l = (North, refl)
with_number (suc zero) l = (East, refl)
with_number (suc (suc zero)) l = (South, refl)
with_number (suc (suc (suc zero))) l = (West, refl)
with_number (suc (suc (suc (suc n)))) l = absurd (let v : ⊥ = omega arith in v)

-- the chair that gets a card
pub receiver : (d : List ℕ) → LawfulDeal d → (x : ℕ) → x < 52 → (c : Chair) × (code c ≡ get_or d x 0)
receiver d l x h =
    let t = thirteens d l in
    with_number (get_or d x 0) (no_stray d x (omega (arith, all_counted d, t.north, t.east, t.south, t.west, l.0)) (omega (arith, l.0)))
