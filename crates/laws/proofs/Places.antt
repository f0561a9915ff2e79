-- How far round the table a chair sits from another, and how many cards it has left.
use Rattle.std.proofs.Common.{◌≡◌, ℕ, ◌+◌, ◌/◌, ◌%◌, ◌<◌, cond, eqb, ltb, arith}
use Rattle.std.proofs.lemmas.Bool.Decides.{nat_tests}
use Rattle.cards.specs.declared.chairs.Chair.{Chair}
use Rattle.cards.specs.declared.chairs.Chair.TheVariants.{North, East, South, West}
use Rattle.cards.specs.Chairs.{ahead, code, place}
use Rattle.cards.proofs.Turns.{clockwise, same_code}

pub code_small : (c : Chair) → code c < 4
code_small North = omega arith
code_small East = omega arith
code_small South = omega arith
code_small West = omega arith

pub place_small : (l c : Chair) → place l c < 4
place_small l c = omega arith

pub ahead_place : (l c : Chair) → ahead l (place l c) ≡ c
ahead_place l c = same_code (ahead l (place l c)) c (omega (arith, clockwise l (place l c), code_small l, code_small c))

pub place_ahead : (l : Chair) (m : ℕ) → m < 4 → place l (ahead l m) ≡ m
place_ahead l m h = omega (arith, clockwise l m, code_small l)

-- h cards are left to a chair that sits p places after the leader, when n cards are played
abbrev pub left : ℕ → ℕ → ℕ → Type 0
left h p n = h + (n / 4 + cond (ltb p (n % 4)) 1 0) ≡ 13

-- one card more within a trick, from the chair that sits as many places after the leader as the trick has cards
pub left_within : (h' h p n : ℕ) → h' + cond (eqb p (n % 4)) 1 0 ≡ h → left h p n → n % 4 < 3 → left h' p (n + 1)
left_within h' h p n e f l = grind (arith, nat_tests)

-- and at the end of a trick, whoever leads the next
pub left_end : (h' h p q n : ℕ) → p < 4 → h' + cond (eqb p (n % 4)) 1 0 ≡ h → left h p n → n % 4 ≡ 3 → left h' q (n + 1)
left_end h' h p q n s e f l = grind (arith, nat_tests)

pub left_first : (h p : ℕ) → h ≡ 13 → left h p 0
left_first h p e = grind (arith, nat_tests)

-- the chair in turn has a card left
pub left_some : (h p n : ℕ) → left h p n → p ≡ n % 4 → n < 52 → 0 < h
left_some h p n f e l = grind (arith, nat_tests)
