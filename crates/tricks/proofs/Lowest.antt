-- The lowest legal card.
use Rattle.std.proofs.Common.{◌≡◌, ℕ, ◌*◌, ◌/◌, ◌<◌, true, false, not, leb, IsSomeAnd, Some, None, Option, sym, refl, subst, inl, inr, arith}
use Rattle.std.proofs.lemmas.Bool.{both_ways, cond-false, cond-true, eq-eqb, eqb-true, leb-false, lt-leb, not-false, or_cases, or_left, or_right}
use Rattle.cards.specs.declared.suits.Suit.{Suit}
use Rattle.cards.specs.declared.suits.Suit.TheVariants.{Clubs, Diamonds, Hearts, Spades}
use Rattle.cards.specs.Suits.{code}
use Rattle.cards.proofs.Ways.{by, passes_question}
use Rattle.cards.specs.Hands.{holds}
use Rattle.hands.specs.Hands.{is_void, lowest, lowest_of}
use Rattle.hands.specs.Laws.{Found}
use Rattle.hands.proofs.Holdings.{lowest_found, some_there}
use Rattle.tricks.specs.Cards.{card_ruling, follows, is_of}
use Rattle.tricks.specs.Laws.{Legal}

pub record LawfulCard (led : Option Suit) (h a : ℕ) : Type 0 where
  pub small : a < 52
  pub there : holds h a ≡ true
  pub follows_suit : follows led h a ≡ true

pub lawful_card : (led : Option Suit) (h a : ℕ) → card_ruling led h a ≡ 0 → LawfulCard led h a
lawful_card led h a e =
    let q8 = passes_question (leb 52 a) 7 _ e in
    let q12 = passes_question (not (holds h a)) 11 _ q8.1 in
    let q13 = passes_question (not (follows led h a)) 12 0 q12.1 in
    record { small = leb-false 52 a q8.0; there = not-false (holds h a) q12.0; follows_suit = not-false (follows led h a) q13.0 }

pub card_is_lawful : (led : Option Suit) (h a : ℕ) → LawfulCard led h a → card_ruling led h a ≡ 0
card_is_lawful led h a l = rw (lt-leb 52 a l.small, l.there, l.follows_suit) refl

pub suit_small : (s : Suit) → code s < 4
suit_small Clubs = omega arith
suit_small Diamonds = omega arith
suit_small Hearts = omega arith
suit_small Spades = omega arith

abbrev Best : Option Suit → ℕ → ℕ → Type 0
Best led h a = (card_ruling led h a ≡ 0) × ((y : ℕ) → y < a → card_ruling led h y ≡ 0 → ⊥)

-- the lowest of the whole hand, where no suit has to be followed
of_all : (led : Option Suit) (h x : ℕ) (o : Option ℕ) → ((a : ℕ) → follows led h a ≡ true) → x < 52 → holds h x ≡ true → Found h 0 52 o → IsSomeAnd o (Best led h)
of_all led h x None free l e f = both_ways (holds h x) (f x (omega arith) l) e
of_all led h x (Some a) free l e f = (
  card_is_lawful led h a (record { small = f.1; there = f.2; follows_suit = free a }),
  λ y u r. both_ways (holds h y) (f.3 y (omega arith) u) (lawful_card led h y r).there,
)

-- the lowest of the suit led, where the hand holds one
is_of_suit : (s : Suit) (h : ℕ) (o : Option ℕ) → is_void h s ≡ false → Found h (13 * code s) 13 o → IsSomeAnd o (Best (Some s) h)
is_of_suit s h None v f = let y = some_there h (13 * code s) 13 v in both_ways (holds h y.0) (f y.0 y.1 y.2) y.3
is_of_suit s h (Some a) v f = (
  card_is_lawful (Some s) h a (record {
    small = omega (arith, f.1, suit_small s);
    there = f.2;
    follows_suit = or_left (is_of s a) (is_void h s) (eq-eqb (a / 13) (code s) (omega (arith, f.0, f.1)));
  }),
  λ y u r. let w = lawful_card (Some s) h y r in
      elim (or_cases (is_of s y) (is_void h s) w.follows_suit) [
        | inl p ↦ both_ways (holds h y) (f.3 y (omega (arith, eqb-true (y / 13) (code s) p)) u) w.there
        | inr p ↦ both_ways (is_void h s) v p
      ],
)

pub legal : Legal
legal None h x l e = of_all None h x (lowest h) (λ a. refl) l e (lowest_found h 0 52)
legal (Some s) h x l e = by (is_void h s)
    (λ v. subst (λ o. IsSomeAnd o (Best (Some s) h)) (sym (cond-true (is_void h s) (lowest h) (lowest_of h s) v)) (of_all (Some s) h x (lowest h) (λ a. or_right (is_of s a) (is_void h s) v) l e (lowest_found h 0 52)))
    (λ v. subst (λ o. IsSomeAnd o (Best (Some s) h)) (sym (cond-false (is_void h s) (lowest h) (lowest_of h s) v)) (is_of_suit s h (lowest_of h s) v (lowest_found h (13 * code s) 13)))
