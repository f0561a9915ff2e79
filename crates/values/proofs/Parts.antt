-- Hands that are told by their parts are read byte by byte.
use Rattle.std.proofs.Common.{◌≡◌, ℕ, ◌-◌, false, cond, eqb, List, [], ◌∷◌, is_some, Some, None, Option, sym, refl, ap, ◌∙◌, inl, inr, arith}
use Rattle.std.proofs.lemmas.List.{append_assoc, append-nil}
use Rattle.std.proofs.lemmas.Bool.{cases_Bool, eqb-true}
use Rattle.cards.specs.declared.chairs.Chair.{Chair}
use Rattle.cards.specs.declared.suits.Suit.{Suit}
use Rattle.cards.specs.declared.suits.Suit.TheVariants.{Clubs, Diamonds, Hearts, Spades}
use Rattle.cards.specs.Chairs.{next}
use Rattle.cards.specs.Suits.{lower}
use Rattle.tags.specs.Tags.{and_then}
use Rattle.values.specs.Cursors.{cards_from}
use Rattle.values.specs.Deals.{Placed, both, card_named, hand_in, hands_in, in_four, onto, parts, placed_at, suit_in}

abbrev Cards : Type 0
Cards = Option (List Placed)

both_assoc : (a b c : Cards) → both (both a b) c ≡ both a (both b c)
both_assoc a b c = grind (arith, append_assoc)

none_before : (o : Cards) → both (Some []) o ≡ o
none_before o = grind arith

none_after : (o : Cards) → both o (Some []) ≡ o
none_after o = grind (arith, append-nil)

no_second : (o : Cards) → both o None ≡ None
no_second o = grind arith

-- a text has a first part
pub record Cut (ps : List (List ℕ)) : Type 0 where
  pub first : List ℕ
  pub others : List (List ℕ)
  pub is : ps ≡ first ∷ others

cut : (m : ℕ) (text : List ℕ) → Cut (parts m text)
cut m [] = record { first = []; others = []; is = refl }
cut m (b ∷ bs) =
    let c = cut m bs in
    elim (cases_Bool (eqb b m)) [
      | inl t ↦ record { first = []; others = parts m bs; is = simp t }
      | inr t ↦ record { first = b ∷ c.first; others = c.others; is = simp t (ap (onto b) c.is) }
    ]

-- no part is left
abbrev ended : List (List ℕ) → Cards
ended [] = Some []
ended (p ∷ ps) = None

-- the parts of a hand from the suit s on, and hands from there on with n after this one
abbrev suits_from : Chair → Suit → List (List ℕ) → Cards
suits_from x s [] = None
suits_from x s (t ∷ ts) = both (suit_in x s t) (elim (lower s) [ None ↦ ended ts | Some u ↦ suits_from x u ts ])

abbrev hands_from : ℕ → Chair → Suit → List (List ℕ) → Cards
hands_from n x s [] = None
hands_from n x s (h ∷ hs) = both (suits_from x s (parts 46 h)) (cond (eqb n 0) (ended hs) (hands_from (n - 1) (next x) Spades hs))

at_end : (n : ℕ) (x : Chair) (s : Suit) → hands_from n x s ([] ∷ []) ≡ cards_from n x s []
at_end n x s = grind (arith, none_before)

at_space : (n : ℕ) (x : Chair) (s : Suit) (h : List ℕ) (hs : List (List ℕ)) → hands_from n x s ([] ∷ h ∷ hs) ≡ cond (is_some (lower s)) None (cond (eqb n 0) None (hands_from (n - 1) (next x) Spades (h ∷ hs)))
at_space n x s h hs = grind (arith, none_before)

abbrev later : ℕ → Chair → List (List ℕ) → Cards
later n x hs = cond (eqb n 0) (ended hs) (hands_from (n - 1) (next x) Spades hs)

at_dot : (n : ℕ) (x : Chair) (s : Suit) (h : List ℕ) (hs : List (List ℕ)) → hands_from n x s ((46 ∷ h) ∷ hs) ≡ and_then (lower s) (λ u. hands_from n x u (h ∷ hs))
at_dot n x Clubs h hs = let c = cut 46 h in simp c.is
at_dot n x s h hs = grind (arith, none_before)

at_rank : (n : ℕ) (x : Chair) (s : Suit) (b : ℕ) (h : List ℕ) (hs : List (List ℕ)) → eqb b 46 ≡ false → hands_from n x s ((b ∷ h) ∷ hs) ≡ both (placed_at x (card_named s b)) (hands_from n x s (h ∷ hs))
at_rank n x s b h hs t = let c = cut 46 h in simp (t, c.is, both_assoc)

on_lower : (s : Suit) (f g : Suit → Cards) → ((u : Suit) → f u ≡ g u) → and_then (lower s) f ≡ and_then (lower s) g
on_lower s f g e = grind (arith, e)

by_bytes : (n : ℕ) (x : Chair) (s : Suit) (text : List ℕ) → hands_from n x s (parts 32 text) ≡ cards_from n x s text
by_bytes n x s [] = at_end n x s
by_bytes n x s (b ∷ bs) =
    let c = cut 32 bs in
    elim (cases_Bool (eqb b 32)) [
      | inl t ↦ simp t
          (ap (λ ps. hands_from n x s ([] ∷ ps)) c.is ∙ at_space n x s c.first c.others
          ∙ ap (λ o. cond (is_some (lower s)) None (cond (eqb n 0) None o)) (ap (hands_from (n - 1) (next x) Spades) (sym c.is) ∙ by_bytes (n - 1) (next x) Spades bs))
      | inr t ↦ elim (cases_Bool (eqb b 46)) [
        | inl d ↦ simp (t, d)
            (ap (λ y. hands_from n x s (onto y (parts 32 bs))) (eqb-true b 46 d) ∙ ap (λ ps. hands_from n x s (onto 46 ps)) c.is ∙ at_dot n x s c.first c.others
            ∙ on_lower s _ _ (λ u. ap (hands_from n x u) (sym c.is) ∙ by_bytes n x u bs))
        | inr d ↦ simp (t, d)
            (ap (λ ps. hands_from n x s (onto b ps)) c.is ∙ at_rank n x s b c.first c.others d
            ∙ ap (both (placed_at x (card_named s b))) (ap (hands_from n x s) (sym c.is) ∙ by_bytes n x s bs))
      ]
    ]

by_suits : (x : Chair) (ts : List (List ℕ)) → in_four (λ a b c d. both (suit_in x Spades a) (both (suit_in x Hearts b) (both (suit_in x Diamonds c) (suit_in x Clubs d)))) ts ≡ suits_from x Spades ts
by_suits x ts = grind (arith, no_second, none_after)

hand_by : (x : Chair) (h : List ℕ) → hand_in x h ≡ suits_from x Spades (parts 46 h)
hand_by x h = by_suits x (parts 46 h)

by_hands : (x : Chair) (hs : List (List ℕ)) → in_four (λ a b c d. both (hand_in x a) (both (hand_in (next x) b) (both (hand_in (next (next x)) c) (hand_in (next (next (next x))) d)))) hs ≡ hands_from 3 x Spades hs
by_hands x hs = grind (arith, hand_by, no_second, none_after)

pub hands_by : (x : Chair) (text : List ℕ) → hands_in x text ≡ cards_from 3 x Spades text
hands_by x text = by_hands x (parts 32 text) ∙ by_bytes 3 x Spades text
