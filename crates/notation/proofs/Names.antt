-- Calls and their texts.
use Rattle.std.proofs.Common.{◌≡◌, ℕ, ◌-◌, cond, List, [], ◌∷◌, Some, None, Option, sym, refl, ap, ◌∙◌, inl, inr, arith}
use Rattle.std.specs.Str.{bytes_eq}
use Rattle.std.proofs.lemmas.List.FromFn.{get_or-map-range_with_len}
use Rattle.std.proofs.lemmas.Slice.Eq.{bytes_eq-Decides}
use Rattle.std.proofs.lemmas.Bool.{cases_Bool}
use Rattle.std.proofs.lemmas.Bool.Decides.{nat_tests}
use Rattle.cards.specs.declared.suits.Denomination.{Denomination}
use Rattle.cards.specs.declared.suits.Denomination.TheVariants.{Trumps, NoTrump}
use Rattle.cards.specs.declared.suits.Suit.TheVariants.{Clubs, Diamonds, Hearts, Spades}
use Rattle.cards.specs.Calls.{bid_of}
use Rattle.tags.specs.Tags.{and_then}
use Rattle.notation.specs.Laws.{NamedOnly, ReadsBack}
use Rattle.notation.specs.Notation.{bid_named, call_named, call_text, denomination_named, denomination_text}

-- of the 38 calls, both lists are computed, and they are the same
pub reads_back : ReadsBack
reads_back a l = sym (get_or-map-range_with_len (λ n. call_named (call_text n)) 0 38 a a None l (omega arith)) ∙ get_or-map-range_with_len Some 0 38 a a None l (omega arith)

-- what is named is told by the word
abbrev Told : {A : Type 0} → (A → List ℕ) → List ℕ → Option A → Type 0
Told {A} text w o = (a : A) → o ≡ Some a → text a ≡ w

or_told : {A : Type 0} (text : A → List ℕ) (w : List ℕ) (x : A) (o : Option A) → Told text w o → Told text w (cond (bytes_eq w (text x)) (Some x) o)
or_told text w x o h a =
    elim (cases_Bool (bytes_eq w (text x))) [
      | inl t ↦ let same = (bytes_eq-Decides w (text x)).0 t in simp t (λ e. cc)
      | inr f ↦ simp f (h a)
    ]

denomination_told : (w : List ℕ) → Told denomination_text w (denomination_named w)
denomination_told w =
    let or = or_told denomination_text w in
    or (Trumps Clubs) _ (or (Trumps Diamonds) _ (or (Trumps Hearts) _ (or (Trumps Spades) _ (or NoTrump None (λ a e. cc)))))

bid_by_text : (d : Denomination) (b a : ℕ) → bid_of (b - 48) d ≡ Some a → call_text a ≡ b ∷ denomination_text d
bid_by_text (Trumps Clubs) b a e = grind (arith, nat_tests)
bid_by_text (Trumps Diamonds) b a e = grind (arith, nat_tests)
bid_by_text (Trumps Hearts) b a e = grind (arith, nat_tests)
bid_by_text (Trumps Spades) b a e = grind (arith, nat_tests)
bid_by_text NoTrump b a e = grind (arith, nat_tests)

bid_told : (w : List ℕ) → Told call_text w (bid_named w)
bid_told [] a e = cc
bid_told (b ∷ bs) a e = with_denomination (denomination_named bs) (denomination_told bs) e
  where
    with_denomination : (o : Option Denomination) → Told denomination_text bs o → and_then o (bid_of (b - 48)) ≡ Some a → call_text a ≡ b ∷ bs
    with_denomination None h e = cc
    with_denomination (Some d) h e = bid_by_text d b a e ∙ ap (λ t. b ∷ t) (h d refl)

pub named_only : NamedOnly
named_only w a e =
    let or = or_told call_text w in
    let told = or 0 _ (or 1 _ (or 2 _ (bid_told w))) a e in
    (told, grind (arith, nat_tests))
