-- Who wins a trick.
use Rattle.std.proofs.Common.{◌≡◌, ℕ, zero, suc, ◌/◌, ◌<◌, ◌≤◌, true, false, eqb, ◌⊎◌, List, [], ◌∷◌, ◌++◌, length, sym, refl, ap, ◌∙◌, subst, ap₂, inl, inr, not-suc-le-zero, arith}
use Rattle.std.proofs.lemmas.List.{append_assoc, append-nil, get_or_append_left, get_or_push, length_push}
use Rattle.std.proofs.lemmas.Bool.{both_ways, cases_lt, eqb-false, eqb-true, false≢true, ltb-false, ltb-true}
use Rattle.cards.specs.declared.chairs.Chair.{Chair}
use Rattle.cards.specs.declared.suits.Denomination.{Denomination}
use Rattle.cards.specs.declared.suits.Denomination.TheVariants.{Trumps, NoTrump}
use Rattle.cards.specs.Chairs.{ahead}
use Rattle.cards.specs.Suits.{code}
use Rattle.cards.proofs.Turns.{ahead_push}
use Rattle.cards.proofs.Ways.{by}
use Rattle.tricks.specs.Laws.{Highest, HighestWins, card_at}
use Rattle.tricks.specs.Tricks.{beats, is_trump, same_suit, winner_from}

-- trumps are the cards of one suit
trump_suit : (t : Denomination) (a b : ℕ) → is_trump t a ≡ true → is_trump t b ≡ true → a / 13 ≡ b / 13
trump_suit (Trumps s) a b p q = eqb-true (a / 13) (code s) p ∙ sym (eqb-true (b / 13) (code s) q)
trump_suit NoTrump a b p q = absurd (false≢true p)

trump_too : (t : Denomination) (a b : ℕ) → a / 13 ≡ b / 13 → is_trump t a ≡ is_trump t b
trump_too (Trumps s) a b e = ap (λ n. eqb n (code s)) e
trump_too NoTrump a b e = refl

-- what it says that a card beats another, or does not
beaten : (t : Denomination) (b c : ℕ) → beats t b c ≡ true → ((b / 13 ≡ c / 13) × (b < c)) ⊎ ((b / 13 ≡ c / 13 → ⊥) × (is_trump t c ≡ true))
beaten t b c e = by (same_suit b c)
    (λ s. inl (eqb-true (b / 13) (c / 13) s, ltb-true b c (rw s at e)))
    (λ s. inr (eqb-false (b / 13) (c / 13) s, rw s at e))

unbeaten : (t : Denomination) (b c : ℕ) → beats t b c ≡ false → ((b / 13 ≡ c / 13) × (c ≤ b)) ⊎ ((b / 13 ≡ c / 13 → ⊥) × (is_trump t c ≡ false))
unbeaten t b c e = by (same_suit b c)
    (λ s. inl (eqb-true (b / 13) (c / 13) s, ltb-false b c (rw s at e)))
    (λ s. inr (eqb-false (b / 13) (c / 13) s, rw s at e))

module _ (t : Denomination) (cs : List ℕ) (n c : ℕ) (so : Highest t cs n) where
  abbrev more : List ℕ
  more = cs ++ c ∷ []

  abbrev best : ℕ
  best = card_at cs n

  before : (j : ℕ) → j < length cs → card_at more j ≡ card_at cs j
  before j l = get_or_append_left cs (c ∷ []) 0 j l

  last : (j : ℕ) → j ≡ length cs → card_at more j ≡ c
  last j e = get_or_push cs c 0 j (sym e)

  -- at each card: one of those before, or the new one
  each : (P : ℕ → Type 0) → ((j : ℕ) → j < length cs → P (card_at cs j)) → P c → (j : ℕ) → j < length more → P (card_at more j)
  each P f p j l = elim (cases_lt j (length cs)) [ inl u ↦ rw (before j u) (f j u) | inr u ↦ rw (last j (omega (arith, length_push cs c))) p ]

  first : card_at more 0 ≡ card_at cs 0
  first = before 0 (omega (arith, so.within))

  -- the new card wins
  takes : beats t best c ≡ true → Highest t more (length cs)
  takes e = record {
    within = omega (arith, length_push cs c);
    of_trumps = rw (last (length cs) refl) (each (λ x. is_trump t x ≡ true → (is_trump t c ≡ true) × (x ≤ c)) (λ j l h. trumped (so.of_trumps j l h) (beaten t best c e)) (λ h. (h, omega arith)));
    of_suit_led = rw (last (length cs) refl, first) (λ h. plain h (beaten t best c e));
  }
    where
      trumped : {x : ℕ} → (is_trump t best ≡ true) × (x ≤ best) → ((best / 13 ≡ c / 13) × (best < c)) ⊎ ((best / 13 ≡ c / 13 → ⊥) × (is_trump t c ≡ true)) → (is_trump t c ≡ true) × (x ≤ c)
      trumped p (inl q) = (sym (trump_too t best c q.0) ∙ p.0, omega (arith, p.1, q.1))
      trumped p (inr q) = absurd (q.0 (trump_suit t best c p.0 q.1))

      plain : is_trump t c ≡ false → ((best / 13 ≡ c / 13) × (best < c)) ⊎ ((best / 13 ≡ c / 13 → ⊥) × (is_trump t c ≡ true))
          → (c / 13 ≡ card_at cs 0 / 13) × ((j : ℕ) → j < length more → card_at more j / 13 ≡ card_at cs 0 / 13 → card_at more j ≤ c)
      plain h (inl q) =
          let old = so.of_suit_led (trump_too t best c q.0 ∙ h) in
          (sym q.0 ∙ old.0, each (λ x. x / 13 ≡ card_at cs 0 / 13 → x ≤ c) (λ j l s. omega (arith, old.1 j l s, q.1)) (λ s. omega arith))
      plain h (inr q) = absurd (both_ways (is_trump t c) h q.1)

  -- the best card before it still wins
  keeps : beats t best c ≡ false → Highest t more n
  keeps e = record {
    within = omega (arith, length_push cs c, so.within);
    of_trumps = rw (before n so.within) (each (λ x. is_trump t x ≡ true → (is_trump t best ≡ true) × (x ≤ best)) so.of_trumps (λ h. trumped h (unbeaten t best c e)));
    of_suit_led = rw (before n so.within, first) (λ h. let old = so.of_suit_led h in
        (old.0, each (λ x. x / 13 ≡ card_at cs 0 / 13 → x ≤ best) old.1 (λ s. plain (old.0 ∙ sym s) (unbeaten t best c e))));
  }
    where
      trumped : is_trump t c ≡ true → ((best / 13 ≡ c / 13) × (c ≤ best)) ⊎ ((best / 13 ≡ c / 13 → ⊥) × (is_trump t c ≡ false)) → (is_trump t best ≡ true) × (c ≤ best)
      trumped h (inl q) = (trump_too t best c q.0 ∙ h, q.1)
      trumped h (inr q) = absurd (both_ways (is_trump t c) q.1 h)

      plain : best / 13 ≡ c / 13 → ((best / 13 ≡ c / 13) × (c ≤ best)) ⊎ ((best / 13 ≡ c / 13 → ⊥) × (is_trump t c ≡ false)) → c ≤ best
      plain s (inl q) = q.1
      plain s (inr q) = absurd (q.0 s)

-- from the card that is best so far to the end of the trick
wins_from : (t : Denomination) (l : Chair) (rest front : List ℕ) (n : ℕ) → Highest t front n
    → (k : ℕ) × Highest t (front ++ rest) k × (winner_from t (ahead l n) (card_at front n) (ahead l (length front)) rest ≡ ahead l k)
wins_from t l [] front n so = (n, subst (λ cs. Highest t cs n) (sym (append-nil front)) so, refl)
wins_from t l (c ∷ rest) front n so = by (beats t (card_at front n) c)
    (λ e. let r = wins_from t l rest (front ++ c ∷ []) (length front) (takes t front n c so e) in (
      r.0,
      subst (λ cs. Highest t cs r.0) (append_assoc front (c ∷ []) rest) r.1,
      rw e (ap₂ (λ x u. winner_from t (ahead l (length front)) x u rest) (sym (last t front n c so (length front) refl)) (sym (ahead_push l front c)) ∙ r.2),
    ))
    (λ e. let r = wins_from t l rest (front ++ c ∷ []) n (keeps t front n c so e) in (
      r.0,
      subst (λ cs. Highest t cs r.0) (append_assoc front (c ∷ []) rest) r.1,
      rw e (ap₂ (λ x u. winner_from t (ahead l n) x u rest) (sym (before t front n c so n so.within)) (sym (ahead_push l front c)) ∙ r.2),
    ))

alone : (t : Denomination) (c : ℕ) → Highest t (c ∷ []) 0
alone t c = record {
  within = omega arith;
  of_trumps = λ j l h. here j l h;
  of_suit_led = λ h. (refl, λ j l s. low j l);
}
  where
    low : (j : ℕ) → j < 1 → card_at (c ∷ []) j ≤ c
    low zero l = omega arith
    low (suc j) l = absurd (let v : ⊥ = omega arith in v)

    here : (j : ℕ) → j < 1 → is_trump t (card_at (c ∷ []) j) ≡ true → (is_trump t c ≡ true) × (card_at (c ∷ []) j ≤ c)
    here zero l h = (h, omega arith)
    here (suc j) l h = absurd (let v : ⊥ = omega arith in v)

pub highest_wins : HighestWins
highest_wins t l [] h = absurd (not-suc-le-zero h)
highest_wins t l (c ∷ rest) h = wins_from t l rest (c ∷ []) 0 (alone t c)
