-- Trick after trick: who leads the next, and what stays as cards are added.
use Rattle.std.proofs.Common.{◌≡◌, ℕ, zero, suc, ◌+◌, ◌*◌, ◌≤◌, Bool, true, false, cond, List, [], ◌∷◌, ◌++◌, length, take, drop, sym, refl, ap, ◌∙◌, ap₂, add-one, arith}
use Rattle.std.proofs.lemmas.List.{drop-append-le, drop-drop, drop_at, length-append, length-drop, take-append-le, take_at}
use Rattle.std.specs.Int.{from_bool}
use Rattle.cards.specs.declared.chairs.Chair.{Chair}
use Rattle.cards.specs.declared.suits.Denomination.{Denomination}
use Rattle.cards.specs.Chairs.{same_side}
use Rattle.tricks.specs.Tricks.{leader, trick, winner, won}

-- a trick more is one if it was won, and else none
pub won_one : (b : Bool) → (from_bool b ≡ cond b 1 0) × (from_bool b ≤ 1)
won_one true = (refl, omega arith)
won_one false = (refl, omega arith)

module _ (t : Denomination) (l : Chair) (cards : List ℕ) where
  -- the cards of the next trick, off the front of those to come
  pub next_trick : (k : ℕ) (cs to_come : List ℕ) → 4 * k ≤ length cards → drop (4 * k) cards ≡ cs ++ to_come → length cs ≡ 4
      → (cs ≡ trick cards k) × (to_come ≡ drop (4 * (k + 1)) cards) × (4 * (k + 1) ≤ length cards)
  next_trick k cs to_come h e four =
      let after : 4 * k + 4 ≡ 4 * (k + 1) = omega arith in (
        sym (ap (take 4) e ∙ take_at cs to_come 4 four),
        sym (drop_at cs to_come 4 four) ∙ ap (drop 4) (sym e) ∙ drop-drop 4 (4 * k) cards ∙ ap (λ n. drop n cards) after,
        omega (arith, length-drop (4 * k) cards, ap length e, length-append cs to_come),
      )

  pub leader_after : (k : ℕ) (x : Chair) (cs : List ℕ) → x ≡ leader t l cards k → cs ≡ trick cards k → winner t x cs ≡ leader t l cards (k + 1)
  leader_after k x cs e f = ap₂ (winner t) e f ∙ ap (leader t l cards) (sym (add-one k))

  pub won_next : (c : Chair) (k : ℕ) → won t l cards c (k + 1) ≡ won t l cards c k + cond (same_side (leader t l cards (k + 1)) c) 1 0
  won_next c k = rw add-one refl

  -- a card more leaves the whole tricks as they are
  trick_kept : (a k : ℕ) → 4 * suc k ≤ length cards → trick (cards ++ a ∷ []) k ≡ trick cards k
  trick_kept a k h =
      ap (take 4) (drop-append-le (4 * k) cards (a ∷ []) (omega arith)) ∙ take-append-le 4 (drop (4 * k) cards) (a ∷ []) (omega (arith, length-drop (4 * k) cards))

  pub leader_kept : (a k : ℕ) → 4 * k ≤ length cards → leader t l (cards ++ a ∷ []) k ≡ leader t l cards k
  leader_kept a zero h = refl
  leader_kept a (suc k) h = ap₂ (winner t) (leader_kept a k (omega arith)) (trick_kept a k h)

  pub won_kept : (a : ℕ) (c : Chair) (k : ℕ) → 4 * k ≤ length cards → won t l (cards ++ a ∷ []) c k ≡ won t l cards c k
  won_kept a c zero h = refl
  won_kept a c (suc k) h = ap₂ (λ n x. n + cond (same_side x c) 1 0) (won_kept a c k (omega arith)) (leader_kept a (suc k) h)
