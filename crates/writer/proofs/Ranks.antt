-- One rank more of a suit.
use Rattle.std.proofs.Common.{◌≡◌, ℕ, suc, ◌+◌, ◌-◌, ◌*◌, ◌<◌, cond, eqb, List, [], ◌∷◌, ◌++◌, length, get_or, sym, ap, ◌∙◌, arith}
use Rattle.std.proofs.lemmas.List.{append_assoc, append-nil, get_or_default}
use Rattle.std.proofs.lemmas.Bool.{eq-eqb, ne_eqb}
use Rattle.cards.specs.declared.chairs.Chair.{Chair}
use Rattle.cards.specs.declared.suits.Suit.{Suit}
use Rattle.cards.specs.Chairs.{code}
use Rattle.cards.specs.Suits.{code as suit_code}
use Rattle.values.specs.Letters.{rank_letter}
use Rattle.writer.specs.Texts.{ranks_below, suit_text}

module _ (d : List ℕ) (x low n : ℕ) (some : 0 < n) (within : low + (n - 1) < length d) where
  ranks_more : ranks_below d x low n ≡ cond (eqb (get_or d (low + (n - 1)) 0) x) (rank_letter (n - 1) ∷ ranks_below d x low (n - 1)) (ranks_below d x low (n - 1))
  unfolding ranks_below
  ranks_more =
      let e : n ≡ suc (n - 1) = omega arith in
      ap (ranks_below d x low) e ∙ ap (λ v. cond (eqb v x) (rank_letter (n - 1) ∷ ranks_below d x low (n - 1)) (ranks_below d x low (n - 1))) (get_or_default d (low + (n - 1)) 4 0 within)

  -- the letters `done` with the next one, if the card goes to the chair, and as they are, if it does not
  pub with_one_card : (done all : List ℕ) → get_or d (low + (n - 1)) 0 ≡ x → done ++ ranks_below d x low n ≡ all → (done ++ (rank_letter (n - 1) ∷ [])) ++ ranks_below d x low (n - 1) ≡ all
  with_one_card done all to e = append_assoc done (rank_letter (n - 1) ∷ []) (ranks_below d x low (n - 1)) ∙ ap (λ t. done ++ t) (sym (ranks_more ∙ simp (eq-eqb (get_or d (low + (n - 1)) 0) x to))) ∙ e

  pub without_card : (done all : List ℕ) → (get_or d (low + (n - 1)) 0 ≡ x → ⊥) → done ++ ranks_below d x low n ≡ all → done ++ ranks_below d x low (n - 1) ≡ all
  without_card done all to e = ap (λ t. done ++ t) (sym (ranks_more ∙ simp (ne_eqb (get_or d (low + (n - 1)) 0) x to))) ∙ e

-- a suit of which every rank is done
pub suit_done : (d : List ℕ) (x : Chair) (s : Suit) (to low n : ℕ) (done : List ℕ) → to ≡ code x → low ≡ 13 * suit_code s → n ≡ 0 → done ++ ranks_below d to low n ≡ ranks_below d to low 13 → done ≡ suit_text d x s
unfolding ranks_below suit_text
suit_done d x s to low n done p q z e =
    sym (append-nil done) ∙ sym (ap (λ k. done ++ ranks_below d to low k) z) ∙ e ∙ ap (λ k. ranks_below d k low 13) p ∙ ap (λ k. ranks_below d (code x) k 13) q
