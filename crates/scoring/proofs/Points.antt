-- Points as a signed score.
use Rattle.std.proofs.Common.{◌≡◌, ℕ, ◌+◌, ◌-◌, ◌<◌, ◌≤◌, Bool, ℤ, pos, neg_ℤ, nat_abs, ap, ◌∙◌, arith}
use Rattle.std.proofs.lemmas.Bool.{le-leb, lt-leb}
use Rattle.cards.specs.declared.suits.Denomination.{Denomination}
use Rattle.scoring.specs.declared.contracts.Doubling.{Doubling}
use Rattle.scoring.specs.Scores.{made_points, score, undertricks}

module _ (l : ℕ) (d : Denomination) (x : Doubling) (v : Bool) (t n : ℕ) where
  pub is_made : l + 6 ≤ t → n ≡ made_points l d x v (t - (l + 6)) → pos n ≡ score l d x v t
  unfolding score
  is_made h e = ap pos e ∙ simp (le-leb (l + 6) t h)

  pub is_down : t < l + 6 → n ≡ undertricks x v (l + 6 - t) → neg_ℤ (pos n) ≡ score l d x v t
  unfolding score
  is_down h e = ap (λ k. neg_ℤ (pos k)) e ∙ simp (lt-leb (l + 6) t h)

pub sized : (a b : ℤ) → a ≡ b → nat_abs b ≤ 7600 → nat_abs a ≤ 7600
sized a b e h = omega (arith, ap nat_abs e)
