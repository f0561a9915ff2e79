-- A card in a hand is a bit of its number.
use Rattle.std.proofs.Common.{◌≡◌, ℕ, zero, suc, ◌/◌, ◌%◌, ◌^◌, ◌<◌, ◌≤◌, false, eqb, refl, ap, ◌∙◌, le_trans, one-add, arith, pow_mono}
use native.Mathlib.Nat.{div-eq_of_lt}
use Rattle.std.proofs.lemmas.Nat.{shr-shr}
use Rattle.cards.specs.Hands.{holds}

-- as shifts and masks find it
pub holds_bit : (h c : ℕ) → holds h c ≡ eqb (h / 2 ^ c % 2) 1
holds_bit h zero = let e : h / 1 ≡ h = omega arith in rw e refl
holds_bit h (suc c) = holds_bit (h / 2) c ∙ ap (λ x. eqb (x % 2) 1) (shr-shr h 1 c ∙ ap (λ k. h / 2 ^ k) (one-add c))

-- a number below a power of two has no bit from there on
pub holds_past : (h n c : ℕ) → h < 2 ^ n → n ≤ c → holds h c ≡ false
holds_past h n c l m = holds_bit h c ∙ ap (λ x. eqb (x % 2) 1) (div-eq_of_lt (le_trans l (pow_mono m)))
