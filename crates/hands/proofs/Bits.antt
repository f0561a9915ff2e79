-- A card gone, an empty stretch of cards and the lowest card of one, as bits of a hand.
use Rattle.std.proofs.Common.{◌≡◌, ℕ, zero, suc, ◌+◌, ◌*◌, ◌/◌, ◌%◌, ◌^◌, ◌<◌, ◌≤◌, true, false, eqb, ltb, Some, sym, refl, ap, ◌∙◌, inl, inr, le_of_suc-le-suc, not-suc-le-zero, pow-suc, add-one, arith}
use Rattle.std.proofs.lemmas.Nat.{mod-pow-add, one_shl, shr-shr}
use Rattle.std.proofs.lemmas.Bool.{both_ways, cases_lt, eq-eqb, eqb-false, eqb-true, le-ltb, lt-ltb, ne_eqb}
use Rattle.std.proofs.lemmas.Bool.Decides.{nat_tests}
use Rattle.std.specs.Bool.{then_some}
use Rattle.std.specs.Int.Count.{count_trailing_zeros}
use Rattle.cards.proofs.Ways.{by}
use Rattle.cards.specs.Hands.{holds}
use Rattle.cards.proofs.Bits.{holds_bit, holds_past}
use Rattle.hands.specs.Hands.{lowest_from, none_from, without}

pub held_below : (h n c : ℕ) → h < 2 ^ n → holds h c ≡ true → c < n
held_below h n c l e = elim (cases_lt c n) [ inl below ↦ below | inr past ↦ absurd (both_ways (holds h c) (holds_past h n c l past) e) ]

-- a card gone, and a stretch of cards that is empty, by powers of two
pub without_held : (h c : ℕ) → holds h c ≡ true → without h c + 2 ^ c ≡ h
without_held h zero e = omega (arith, eqb-true (h % 2) 1 e)
without_held h (suc c) e = let f : without (h / 2) c + 2 ^ c ≡ h / 2 = without_held (h / 2) c e in omega (arith, pow-suc 2 c)

-- to take away a card that is held is to take its bit away
pub without_bit : (h c : ℕ) → h < 2 ^ 64 → holds h c ≡ true → (c < 64) × (1 * 2 ^ c % 2 ^ 64 + without h c ≡ h)
without_bit h c l e = let small = held_below h 64 c l e in (small, omega (arith, one_shl c 64 small, without_held h c e))

low_bits : (h n : ℕ) → h % 2 ^ suc n ≡ (h / 2 % 2 ^ n) * 2 + h % 2
low_bits h n = ap (λ k. h % 2 ^ k) (sym (add-one n)) ∙ mod-pow-add h n 1

-- the bits from the next card on
next_bits : (h c : ℕ) → h / 2 ^ c / 2 ≡ h / 2 ^ suc c
next_bits h c = shr-shr h c 1 ∙ ap (λ k. h / 2 ^ k) (add-one c)

set_bit : (h c : ℕ) → holds h c ≡ true → h / 2 ^ c % 2 ≡ 1
set_bit h c e = eqb-true (h / 2 ^ c % 2) 1 (sym (holds_bit h c) ∙ e)

clear_bit : (h c : ℕ) → holds h c ≡ false → h / 2 ^ c % 2 ≡ 0
clear_bit h c e = omega (arith, eqb-false (h / 2 ^ c % 2) 1 (sym (holds_bit h c) ∙ e))

pub none_bits : (h c n : ℕ) → none_from h c n ≡ eqb (h / 2 ^ c % 2 ^ n) 0
unfolding none_from
none_bits h c zero = let e : h / 2 ^ c % 2 ^ 0 ≡ 0 = omega arith in rw e refl
none_bits h c (suc n) =
    let m : h / 2 ^ c % 2 ^ suc n ≡ (h / 2 ^ suc c % 2 ^ n) * 2 + h / 2 ^ c % 2 = low_bits (h / 2 ^ c) n ∙ ap (λ x. (x % 2 ^ n) * 2 + h / 2 ^ c % 2) (next_bits h c) in
    by (holds h c)
    (λ e. rw e (sym (ne_eqb (h / 2 ^ c % 2 ^ suc n) 0 (λ z. omega (arith, m, set_bit h c e)))))
    (λ e. rw e (none_bits h (suc c) n ∙ same (h / 2 ^ suc c % 2 ^ n) (h / 2 ^ c % 2 ^ suc n) (omega (arith, m, clear_bit h c e))))
  where
    same : (x y : ℕ) → y ≡ x * 2 → eqb x 0 ≡ eqb y 0
    same x y e = by (eqb x 0) (λ z. z ∙ sym (eq-eqb y 0 (omega (arith, eqb-true x 0 z)))) (λ z. z ∙ sym (ne_eqb y 0 (λ q. eqb-false x 0 z (omega arith))))

-- the zeros below the lowest card that a hand holds from c on are the cards that it lacks
pub lowest_bit : (h c n k : ℕ) → n ≤ k → then_some (ltb (count_trailing_zeros k (h / 2 ^ c)) n) (c + count_trailing_zeros k (h / 2 ^ c)) ≡ lowest_from h c n
unfolding lowest_from count_trailing_zeros
lowest_bit h c zero k l = rw (le-ltb (count_trailing_zeros k (h / 2 ^ c)) 0 (omega arith)) refl
lowest_bit h c (suc n) zero l = absurd (not-suc-le-zero l)
lowest_bit h c (suc n) (suc k) l =
    let t : ℕ = count_trailing_zeros k (h / 2 ^ suc c) in
    let later : ltb (suc t) (suc n) ≡ ltb t n = grind (arith, nat_tests) in
    let place : c + suc t ≡ suc c + t = omega arith in
    by (holds h c)
    (λ e. rw (e, set_bit h c e, lt-ltb 0 (suc n) (omega arith)) (ap Some (omega arith)))
    (λ e. rw (e, clear_bit h c e, next_bits h c, later, place) (lowest_bit h (suc c) n k (le_of_suc-le-suc l)))
