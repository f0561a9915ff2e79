-- The laws, computed over every contract and every number of tricks.
use Rattle.std.proofs.Common.{◌≡◌, ℕ, zero, suc, ◌+◌, ◌-◌, ◌%◌, ◌<◌, ◌≤◌, Bool, true, false, cond, T, eqb, leb, ℤ, nat_abs, ◌≤ℤ◌, sym, refl, ap, ◌∙◌, subst, inl, inr, arith}
use lib.Signed.{le_z, le_z_yes, ≤ℤ_refl}
use Rattle.std.proofs.lemmas.Int.{ints}
use Rattle.std.proofs.lemmas.Bool.{cases_eq, eqb-true, false≢true, leb-true}
use Rattle.cards.specs.declared.suits.Denomination.{Denomination}
use Rattle.cards.specs.declared.suits.Denomination.TheVariants.{Trumps, NoTrump}
use Rattle.cards.specs.declared.suits.Suit.TheVariants.{Clubs, Diamonds, Hearts, Spades}
use Rattle.cards.specs.Suits.{rank}
use Rattle.scoring.specs.declared.contracts.Doubling.{Doubling}
use Rattle.scoring.specs.declared.contracts.Doubling.TheVariants.{Undoubled, Doubled, Redoubled}
use Rattle.scoring.specs.Doublings.{code}
use Rattle.scoring.specs.Laws.{Rises, Tens, Worked}
use Rattle.scoring.specs.Scores.{score}

both : (a b : Bool) → cond a b false ≡ true → (a ≡ true) × (b ≡ true)
both true b h = (refl, h)
both false b h = absurd (false≢true h)

-- a test of each number below a bound
abbrev all_below : (ℕ → Bool) → ℕ → Bool
all_below p zero = true
all_below p (suc n) = cond (p n) (all_below p n) false

below : (p : ℕ → Bool) (n k : ℕ) → all_below p n ≡ true → k < n → p k ≡ true
below p zero k h l = absurd (omega arith)
below p (suc n) k h l = let b = both (p n) (all_below p n) h in elim (cases_eq k n) [ inl e ↦ ap p e ∙ b.0 | inr ne ↦ below p n k b.1 (omega arith) ]

-- denominations and doublings by their numbers
abbrev denomination_at : ℕ → Denomination
denomination_at n = cond (eqb n 0) (Trumps Clubs) (cond (eqb n 1) (Trumps Diamonds) (cond (eqb n 2) (Trumps Hearts) (cond (eqb n 3) (Trumps Spades) NoTrump)))

abbrev doubling_at : ℕ → Doubling
doubling_at n = cond (eqb n 0) Undoubled (cond (eqb n 1) Doubled Redoubled)

abbrev Test : Type 0
Test = ℕ → Denomination → Doubling → Bool → ℕ → Bool

-- the test holds of every contract, vulnerable or not, and of fewer than n tricks
abbrev always : Test → ℕ → Bool → Bool
always p n v = all_below (λ l. all_below (λ d. all_below (λ x. all_below (λ t. p (suc l) (denomination_at d) (doubling_at x) v t) n) 3) 5) 7

denomination_small : (d : Denomination) → (rank d < 5) × (denomination_at (rank d) ≡ d)
denomination_small (Trumps Clubs) = (omega arith, refl)
denomination_small (Trumps Diamonds) = (omega arith, refl)
denomination_small (Trumps Hearts) = (omega arith, refl)
denomination_small (Trumps Spades) = (omega arith, refl)
denomination_small NoTrump = (omega arith, refl)

doubling_small : (x : Doubling) → (code x < 3) × (doubling_at (code x) ≡ x)
doubling_small Undoubled = (omega arith, refl)
doubling_small Doubled = (omega arith, refl)
doubling_small Redoubled = (omega arith, refl)

of_all : (p : Test) (n l : ℕ) (d : Denomination) (x : Doubling) (v : Bool) (t : ℕ) → always p n v ≡ true → 1 ≤ l → l ≤ 7 → t < n → p l d x v t ≡ true
of_all p n l d x v t h least most few =
    let e : suc (l - 1) ≡ l = omega arith in
    let by_level = below (λ k. all_below (λ i. all_below (λ j. all_below (λ m. p (suc k) (denomination_at i) (doubling_at j) v m) n) 3) 5) 7 (l - 1) h (omega arith) in
    let by_denomination = below (λ i. all_below (λ j. all_below (λ m. p (suc (l - 1)) (denomination_at i) (doubling_at j) v m) n) 3) 5 (rank d) by_level (denomination_small d).0 in
    let by_doubling = below (λ j. all_below (λ m. p (suc (l - 1)) (denomination_at (rank d)) (doubling_at j) v m) n) 3 (code x) by_denomination (doubling_small x).0 in
    let by_tricks = below (λ m. p (suc (l - 1)) (denomination_at (rank d)) (doubling_at (code x)) v m) n t by_doubling few in
    subst (λ k. p k d x v t ≡ true) e (subst (λ y. p (suc (l - 1)) d y v t ≡ true) (doubling_small x).1 (subst (λ y. p (suc (l - 1)) y (doubling_at (code x)) v t ≡ true) (denomination_small d).1 by_tricks))

ten : Test
ten l d x v t = cond (leb (nat_abs (score l d x v t)) 7600) (eqb (nat_abs (score l d x v t) % 10) 0) false

all_tens : (v : Bool) → always ten 14 v ≡ true
unfolding score ten
all_tens true = refl
all_tens false = refl

pub tens : Tens
unfolding ten
tens l d x v t least most few =
    let b = both _ _ (of_all ten 14 l d x v t (all_tens v) least most (omega arith)) in
    (leb-true _ _ b.0, eqb-true _ _ b.1)

next_higher : Test
next_higher l d x v t = le_z (score l d x v t) (score l d x v (suc t))

all_higher : (v : Bool) → always next_higher 13 v ≡ true
unfolding score next_higher
all_higher true = refl
all_higher false = refl

-- from a test passed to the order that it decides
decided : (a b : ℤ) → le_z a b ≡ true → a ≤ℤ b
decided a b e = le_z_yes (subst T (sym e) tt)

higher : (l : ℕ) (d : Denomination) (x : Doubling) (v : Bool) (t : ℕ) → 1 ≤ l → l ≤ 7 → t < 13 → score l d x v t ≤ℤ score l d x v (suc t)
unfolding next_higher
higher l d x v t least most few = decided _ _ (of_all next_higher 13 l d x v t (all_higher v) least most few)

more_tricks : (l : ℕ) (d : Denomination) (x : Doubling) (v : Bool) (t k : ℕ) → 1 ≤ l → l ≤ 7 → t + k ≤ 13 → score l d x v t ≤ℤ score l d x v (t + k)
more_tricks l d x v t zero least most few = let e : t + 0 ≡ t = omega arith in subst (λ u. score l d x v t ≤ℤ score l d x v u) (sym e) (≤ℤ_refl (score l d x v t))
more_tricks l d x v t (suc k) least most few =
    let e : t + suc k ≡ suc (t + k) = omega arith in
    let below_it = more_tricks l d x v t k least most (omega arith) in
    let step = higher l d x v (t + k) least most (omega arith) in
    subst (λ u. score l d x v t ≤ℤ score l d x v u) (sym e) (omega (arith, ints))

pub rises : Rises
rises l d x v t u least most order few =
    let e : t + (u - t) ≡ u = omega arith in
    subst (λ n. score l d x v t ≤ℤ score l d x v n) e (more_tricks l d x v t (u - t) least most (omega arith))

pub worked : Worked
unfolding score
worked = (refl, refl, refl, refl, refl, refl, refl, refl, refl)
