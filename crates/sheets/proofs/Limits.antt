-- The limits rise, so as many lie at or below a size as stand before the first above it.
use Rattle.std.proofs.Common.{◌≡◌, ℕ, zero, suc, ◌≤◌, Bool, true, false, cond, leb, List, [], ◌∷◌, length, count_by, not-suc-le-zero, arith, rules}
use Rattle.std.specs.List.Sorted.{IsPartitionedBy, IsPartitionPoint, IsStrictlySortedBy}
use Rattle.std.specs.Ordering.{nat_cmp}
use Rattle.std.proofs.lemmas.List.Sorted.{IsPartitionedBy-leb}
use Rattle.std.proofs.lemmas.List.Sums.{sum_by-cons}
use Rattle.std.proofs.lemmas.Map.Keys.{non_decreasing_from_sorted}
use Rattle.sheets.specs.Comparisons.{limits}

-- where those that pass stand before all others, they are as many as stand there
pub count_at : (p : ℕ → Bool) (xs : List ℕ) (i : ℕ) → i ≤ length xs → IsPartitionPoint (λ y. p y ≡ true) (λ y. p y ≡ false) xs i → count_by p xs ≡ i
count_at p [] i l h = omega arith
count_at p (x ∷ xs) zero l h =
    let later = count_at p xs zero (omega arith) ((λ k d a b. absurd (not-suc-le-zero b)), (λ k d a b. h.1 (suc k) d (omega arith) (omega arith))) in
    grind (arith, sum_by-cons (λ y. cond (p y) 1 0) x xs, h.1 0 0 (omega arith) (omega arith), later)
count_at p (x ∷ xs) (suc i) l h =
    let later = count_at p xs i (omega arith) ((λ k d a b. h.0 (suc k) d (omega arith) (omega arith)), (λ k d a b. h.1 (suc k) d (omega arith) (omega arith))) in
    grind (arith, sum_by-cons (λ y. cond (p y) 1 0) x xs, h.0 0 0 (omega arith) (omega arith), later)

rising : IsStrictlySortedBy nat_cmp limits
unfolding IsStrictlySortedBy
rising = search rules

pub limits_parted : (size : ℕ) → IsPartitionedBy (λ y. leb y size) limits
limits_parted size = IsPartitionedBy-leb (λ y. y) limits size (non_decreasing_from_sorted limits rising)
