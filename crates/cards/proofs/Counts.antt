-- Cards counted one by one.
use Rattle.std.proofs.Common.{◌≡◌, ℕ, ◌+◌, cond, eqb, List, ◌∷◌}
use Rattle.std.proofs.lemmas.List.Sums.{sum_by-cons}
use Rattle.cards.specs.Deals.{count}

pub count_more : (x y : ℕ) (ys : List ℕ) → count x (y ∷ ys) ≡ cond (eqb y x) 1 0 + count x ys
count_more x y ys = sum_by-cons (λ z. cond (eqb z x) 1 0) y ys
