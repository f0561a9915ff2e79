-- Matchpoints and IMPs: what the score a gets against the score b.
--     matchpoints a b            2, 1 or 0 for a higher, an equal or a lower score
--     imp_count n                how many of the limits lie at or below n
--     Table                      at the limits begin 1 to 24 IMPs, and 10 points below each there is one less
--     imps a b                   that count of the size of the difference, with its sign
use Rattle.std.specs.Prelude.{◌≡◌, ℕ, zero, suc, ◌-◌, cond, List, [], ◌∷◌, map, count_by, ℤ, pos, ◌-ℤ◌, neg_ℤ, int_lt, nat_le, unsigned_abs}

abbrev pub matchpoints : ℤ → ℤ → ℤ
matchpoints a b = cond (int_lt b a) (pos 2) (cond (int_lt a b) (pos 0) (pos 1))

abbrev pub limits : List ℕ
limits =
    20 ∷ 50 ∷ 90 ∷ 130 ∷ 170 ∷ 220 ∷ 270 ∷ 320 ∷ 370 ∷ 430 ∷ 500 ∷ 600 ∷ 750 ∷ 900 ∷ 1100 ∷ 1300 ∷ 1500 ∷ 1750 ∷ 2000 ∷ 2250 ∷ 2500 ∷ 3000 ∷ 3500 ∷ 4000 ∷ []

abbrev pub reached : ℕ → List ℕ → ℕ
reached n ls = count_by (λ limit. nat_le limit n) ls

unfoldable pub imp_count : ℕ → ℕ
imp_count n = reached n limits

abbrev pub imps : ℤ → ℤ → ℤ
imps a b =
    let points = pos (imp_count (unsigned_abs (a -ℤ b))) in
    cond (int_lt b a) points (cond (int_lt a b) (neg_ℤ points) (pos 0))

abbrev pub up_from : ℕ → ℕ → List ℕ
up_from i zero = []
up_from i (suc n) = i ∷ up_from (suc i) n

abbrev pub Table : Type 0
Table = (map imp_count limits ≡ up_from 1 24) × (map (λ n. imp_count (n - 10)) limits ≡ up_from 0 24)
