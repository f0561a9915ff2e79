-- A total for each two rows fits its type.
use Rattle.std.proofs.Common.{◌≡◌, ℕ, zero, suc, ◌-◌, ◌*◌, ◌/◌, ◌^◌, ◌<◌, ◌≤◌, ℤ, pos, negsuc, ◌*ℤ◌, neg_ℤ, ap, ◌∙◌, mul-le-mul, mul-le-mul_left, arith, w32, w64, SFits, to_z, of_z}
use Rattle.std.proofs.lemmas.Int.{ints, to_z-of_z}
use Rattle.sheets.specs.Results.{shared}

negative_fits : (k : ℕ) → k < 2 ^ 63 → SFits w64 (neg_ℤ (pos k))
negative_fits zero l = record { sfits = omega arith }
negative_fits (suc k) l = record { sfits = omega arith }

product_fits : (t : ℤ) (m : ℕ) → SFits w32 t → m ≤ 8192 → SFits w64 (t *ℤ pos m)
product_fits (pos a) m f l = record { sfits = omega (arith, mul-le-mul_left a l, f.sfits) }
product_fits (negsuc a) m f l = negative_fits (suc a * m) (omega (arith, mul-le-mul_left (suc a) l, f.sfits))

pub meetings_few : (n k : ℕ) → n ≤ 128 → k ≤ 128 → n * k ≤ 16384
meetings_few n k a b = omega (arith, mul-le-mul a b)

-- as the code has the product, of a total t and of m meetings
module _ (t : ℤ) (m : ℕ) (f : SFits w32 t) (l : m ≤ 8192) where
  pub share_is : (s : ℤ) (n : ℕ) → t ≡ s → m ≡ n * (n - 1) / 2 → to_z w64 (of_z w64 (to_z w64 (of_z w64 t) *ℤ to_z w64 m)) ≡ shared s n
  share_is s n p q =
      let e : to_z w64 (of_z w64 t) ≡ t = to_z-of_z w64 t (record { sfits = omega (arith, f.sfits) }) in
      let k : to_z w64 m ≡ pos m = omega (arith, ints) in
      let w : to_z w64 (of_z w64 t) *ℤ to_z w64 m ≡ t *ℤ pos m = ap (λ x. x *ℤ to_z w64 m) e ∙ ap (λ y. t *ℤ y) k in
      ap (λ x. to_z w64 (of_z w64 x)) w ∙ to_z-of_z w64 _ (product_fits t m f l) ∙ ap (λ x. x *ℤ pos m) p ∙ ap (λ k. s *ℤ pos k) q
