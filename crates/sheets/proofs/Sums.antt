-- The results of all rows add up, under every rule that names its total.
use Rattle.std.proofs.Common.{◌≡◌, ℕ, zero, suc, ◌+◌, ◌-◌, ◌*◌, ◌/◌, ◌<◌, List, [], ◌∷◌, ◌++◌, length, take, drop, ℤ, pos, ◌+ℤ◌, ◌*ℤ◌, sym, refl, ap, ◌∙◌, suc-mul, suc-add, zero-add, mul-suc, add-one, arith}
use lib.IntN.{*ℤ_comm, *ℤ-zero, suc_ℤ-*ℤ}
use Rattle.std.proofs.lemmas.List.{at_drop_more}
use Rattle.std.proofs.lemmas.Int.{ints}
use Rattle.sheets.specs.declared.rows.Row.{Row}
use Rattle.sheets.specs.Rows.{blank}
use Rattle.sheets.specs.Results.{score_at, against, result_of, sum_to, AddsUp}

times_more : (t : ℤ) (n : ℕ) → t *ℤ pos (suc n) ≡ t *ℤ pos n +ℤ t
times_more t n = *ℤ_comm t (pos (suc n)) ∙ suc_ℤ-*ℤ (pos n) t ∙ ap (λ x. x +ℤ t) (*ℤ_comm (pos n) t)

times_add : (t : ℤ) (a b : ℕ) → t *ℤ pos (a + b) ≡ t *ℤ pos a +ℤ t *ℤ pos b
times_add t zero b = let e = ap (λ x. t *ℤ pos x) (zero-add b) in let z = *ℤ-zero t in omega (arith, ints)
times_add t (suc a) b =
    let e = ap (λ x. t *ℤ pos x) (suc-add a b) in
    let ih = times_add t a b in
    omega (arith, ints, times_more t (a + b), times_more t a)

pub against_append : (f : ℤ → ℤ → ℤ) (a : ℤ) (xs ys : List Row) → against f a (xs ++ ys) ≡ against f a xs +ℤ against f a ys
against_append f a [] ys = omega (arith, ints)
against_append f a (x ∷ xs) ys = let ih = against_append f a xs ys in omega (arith, ints)

pub against_more : (f : ℤ → ℤ → ℤ) (a : ℤ) (rows : List Row) (j : ℕ) → j < length rows → against f a (drop j rows) ≡ f a (score_at rows j) +ℤ against f a (drop (j + 1) rows)
against_more f a rows j h = at_drop_more (against f a) rows j blank h

pub result_split : (f : ℤ → ℤ → ℤ) (rows : List Row) (i : ℕ) → result_of f rows i ≡ against f (score_at rows i) (take i rows) +ℤ against f (score_at rows i) (drop (i + 1) rows)
result_split f rows i = against_append f (score_at rows i) (take i rows) (drop (suc i) rows) ∙ simp add-one

pub sum_more : (f : ℤ → ℤ → ℤ) (rows : List Row) (i : ℕ) → sum_to f rows (i + 1) ≡ sum_to f rows i +ℤ result_of f rows i
sum_more f rows i = ap (sum_to f rows) (add-one i)

-- the other way round: each row's score compared with one
column : (ℤ → ℤ → ℤ) → ℤ → List Row → ℤ
column f a [] = pos 0
column f a (r ∷ rs) = f r.score a +ℤ column f a rs

column_to : (ℤ → ℤ → ℤ) → ℤ → List Row → ℕ → ℤ
column_to f a rows zero = pos 0
column_to f a rows (suc n) = column_to f a rows n +ℤ f (score_at rows n) a

module _ (f : ℤ → ℤ → ℤ) (t : ℤ) (balanced : (a b : ℤ) → f a b +ℤ f b a ≡ t) where
  pairs : (a : ℤ) (xs : List Row) → against f a xs +ℤ column f a xs ≡ t *ℤ pos (length xs)
  unfolding column
  pairs a [] = sym (*ℤ-zero t)
  pairs a (x ∷ xs) = let ih = pairs a xs in let b = balanced a x.score in omega (arith, ints, times_more t (length xs))

  column_front : (a : ℤ) (x : Row) (xs : List Row) (k : ℕ) → column_to f a (x ∷ xs) (suc k) ≡ f x.score a +ℤ column_to f a xs k
  unfolding column_to
  column_front a x xs zero = omega (arith, ints)
  column_front a x xs (suc k) = let ih = column_front a x xs k in omega (arith, ints)

  column_all : (a : ℤ) (xs : List Row) → column_to f a xs (length xs) ≡ column f a xs
  unfolding column column_to
  column_all a [] = refl
  column_all a (x ∷ xs) = column_front a x xs (length xs) ∙ ap (λ z. f x.score a +ℤ z) (column_all a xs)

  -- a row put before the others
  front : (x : Row) (xs : List Row) (k : ℕ) → sum_to f (x ∷ xs) (suc k) ≡ against f x.score xs +ℤ (column_to f x.score xs k +ℤ sum_to f xs k)
  unfolding column_to
  front x xs zero = omega (arith, ints)
  front x xs (suc k) = let ih = front x xs k in omega (arith, ints)

  pairs_of : (n : ℕ) → n + n * (n - 1) / 2 ≡ suc n * (suc n - 1) / 2
  pairs_of zero = refl
  pairs_of (suc m) =
      let a : suc m - 1 ≡ m = omega arith in
      let b : suc (suc m) - 1 ≡ suc m = omega arith in
      simp (a, b) (omega (arith, suc-mul (suc m) (suc m), mul-suc (suc m) m))

  pub adds_up : AddsUp f t
  adds_up [] = sym (*ℤ-zero t)
  adds_up (x ∷ xs) =
      let n = length xs in
      let ih = adds_up xs in
      let e = ap (λ z. t *ℤ pos z) (pairs_of n) in
      omega (arith, ints, front x xs n, column_all x.score xs, pairs x.score xs, times_add t n (n * (n - 1) / 2))
