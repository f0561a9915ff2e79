-- Where the first line ends: at the first LF, without a CR that stands before it.
use Rattle.std.proofs.Common.{◌≡◌, ◌≢◌, ℕ, suc, ◌+◌, ◌<◌, min, not, cond, eqb, ltb, ◌==◌, false, inl, inr, refl, sym, ap, ◌∙◌, arith}
use Rattle.std.proofs.Common.{List, [], ◌∷◌, ◌++◌, length, take, Option, Some, None, Bor, MatchOption}
use Rattle.std.specs.List.{position, position_or_len}
use Rattle.std.specs.Option.{unwrap_or}
use Rattle.std.proofs.lemmas.Bool.{cases_Bool, eqb-true, ltb-true, ltb-false}
use Rattle.std.proofs.lemmas.List.Sums.{prefix_len-le-length}
use Rattle.lines.specs.Lines.{LF, CR, line_length, line_size}

-- how many bytes stand before the first LF
abbrev pub to_lf : List ℕ → ℕ
to_lf = position_or_len (λ b. b == LF)

pub line_size-by_lf : (bs : List ℕ) → line_size bs ≡ min (to_lf bs + 1) (length bs)
line_size-by_lf [] = refl
line_size-by_lf (b ∷ bs) =
    let ih = line_size-by_lf bs in
    elim (cases_Bool (eqb b LF)) [ inl h ↦ simp h (omega arith) | inr h ↦ simp h (omega arith) ]

-- one byte more before the first LF
to_lf-more : (b : ℕ) (bs : List ℕ) → eqb b LF ≡ false → to_lf (b ∷ bs) ≡ suc (to_lf bs)
to_lf-more b bs h = simp h (omega arith)

line_length-more : (b x : ℕ) (bs : List ℕ) → eqb b LF ≡ false → eqb x LF ≡ false → line_length (b ∷ x ∷ bs) ≡ suc (line_length (x ∷ bs))
line_length-more b x bs h k = elim (cases_Bool (eqb b CR)) [ inl m ↦ simp (h, k, m) | inr m ↦ simp (h, m) ]

-- without an LF the first line is all there is
pub line_length-no_lf : (bs : List ℕ) → to_lf bs ≡ length bs → line_length bs ≡ length bs
line_length-no_lf [] e = refl
line_length-no_lf (b ∷ []) e =
    elim (cases_Bool (eqb b LF)) [ inl h ↦ absurd (omega (arith, simp h at e)) | inr h ↦ elim (cases_Bool (eqb b CR)) [ inl m ↦ simp (h, m) | inr m ↦ simp (h, m) ] ]
line_length-no_lf (b ∷ x ∷ xs) e =
    elim (cases_Bool (eqb b LF)) [
      | inl h ↦ absurd (omega (arith, simp h at e))
      | inr h ↦ elim (cases_Bool (eqb x LF)) [
        | inl k ↦ absurd (omega (arith, simp (h, k) at e))
        | inr k ↦ line_length-more b x xs h k ∙ ap suc (line_length-no_lf (x ∷ xs) (omega (arith, to_lf-more b (x ∷ xs) h)))
      ]
    ]

-- without the CR at the end, if there is one
abbrev pub stripped : List ℕ → List ℕ
stripped [] = []
stripped (b ∷ []) = cond (eqb b CR) [] (b ∷ [])
stripped (b ∷ x ∷ xs) = b ∷ stripped (x ∷ xs)

pub take-line_length : (bs : List ℕ) → to_lf bs < length bs → take (line_length bs) bs ≡ stripped (take (to_lf bs) bs)
take-line_length [] e = absurd (omega arith)
take-line_length (b ∷ []) e = elim (cases_Bool (eqb b LF)) [ inl h ↦ simp h | inr h ↦ absurd (omega (arith, simp h at e)) ]
take-line_length (b ∷ x ∷ xs) e =
    elim (cases_Bool (eqb b LF)) [
      | inl h ↦ simp h
      | inr h ↦ elim (cases_Bool (eqb x LF)) [
        | inl k ↦ elim (cases_Bool (eqb b CR)) [ inl m ↦ simp (h, k, m) | inr m ↦ simp (h, k, m) ]
        | inr k ↦
            let ih = take-line_length (x ∷ xs) (omega (arith, simp h at e)) in
            ap (λ n. take n (b ∷ x ∷ xs)) (line_length-more b x xs h k)
            ∙ ap (λ l. b ∷ l) ih
            ∙ ap (λ n. b ∷ stripped (take n (x ∷ xs))) (to_lf-more x xs k)
            ∙ sym (ap (λ n. stripped (take n (b ∷ x ∷ xs))) (to_lf-more b (x ∷ xs) h ∙ ap suc (to_lf-more x xs k)))
      ]
    ]

-- what `position` says of the first LF
pub no_lf : (bs : List ℕ) → position (λ b. b == LF) bs ≡ None → (line_length bs ≡ length bs) × (line_size bs ≡ length bs)
no_lf bs e =
    elim (cases_Bool (ltb (to_lf bs) (length bs))) [
      | inl h ↦ cc (simp h at e)
      | inr h ↦
          let most = prefix_len-le-length (λ (b : ℕ). not (b == LF)) bs in
          let all : to_lf bs ≡ length bs = omega (arith, ltb-false (to_lf bs) (length bs) h) in
          (line_length-no_lf bs all, omega (arith, line_size-by_lf bs))
    ]

pub lf_at : (bs : List ℕ) (i : ℕ) → position (λ b. b == LF) bs ≡ Some i → (i < length bs) × (line_size bs ≡ i + 1) × (take (line_length bs) bs ≡ stripped (take i bs))
lf_at bs i e =
    elim (cases_Bool (ltb (to_lf bs) (length bs))) [
      | inl h ↦
          let some : Some (to_lf bs) ≡ Some i = simp h at e in
          let here : to_lf bs ≡ i = cc in
          let less : to_lf bs < length bs = ltb-true (to_lf bs) (length bs) h in
          (omega arith, omega (arith, line_size-by_lf bs), take-line_length bs less ∙ ap (λ n. stripped (take n bs)) here)
      | inr h ↦ cc (simp h at e)
    ]

stripped-cr : (t : List ℕ) → stripped (t ++ CR ∷ []) ≡ t
stripped-cr [] = refl
stripped-cr (b ∷ []) = refl
stripped-cr (b ∷ x ∷ xs) = ap (λ l. b ∷ l) (stripped-cr (x ∷ xs))

stripped_none : (s : List ℕ) → ((t : List ℕ) → s ≢ t ++ CR ∷ []) → stripped s ≡ s
stripped_none [] f = refl
stripped_none (b ∷ []) f = elim (cases_Bool (eqb b CR)) [ inl h ↦ absurd (f [] (ap (λ c. c ∷ []) (eqb-true b CR h))) | inr h ↦ simp h ]
stripped_none (b ∷ x ∷ xs) f = ap (λ l. b ∷ l) (stripped_none (x ∷ xs) (λ t e. f (b ∷ t) (ap (λ l. b ∷ l) e)))

-- what `strip_suffix` with a CR leaves, or all where none ends the text
pub stripped_is : (r : Option (Bor (List ℕ))) (d x : Bor (List ℕ)) → x ≡ unwrap_or r d
    → MatchOption r ((t : List ℕ) → d.now ≢ t ++ CR ∷ []) (λ y. d.now ≡ y.now ++ CR ∷ []) → x.now ≡ stripped d.now
stripped_is None d x e f = ap (λ y. y.now) e ∙ sym (stripped_none d.now f)
stripped_is (Some y) d x e f = ap (λ z. z.now) e ∙ sym (ap stripped f ∙ stripped-cr y.now)
