-- A text that begins with a mark, and one that does not.
use Rattle.std.proofs.Common.{◌≡◌, ℕ, eqb, List, [], ◌∷◌, ◌++◌, Some, None, Option, sym, refl, ap, ◌∙◌, inl, inr, Bor, MatchOption}
use Rattle.std.specs.Option.{option_map}
use Rattle.std.proofs.lemmas.Bool.{cases_Bool, eq-eqb, eqb-true}
use Rattle.tags.specs.Tags.{behind}

pub behind_mark : (mark rest : List ℕ) → behind mark (mark ++ rest) ≡ Some rest
behind_mark [] rest = refl
behind_mark (m ∷ ms) rest = let e = eq-eqb m m refl in simp e (behind_mark ms rest)

behind_none : (mark text : List ℕ) → ((rest : List ℕ) → text ≡ mark ++ rest → ⊥) → behind mark text ≡ None
behind_none [] text f = absurd (f text refl)
behind_none (m ∷ ms) [] f = refl
behind_none (m ∷ ms) (b ∷ bs) f =
    elim (cases_Bool (eqb b m)) [
      | inl h ↦ simp h (behind_none ms bs (λ rest e. f rest (ap (λ x. b ∷ x) e ∙ ap (λ x. x ∷ (ms ++ rest)) (eqb-true b m h))))
      | inr h ↦ simp h
    ]

pub behind_is : (mark text : List ℕ) (r : Option (Bor (List ℕ))) → MatchOption r ((rest : List ℕ) → text ≡ mark ++ rest → ⊥) (λ x. text ≡ mark ++ x.now) → option_map (λ x. x.now) r ≡ behind mark text
behind_is mark text None f = sym (behind_none mark text f)
behind_is mark text (Some x) e = sym (ap (behind mark) e ∙ behind_mark mark x.now)
