use Rattle.std.proofs.Common.{◌≡◌, ℕ, nat_le, ◌&&◌, List, [], ◌∷◌, refl, inl, inr, sym, ◌∙◌, rules, tests}
use Rattle.std.specs.List.{list_all}
use Rattle.std.proofs.lemmas.Bool.{cases_Bool}
use Rattle.std.proofs.lemmas.Iterator.Search.{all_from_yields_List}
use Rattle.std.proofs.lemmas.Iterator.{YieldsList-from_slice}
use Rattle.lines.specs.Lines.{printable}
use Rattle.lines.proofs.is_printable.Goals as goal

printable-by_byte : (bs : List ℕ) → printable bs ≡ list_all (λ b. nat_le 32 b && nat_le b 126) bs
printable-by_byte [] = refl
printable-by_byte (b ∷ bs) =
    elim (cases_Bool (nat_le 32 b)) [
      | inl h ↦ elim (cases_Bool (nat_le b 126)) [ inl k ↦ simp (h, k) (printable-by_byte bs) | inr k ↦ simp (h, k) ]
      | inr h ↦ simp h
    ]

pub returns : goal.returns
returns c =
    let text = c.args.text.now in
    let all = all_from_yields_List (λ (b : ℕ). nat_le 32 b && nat_le b 126) _ _ c.all.result c.all.ensures.ran (YieldsList-from_slice text cc) (λ x b q k. search (rules, tests)) in
    record { printable = all ∙ sym (printable-by_byte text) }
