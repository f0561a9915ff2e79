-- Lines from their parts.
use Rattle.std.proofs.Common.{◌≡◌, ℕ, List, [], ◌∷◌, ◌++◌, codes, sym, refl, ap, ◌∙◌}
use Rattle.std.proofs.lemmas.List.{append_assoc}
use Rattle.text.proofs.Writes.{then, told}
use Rattle.text.specs.declared.bytes.Bytes.{Bytes}
use Rattle.text.specs.Bytes.{Wrote}
use Rattle.writer.specs.Texts.{tag_line, text}

pub tag_parts : (name value : List ℕ) → codes "[" ++ (name ++ (codes " \"" ++ (value ++ codes "\"]\n"))) ≡ text (tag_line name value ∷ [])
unfolding tag_line
tag_parts name value = simp append_assoc

-- a tag line of which the value is put by itself
pub tag_put : {n : ℕ} {a b c d : Bytes n} (name value : List ℕ) → Wrote (codes "[" ++ (name ++ codes " \"")) a b → Wrote value b c → Wrote (codes "\"]\n") c d → Wrote (text (tag_line name value ∷ [])) a d
unfolding tag_line
tag_put name value p q r = told (simp append_assoc) (then p (then q r))

-- lines behind a line
pub more_lines : {n : ℕ} {a b c : Bytes n} (l : List ℕ) (ls : List (List ℕ)) → Wrote (text (l ∷ [])) a b → Wrote (text ls) b c → Wrote (text (l ∷ ls)) a c
more_lines l ls p q = told (append_assoc l (10 ∷ []) (text ls)) (then p q)

-- lines behind lines
pub text_both : (ks ls : List (List ℕ)) → text (ks ++ ls) ≡ text ks ++ text ls
text_both [] ls = refl
text_both (k ∷ ks) ls = ap (λ t. k ++ (10 ∷ t)) (text_both ks ls) ∙ sym (append_assoc k (10 ∷ text ks) (text ls))

pub lines_put : {n : ℕ} {a b c : Bytes n} (ks ls : List (List ℕ)) → Wrote (text ks) a b → Wrote (text ls) b c → Wrote (text (ks ++ ls)) a c
lines_put ks ls p q = told (sym (text_both ks ls)) (then p q)
