use Rattle.std.proofs.Common.{ℕ, ◌==◌, [], ◌∷◌, take, drop, rules, tests, arith, sym, ap, ◌∙◌, take_all}
use Rattle.std.proofs.lemmas.Bool.Decides.{Decides-eqb}
use Rattle.std.proofs.lemmas.Iterator.Search.{position_from_yields_List}
use Rattle.std.proofs.lemmas.Iterator.{YieldsList-from_slice}
use Rattle.std.proofs.lemmas.List.{length-drop, take_rest}
use Rattle.std.proofs.lemmas.Slice.Eq.{strip_suffix_is}
use Rattle.lines.specs.Lines.{LF, CR}
use Rattle.lines.proofs.EndMarks.{no_lf, lf_at, stripped, stripped_is}
use Rattle.lines.proofs.FirstLines.{line_is}
use Rattle.lines.proofs.line_at.Goals as goal

pub returns-in_default : goal.returns-in_default
returns-in_default c =
    let at = c.args.at in
    let file = c.args.file.now in
    let size = length-drop at file in
    let whole = take_rest file at in
    let p = position_from_yields_List (λ (b : ℕ). b == LF) _ _ c.position.result c.position.ensures.ran (YieldsList-from_slice (drop at file) cc) (λ x b q k. search (rules, tests)) in
    let none = no_lf (drop at file) (sym p ∙ c.in_default.is) in
    let l = line_is at file _ _ c.requires (whole ∙ sym (take_all _ (drop at file) (omega (arith, none.0)))) (omega (arith, none.1)) in
    record { line = l.0; heads = l.1 }

pub returns : goal.returns
returns c =
    let at = c.args.at in
    let file = c.args.file.now in
    let size = length-drop at file in
    let whole = take_rest file at in
    let p = position_from_yields_List (λ (b : ℕ). b == LF) _ _ c.position.result c.position.ensures.ran (YieldsList-from_slice (drop at file) cc) (λ x b q k. search (rules, tests)) in
    let here = lf_at (drop at file) c.in-Some.length (sym p ∙ c.in-Some.is) in
    let text = stripped_is c.strip_suffix.result _ _ c.unwrap_or.ensures (strip_suffix_is Decides-eqb _ (CR ∷ []) _ c.strip_suffix.ensures.cases) in
    let l = line_is at file _ _ c.requires (text ∙ ap (λ xs. stripped (take c.in-Some.length xs)) whole ∙ sym here.2) (omega (arith, here.1)) in
    record { line = l.0; heads = l.1 }
