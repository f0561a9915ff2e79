use Rattle.std.proofs.Common.{◌≡◌, ℕ, ◌+◌, [], ◌∷◌, ◌++◌, map, length, get_or, drop, sym, refl, ap, ◌∙◌, arith}
use Rattle.std.proofs.lemmas.List.{append_assoc, append-nil, at_drop_all, at_drop_more, get_or-map, length-map}
use Rattle.notation.specs.Notation.{call_text}
use Rattle.text.proofs.Writes.{nothing, then, told}
use Rattle.archive.specs.Words.{end_of_word, in_rows}
use Rattle.archive.proofs.Rows.{rows_text}
use Rattle.archive.proofs.sections.put_calls.Goals as goal

pub loop-i-init : goal.loop-i-init
loop-i-init c = ([], nothing _, refl)

pub loop-i-preserved : goal.loop-i-preserved
loop-i-preserved c =
    let l = c.loop-i in
    let calls = c.args.calls.now in
    let n = length calls in
    let words = map call_text calls in
    let word = call_text (get_or calls l.i 0) in
    let rest = in_rows (l.i + 1) n (drop (l.i + 1) words) in
    let here : in_rows l.i n (drop l.i words) ≡ word ++ (end_of_word l.i n ∷ rest) =
    at_drop_more (in_rows l.i n) words l.i [] (omega (arith, length-map calls call_text)) ∙ ap (λ w. w ++ (end_of_word l.i n ∷ rest)) (get_or-map call_text calls l.i 0 [] c.loop-i-test.true) in
    let end = told (ap (λ (b : ℕ). b ∷ []) c.end_of_word.ensures.end) c.put.ensures.wrote in (
      _,
      then l.invariant.1 (then c.put_call.ensures.wrote end),
      append_assoc l.invariant.0 (word ++ (end_of_word l.i n ∷ [])) rest ∙ ap (λ t. l.invariant.0 ++ t) (append_assoc word (end_of_word l.i n ∷ []) rest ∙ sym here) ∙ l.invariant.2,
    )

pub returns : goal.returns
returns c =
    let l = c.loop-i in
    let calls = c.args.calls.now in
    let words = map call_text calls in
    let none = at_drop_all (in_rows l.i (length calls)) words l.i (omega (arith, length-map calls call_text)) in
    let all = sym (append-nil l.invariant.0) ∙ ap (λ t. l.invariant.0 ++ t) (sym none) ∙ l.invariant.2 ∙ rows_text words 0 (length calls) refl (omega (arith, length-map calls call_text)) in
    record { wrote = told all l.invariant.1 }
