-- A card laid out is the first of those still to be laid.
use Rattle.std.proofs.Common.{◌≡◌, ℕ, ◌-◌, ◌<◌, ◌≤◌, Bool, true, false, cond, eqb, List, [], ◌∷◌, length, get_or, take, drop, set, replicate, Some, None, Ok, Err, Option, Result, sym, refl, ap, ◌∙◌, arith}
use Rattle.std.proofs.lemmas.List.{get_or_default, take_rest}
use Rattle.std.proofs.lemmas.Bool.{eq-eqb, ne_eqb}
use Rattle.cards.specs.declared.chairs.Chair.{Chair}
use Rattle.cards.specs.declared.suits.Suit.TheVariants.{Spades}
use Rattle.cards.specs.Chairs.{code}
use Rattle.cards.specs.Deals.{thirteen_each}
use Rattle.faults.specs.declared.Fault.{Fault}
use Rattle.faults.specs.declared.Fault.TheVariants.{MalformedDeal, RepeatedCard, UnevenHands}
use Rattle.tags.specs.Searches.{Found}
use Rattle.tags.specs.Tags.{and_then}
use Rattle.values.specs.declared.deals.Cursor.{Cursor}
use Rattle.values.specs.Cursors.{Layout, cards_from, laid_as, layout, outcome}
use Rattle.values.specs.Deals.{Placed, both, card_named, cards_placed, deal_read, hands_in, placed_at, undealt}
use Rattle.values.specs.Letters.{chair_named}
use Rattle.values.proofs.Parts.{hands_by}

laid_first : (d : List ℕ) (again : Bool) (c : ℕ) (x : Chair) (o : Option (List Placed)) → layout d again (both (placed_at x (Some c)) o) ≡ layout (set d c (code x)) (cond (eqb (get_or d c 4) 4) again true) o
laid_first d again c x o = grind arith

pub card_laid : (k : Cursor) (d : List ℕ) (b c : ℕ) (text : List ℕ) → (b ≡ 32 → ⊥) → (b ≡ 46 → ⊥) → card_named k.suit b ≡ Some c → c < length d
    → outcome (Some k) d (b ∷ text) ≡ layout (set d c (code k.chair)) (cond (eqb (get_or d c 0) 4) k.repeated true) (cards_from k.left k.chair k.suit text)
card_laid k d b c text space dot named within =
    let rest = cards_from k.left k.chair k.suit text in
    simp (ne_eqb b 32 space, ne_eqb b 46 dot) (ap (λ o. layout d k.repeated (both (placed_at k.chair o) rest)) named)
    ∙ laid_first d k.repeated c k.chair rest
    ∙ ap (λ v. layout (set d c (code k.chair)) (cond (eqb v 4) k.repeated true) rest) (get_or_default d c 4 0 within)

-- a Deal value is a chair's letter, a colon and hands
pub hands_of : (value : List ℕ) (x : Chair) → 2 ≤ length value → get_or value 1 0 ≡ 58 → chair_named (get_or value 0 0) ≡ Some x → cards_placed value ≡ cards_from 3 x Spades (take (length value - 2) (drop 2 value))
hands_of [] x l colon named = absurd (omega arith)
hands_of (b ∷ []) x l colon named = absurd (omega arith)
hands_of (b ∷ m ∷ text) x l colon named =
    simp (eq-eqb m 58 colon) (ap (λ o. and_then o (λ y. hands_in y text)) named ∙ hands_by x text ∙ ap (cards_from 3 x Spades) (sym (take_rest (b ∷ m ∷ text) 2)))

-- the questions put to a deal that is laid out
abbrev pub judged : ℕ → Option Layout → Result (List ℕ) Fault
judged i None = Err (MalformedDeal i)
judged i (Some l) = cond l.again (Err (RepeatedCard i)) (cond (thirteen_each l.deal) (Ok l.deal) (Err (UnevenHands i)))

judged_as : (f : Found) (o : Option (List Placed)) → cards_placed f.value ≡ o → deal_read f ≡ judged f.line (layout undealt false o)
unfolding deal_read
judged_as f None e = simp e
judged_as f (Some ps) e =
    grind arith

undealt_is : undealt ≡ replicate 52 4
unfolding undealt
undealt_is = refl

-- what comes of a deal that is laid out, and the answer whether a card repeats
pub deal_judged : (f : Found) (o : Option Bool) (d : List ℕ) → laid_as o d ≡ layout (replicate 52 4) false (cards_placed f.value) → deal_read f ≡ judged f.line (laid_as o d)
deal_judged f o d e = judged_as f (cards_placed f.value) refl ∙ ap (λ t. judged f.line (layout t false (cards_placed f.value))) undealt_is ∙ ap (judged f.line) (sym e)
