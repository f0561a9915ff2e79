-- Where an auction stands after one call more.
use Rattle.std.proofs.Common.{◌≡◌, ℕ, ◌+◌, min, Bool, cond, not, List, [], ◌∷◌, ◌++◌, length, Some, fold, Option, sym, refl, ap, ◌∙◌, arith}
use Rattle.std.specs.List.{suffix_len, prefix_len}
use Rattle.std.proofs.lemmas.List.{append_assoc, append-nil, reverse-append}
use Rattle.cards.specs.declared.chairs.Chair.{Chair}
use Rattle.cards.specs.Calls.{is_bid}
use Rattle.cards.specs.Chairs.{ahead, next}
use Rattle.cards.proofs.Turns.{ahead_push, clockwise}
use Rattle.cards.proofs.Ways.{by}
use Rattle.auctions.specs.declared.Made.{Made}
use Rattle.auctions.specs.declared.Standing.{Standing}
use Rattle.auctions.specs.Auctions.{called, is_pass, last_action, last_call, made, standing}
use Rattle.auctions.specs.Laws.{Steps, Turns}

pub last_more : (p : ℕ → Bool) (d : Chair) (calls : List ℕ) (a : ℕ) → last_call p d (calls ++ a ∷ []) ≡ cond (p a) (Some (made (ahead d (length calls)) a)) (last_call p d calls)
last_more p d [] a = refl
last_more p d (c ∷ calls) a = rw (last_more p (next d) calls a) (by (p a) (λ e. rw e refl) (λ e. rw e refl))

action_more : (d : Chair) (calls : List ℕ) (a : ℕ) → last_action d (calls ++ a ∷ []) ≡ cond (is_pass a) (last_action d calls) (Some (made (ahead d (length calls)) a))
action_more d calls a = last_more (λ x. not (is_pass x)) d calls a ∙ by (is_pass a) (λ e. rw e refl) (λ e. rw e refl)

passes_more : (calls : List ℕ) (a : ℕ) → min (suffix_len is_pass (calls ++ a ∷ [])) 4 ≡ cond (is_pass a) (min (min (suffix_len is_pass calls) 4 + 1) 4) 0
passes_more calls a = ap (λ cs. min (prefix_len is_pass cs) 4) (reverse-append calls (a ∷ [])) ∙ by (is_pass a) (λ e. rw e (omega arith)) (λ e. rw e refl)

pub stands_more : (d : Chair) (calls : List ℕ) (a : ℕ) → standing d (calls ++ a ∷ []) ≡ called (standing d calls) a
stands_more d calls a = same (ahead_push d calls a) (last_more is_bid d calls a) (action_more d calls a) (passes_more calls a)
  where
    same : {t u : Chair} {b e x y : Option Made} {n m : ℕ} → t ≡ u → b ≡ e → x ≡ y → n ≡ m
        → ◌≡◌ {A = Standing} (record { turn = t; bid = b; action = x; passes = n }) (record { turn = u; bid = e; action = y; passes = m })
    same p q r s = rw (p, q, r, s) refl

pub steps : Steps
steps d = (refl, stands_more d)

pub turns : Turns
turns d calls = clockwise d (length calls)

-- call by call, from any calls on
pub stands_along : (d : Chair) (front calls : List ℕ) → fold called (standing d front) calls ≡ standing d (front ++ calls)
stands_along d front [] = ap (standing d) (sym (append-nil front))
stands_along d front (a ∷ calls) =
    ap (λ s. fold called s calls) (sym (stands_more d front a)) ∙ stands_along d (front ++ a ∷ []) calls ∙ ap (standing d) (append_assoc front (a ∷ []) calls)
