-- How many calls and cards a finished board has at most.
use Rattle.std.proofs.Common.{◌≡◌, ℕ, ◌≤◌, leb, Bool, true, false, cond, length, is_some, arith}
use Rattle.std.proofs.lemmas.Bool.{and_parts, eqb-true, leb-true}
use Rattle.laws.specs.History.{Board, declarer_on, is_auction_over}
use Rattle.cards.specs.Deals.{thirteen_each}
use Rattle.finished.specs.Finished.{are_below, has_all_cards, is_complete, is_numbered}

all_or_none : (b : Bool) (n : ℕ) → n ≡ cond b 52 0 → n ≤ 52
all_or_none true n e = omega arith
all_or_none false n e = omega arith

pub limits : (b : Board) → is_complete b ≡ true → (length b.calls ≤ 319) × (length b.cards ≤ 52)
limits b e =
    let dealt = and_parts (is_numbered b) _ e in
    let called = and_parts (thirteen_each b.deal) _ dealt.1 in
    let calls = and_parts (leb (length b.calls) 319) _ called.1 in
    let cards = and_parts (are_below 38 b.calls) _ calls.1 in
    let over = and_parts (are_below 52 b.cards) _ cards.1 in
    let played = and_parts (is_auction_over b) (has_all_cards b) over.1 in
    (leb-true _ 319 calls.0, all_or_none (is_some (declarer_on b)) (length b.cards) (eqb-true _ _ played.1))
