use Rattle.std.proofs.Common.{◌≡◌, ℕ, ◌^◌, ◌<◌, List, ◌++◌, length}
use Rattle.cards.specs.Hands.{dealt}
use Rattle.cards.proofs.hands.dealt.Given as goal

-- the bytes seen, from the last one back, have given their cards
abbrev pub invariant-loop-receiver : goal.invariant-loop-receiver
invariant-loop-receiver l =
    (seen : List ℕ) × (l.deal ≡ l.receiver-iterator.iter.rest.now ++ seen) × (l.hand ≡ dealt seen l.code) × (l.hand < 2 ^ length seen)
