use Rattle.std.proofs.Common.{◌≡◌, ℕ, List, ◌++◌}
use Rattle.text.specs.Bytes.{Wrote}
use Rattle.writer.specs.Texts.{ranks_below}
use Rattle.writer.proofs.put_suit.Given as goal

-- the cards from `rank` on are on the page
abbrev pub invariant-loop-rank : goal.invariant-loop-rank
invariant-loop-rank l = (done : List ℕ) × Wrote done l.initial.page l.page × (done ++ ranks_below l.deal l.to l.lowest l.rank ≡ ranks_below l.deal l.to l.lowest 13)
