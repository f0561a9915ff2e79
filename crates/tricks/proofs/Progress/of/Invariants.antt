use Rattle.std.proofs.Common.{◌≡◌, ◌*◌, ◌≤◌, length, drop}
use Rattle.std.specs.Slice.Iter.{chunks_exact_rest, chunks_exact_size}
use Rattle.tricks.specs.Tricks.{leader, won}
use Rattle.tricks.proofs.Progress.of.Given as goal

-- the tricks so far
abbrev pub invariant-loop-cards : goal.invariant-loop-cards
invariant-loop-cards l =
    let k = length l.yielded in
    record {
      by_four : chunks_exact_size l.cards-iterator ≡ 4;
      to_come : chunks_exact_rest l.cards-iterator ≡ drop (4 * k) l.cards;
      whole : 4 * k ≤ length l.cards;
      leads : l.leader ≡ leader l.trumps l.initial.leader l.cards k;
      wins : l.won ≡ won l.trumps l.initial.leader l.cards l.declarer k;
      few : l.won ≤ k;
    }
