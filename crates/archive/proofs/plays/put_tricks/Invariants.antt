use Rattle.std.proofs.Common.{◌≡◌, ◌*◌, ◌≤◌, length, drop}
use Rattle.std.specs.Slice.Iter.{chunks_exact_rest, chunks_exact_size}
use Rattle.text.specs.Bytes.{Wrote}
use Rattle.tricks.specs.Tricks.{leader}
use Rattle.writer.specs.Texts.{text}
use Rattle.archive.specs.Records.{trick_rows}
use Rattle.archive.proofs.plays.put_tricks.Given as goal

-- the tricks so far are on the page
abbrev pub invariant-loop-cards : goal.invariant-loop-cards
invariant-loop-cards l =
    let k = length l.yielded in
    record {
      by_four : chunks_exact_size l.cards-iterator ≡ 4;
      to_come : chunks_exact_rest l.cards-iterator ≡ drop (4 * k) l.cards;
      whole : 4 * k ≤ length l.cards;
      leads : l.leader ≡ leader l.trumps l.opening l.cards k;
      wrote : Wrote (text (trick_rows l.trumps l.opening l.cards k)) l.initial.page l.page;
    }
