use Rattle.std.proofs.Common.{[], arith, ◌∙◌}
use Rattle.std.proofs.lemmas.List.{drop_all}
use Rattle.auctions.proofs.Lasts.{lasts}
use Rattle.auctions.proofs.Lengths.{doubled_by_opponents}
use Rattle.auctions.proofs.Steps.{stands_along, turns}
use Rattle.auctions.proofs.Auction.standing.Goals as goal

pub returns : goal.returns
returns c =
    let calls = c.args.self.now.calls.now in
    let none_left = drop_all c.loop-call.call-index calls (omega arith) in
    record {
      standing = rw none_left at c.loop-call.invariant ∙ stands_along c.args.self.now.dealer [] calls;
      turns = turns;
      lasts = lasts;
      doubled = doubled_by_opponents;
    }
