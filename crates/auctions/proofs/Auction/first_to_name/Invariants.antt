use Rattle.std.proofs.Common.{◌≡◌, drop}
use Rattle.auctions.specs.Outcomes.{first_to_name}
use Rattle.auctions.proofs.Auction.first_to_name.Given as goal

-- nobody has named it before, so who names it first is among the calls to come
abbrev pub invariant-loop-call : goal.invariant-loop-call
invariant-loop-call l = first_to_name l.bid l.turn (drop l.call-index l.self.calls.now) ≡ first_to_name l.bid l.self.dealer l.self.calls.now
