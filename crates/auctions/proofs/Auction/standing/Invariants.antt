use Rattle.std.proofs.Common.{◌≡◌, drop, fold}
use Rattle.auctions.specs.Auctions.{called, start}
use Rattle.auctions.proofs.Auction.standing.Given as goal

-- the calls to come take it from where it stands to where they all take it from the start
abbrev pub invariant-loop-call : goal.invariant-loop-call
invariant-loop-call l = fold called l.standing (drop l.call-index l.self.calls.now) ≡ fold called (start l.self.dealer) l.self.calls.now
