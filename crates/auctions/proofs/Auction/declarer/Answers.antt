use Rattle.auctions.proofs.Lasts.{declares}
use Rattle.auctions.proofs.Auction.declarer.Goals as goal

pub returns-in_err-standing-clause-declares : goal.returns-in_err-standing-clause-declares
returns-in_err-standing-clause-declares c = declares

pub returns-clause-declares : goal.returns-clause-declares
returns-clause-declares c = declares
