use Rattle.std.proofs.Common.{◌^◌, rules, tests, arith}
use Rattle.std.proofs.lemmas.Iterator.{YieldsList-from_slice}
use Rattle.std.proofs.lemmas.Iterator.Adapters.{at_most_from_yields_List, fits_from_length}
use Rattle.cards.proofs.deals.count.Goals as goal

pub sum-requires-clause-fits : goal.sum-requires-clause-fits
sum-requires-clause-fits c =
    fits_from_length _ _ 52 (2 ^ 64) (at_most_from_yields_List (YieldsList-from_slice c.args.deal.now cc) (omega arith)) c.map.ensures.closure (omega arith) (λ x r q k. search (rules, tests))
