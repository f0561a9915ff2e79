use Rattle.std.proofs.Common.{arith}
use Rattle.std.proofs.lemmas.Grind.{common_steps}
use Rattle.tags.specs.Views.{found}
use Rattle.values.proofs.Layouts.{deal_judged}
use Rattle.values.proofs.deals.deal_in.Goals as goal

pub returns-in_err-repeated : goal.returns-in_err-repeated
returns-in_err-repeated c = let e = deal_judged (found c.args.tag) _ _ c.lay_out.ensures.laid in grind (arith, common_steps)

pub returns-then-repeated : goal.returns-then-repeated
returns-then-repeated c = let e = deal_judged (found c.args.tag) _ _ c.lay_out.ensures.laid in grind (arith, common_steps)

pub returns-then-not-is_thirteen_each : goal.returns-then-not-is_thirteen_each
returns-then-not-is_thirteen_each c = let e = deal_judged (found c.args.tag) _ _ c.lay_out.ensures.laid in grind (arith, common_steps)

pub returns : goal.returns
returns c = let e = deal_judged (found c.args.tag) _ _ c.lay_out.ensures.laid in grind (arith, common_steps)
