use Rattle.std.proofs.Common.{◌≡◌, ◌≤◌, [], ℤ, nat_abs, sym, ap, ◌∙◌, subst, arith, w32, to_z, of_z}
use Rattle.std.specs.Option.{option_map}
use Rattle.std.proofs.lemmas.Int.{ints}
use Rattle.auctions.specs.Outcomes.{contract_of, terms}
use Rattle.finished.specs.Finished.{board_of}
use Rattle.finished.proofs.Scored.{came_none, score_small}
use Rattle.finished.proofs.outcomes.outcome_of.Goals as goal

pub returns-in_default : goal.returns-in_default
returns-in_default c =
    let none = ap (option_map terms) (sym c.in_default.is) ∙ c.contract.ensures.contract ∙ ap contract_of c.standing.ensures.standing in
    record { outcome = came_none (board_of 0 c.args.auction.dealer c.args.vulnerability [] c.args.auction.calls.now c.args.cards.now) none }

-- a small score is kept in 32 bits as it is
same : (z : ℤ) → nat_abs z ≤ 7600 → to_z w32 (of_z w32 z) ≡ z
same z l = omega (arith, ints)

pub invariant_of-result : goal.invariant_of-result
invariant_of-result c =
    let few : c.of-tricks.result.won ≤ 13 = omega (arith, c.of-tricks.ensures.few, c.requires) in
    let small = score_small c.in-Some.contract c.in_ok-declarer.declarer c.args.vulnerability c.of-tricks.result.won c.in_ok-score.score few c.in_ok-score.ensures.score in
    record { few = few; bounded = subst (λ z. nat_abs z ≤ 7600) (sym (same c.in_ok-score.score small)) small }
