use Rattle.std.proofs.Common.{ℕ, ◌*◌, [], ◌∷◌, refl, ap, arith}
use Rattle.text.proofs.Writes.{nothing, then, told}
use Rattle.writer.proofs.Ranks.{suit_done, with_one_card, without_card}
use Rattle.writer.proofs.put_suit.Goals as goal

pub loop-rank-init : goal.loop-rank-init
loop-rank-init c = ([], nothing _, refl)

pub loop-rank-preserved : goal.loop-rank-preserved
loop-rank-preserved c =
    let l = c.loop-rank in
    (l.invariant.0, l.invariant.1, without_card c.args.deal.now _ _ l.rank (omega arith) (omega arith) l.invariant.0 _ (rw (← c.from.ensures) c.if-deal-from.false) l.invariant.2)

pub loop-rank-preserved-then-deal-from : goal.loop-rank-preserved-then-deal-from
loop-rank-preserved-then-deal-from c =
    let l = c.loop-rank in
    let letter = told (ap (λ (b : ℕ). b ∷ []) c.rank_letter.ensures.letter) c.put.ensures.wrote in
    (_, then l.invariant.1 letter, with_one_card c.args.deal.now _ _ l.rank (omega arith) (omega arith) l.invariant.0 _ (rw (← c.from.ensures) c.if-deal-from.true) l.invariant.2)

pub returns : goal.returns
returns c =
    let l = c.loop-rank in
    let low = ap (λ k. 13 * k) c.from-lowest.ensures.0 in
    let e = suit_done c.args.deal.now c.args.chair c.args.suit c.from-to.result (13 * c.from-lowest.result) l.rank l.invariant.0 c.from-to.ensures.0 low (omega arith) l.invariant.2 in
    record { wrote = told e l.invariant.1 }
