use Rattle.std.proofs.Common.{◌≡◌, true, rules}
use Rattle.finished.specs.Finished.{board_as, is_complete}
use Rattle.finished.proofs.Limits.{limits}
use Rattle.text.specs.Bytes.{written}
use Rattle.finished.proofs.FinishedBoard.new.Goals as goal

pub invariant_of-result : goal.invariant_of-result
invariant_of-result c =
    let e : is_complete (board_as c.args.number c.args.deal.now c.args.calls.now c.args.cards.now) ≡ true = search rules in
    let l = limits (board_as c.args.number c.args.deal.now c.args.calls.now c.args.cards.now) e in
    let calls : written c.from_slice.result ≡ c.args.calls.now = c.from_slice.ensures.whole l.0 in
    let cards : written c.from_slice-2.result ≡ c.args.cards.now = c.from_slice-2.ensures.whole l.1 in
    record { complete = rw (calls, cards, c.dealer_of.ensures.chair, c.vulnerability_of.ensures.vulnerability) e }

pub returns : goal.returns
returns c =
    let e : is_complete (board_as c.args.number c.args.deal.now c.args.calls.now c.args.cards.now) ≡ true = search rules in
    let l = limits (board_as c.args.number c.args.deal.now c.args.calls.now c.args.cards.now) e in
    let calls : written c.from_slice.result ≡ c.args.calls.now = c.from_slice.ensures.whole l.0 in
    let cards : written c.from_slice-2.result ≡ c.args.cards.now = c.from_slice-2.ensures.whole l.1 in
    record { board = rw (calls, cards, e, c.dealer_of.ensures.chair, c.vulnerability_of.ensures.vulnerability) }
