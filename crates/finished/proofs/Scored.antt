-- What a board came to, from its parts.
use Rattle.std.proofs.Common.{◌≡◌, ℕ, ◌≤◌, leb, ℤ, nat_abs, Some, None, unwrap_or, sym, ap, subst, arith}
use Rattle.std.proofs.lemmas.Int.{ints}
use Rattle.auctions.specs.Outcomes.{contract_of}
use Rattle.cards.specs.declared.boards.Vulnerability.{Vulnerability}
use Rattle.cards.specs.declared.chairs.Chair.{Chair}
use Rattle.cards.specs.declared.chairs.Chair.TheVariants.{North, East, South, West}
use Rattle.cards.specs.Chairs.{next}
use Rattle.cards.proofs.Ways.{by}
use Rattle.scoring.specs.declared.contracts.Contract.{Contract}
use Rattle.scoring.specs.Scores.{is_vulnerable, score, scored_ns, to_ns}
use Rattle.scoring.proofs.Computed.{tens}
use Rattle.tricks.specs.Tricks.{tricks_in, won}
use Rattle.laws.specs.History.{Board, auction_of, declarer_on, denomination_in}
use Rattle.finished.specs.Outcomes.{came, came_to}

-- a score that is there is that of the contract
scored_as : (k : Contract) (c : Chair) (v : Vulnerability) (t : ℕ) (z : ℤ) → Some z ≡ scored_ns k c v t → z ≡ to_ns c (score k.level k.denomination k.doubling (is_vulnerable v c) t)
scored_as k c v t z e = by (leb t 13)
    (λ p. let f : Some z ≡ Some (to_ns c (score k.level k.denomination k.doubling (is_vulnerable v c) t)) = rw p at e in cc)
    (λ p. absurd (let f : Some z ≡ None = rw p at e in let n : ◌≡◌ {A = ℕ} 0 1 = cc in let q : ⊥ = omega arith in q))

to_ns_small : (c : Chair) (s : ℤ) → nat_abs s ≤ 7600 → nat_abs (to_ns c s) ≤ 7600
to_ns_small North s l = l
to_ns_small East s l = omega (arith, ints)
to_ns_small South s l = l
to_ns_small West s l = omega (arith, ints)

pub score_small : (k : Contract) (c : Chair) (v : Vulnerability) (t : ℕ) (z : ℤ) → t ≤ 13 → Some z ≡ scored_ns k c v t → nat_abs z ≤ 7600
score_small k c v t z few e =
    let s = score k.level k.denomination k.doubling (is_vulnerable v c) t in
    subst (λ y. nat_abs y ≤ 7600) (sym (scored_as k c v t z e)) (to_ns_small c s (tens k.level k.denomination k.doubling (is_vulnerable v c) t k.least k.most few).0)

pub came_none : (b : Board) → None ≡ contract_of (auction_of b) → None ≡ came_to b
came_none b e = ap (λ o. came b.vulnerability (won (denomination_in o) (next (unwrap_or (declarer_on b) b.dealer)) b.cards (unwrap_or (declarer_on b) b.dealer) (tricks_in b.cards)) o (declarer_on b)) e
