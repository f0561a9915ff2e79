-- The last call of a kind, and the first chair to name a denomination.
use Rattle.std.proofs.Common.{◌≡◌, ℕ, zero, suc, ◌-◌, ◌%◌, ◌<◌, Bool, true, false, cond, List, [], ◌∷◌, length, IsSomeAnd, Some, None, Option, refl, le_of_suc-le-suc, not-suc-le-zero, arith, MatchOption}
use Rattle.std.specs.Option.{option_or}
use Rattle.std.proofs.lemmas.Bool.{and_from, and_parts, both_ways, eq-eqb}
use Rattle.cards.specs.declared.chairs.Chair.{Chair}
use Rattle.cards.specs.Calls.{is_bid}
use Rattle.cards.specs.Chairs.{ahead, code, next, same_side}
use Rattle.cards.proofs.Ways.{by}
use Rattle.auctions.specs.declared.Made.{Made}
use Rattle.auctions.specs.Auctions.{last_bid, last_call, made}
use Rattle.auctions.specs.Laws.{Declares, FirstAt, LastAt, LastOf, Lasts, Nowhere, call_at}
use Rattle.auctions.specs.Outcomes.{declarer_by, first_to_name, names, same_denomination}

module _ (p : ℕ → Bool) (d : Chair) (a : ℕ) (calls : List ℕ) where
  -- what stands one call further along
  nowhere_more : p a ≡ false → Nowhere p calls → Nowhere p (a ∷ calls)
  nowhere_more e f zero l = e
  nowhere_more e f (suc k) l = f k (le_of_suc-le-suc l)

  none_later : (k : ℕ) → ((j : ℕ) → k < j → j < length calls → p (call_at calls j) ≡ false) → (j : ℕ) → suc k < j → j < length (a ∷ calls) → p (call_at (a ∷ calls) j) ≡ false
  none_later k f zero l u = absurd (not-suc-le-zero l)
  none_later k f (suc j) l u = f j (le_of_suc-le-suc l) (le_of_suc-le-suc u)

  last_later : (m : Made) (k : ℕ) → LastAt p (next d) calls m k → LastAt p d (a ∷ calls) m (suc k)
  last_later m k l = record { within = omega (arith, l.within); there = l.there; maker = l.maker; fits = l.fits; none_after = none_later k l.none_after }

  last_here : p a ≡ true → Nowhere p calls → LastAt p d (a ∷ calls) (made d a) 0
  last_here e f = record { within = omega arith; there = refl; maker = refl; fits = e; none_after = after }
    where
      after : (j : ℕ) → 0 < j → j < length (a ∷ calls) → p (call_at (a ∷ calls) j) ≡ false
      after zero l u = absurd (not-suc-le-zero l)
      after (suc j) l u = f j (le_of_suc-le-suc u)

  last_or : (o : Option Made) → LastOf p (next d) calls o → LastOf p d (a ∷ calls) (option_or o (cond (p a) (Some (made d a)) None))
  last_or (Some m) l = (suc l.0, last_later m l.0 l.1)
  last_or None f = by (p a) (λ e. rw e (0, last_here e f)) (λ e. rw e (nowhere_more e f))

pub lasts : Lasts
lasts p d [] = λ k l. absurd (not-suc-le-zero l)
lasts p d (a ∷ calls) = last_or p d a calls (last_call p (next d) calls) (lasts p (next d) calls)

-- the first chair to name a denomination, from one call that names it on
abbrev Named : Made → Chair → List ℕ → Chair → Type 0
Named bid d calls c = (same_side c bid.by ≡ true) × ((k : ℕ) × FirstAt bid d calls c k)

first_later : (bid : Made) (d : Chair) (a : ℕ) (calls : List ℕ) (c : Chair) (k : ℕ) → names bid d a ≡ false → FirstAt bid (next d) calls c k → FirstAt bid d (a ∷ calls) c (suc k)
first_later bid d a calls c k e f = record { within = omega (arith, f.within); maker = f.maker; fits = f.fits; none_before = before }
  where
    before : (j : ℕ) → j < suc k → names bid (ahead d j) (call_at (a ∷ calls) j) ≡ false
    before zero l = e
    before (suc j) l = f.none_before j (le_of_suc-le-suc l)

first_here : (bid : Made) (d : Chair) (a : ℕ) (calls : List ℕ) → names bid d a ≡ true → Named bid d (a ∷ calls) d
first_here bid d a calls e =
    let q = and_parts (is_bid a) _ e in
    let side : same_side d bid.by ≡ true = (and_parts (same_denomination a bid.call) (same_side d bid.by) q.1).1 in
    (side, (0, record { within = omega arith; maker = refl; fits = e; none_before = λ j l. absurd (not-suc-le-zero l) }))

first_named : (bid : Made) (d : Chair) (calls : List ℕ) (k : ℕ) → k < length calls → names bid (ahead d k) (call_at calls k) ≡ true → IsSomeAnd (first_to_name bid d calls) (Named bid d calls)
first_named bid d [] k l e = absurd (not-suc-le-zero l)
first_named bid d (a ∷ calls) k l e = by (names bid d a)
    (λ f. rw f (first_here bid d a calls f))
    (λ f. rw f (onward f (first_to_name bid (next d) calls) (named_later f k l e (first_named bid (next d) calls))))
  where
    onward : names bid d a ≡ false → (o : Option Chair) → IsSomeAnd o (Named bid (next d) calls) → IsSomeAnd o (Named bid d (a ∷ calls))
    onward f None s = s
    onward f (Some c) s = (s.0, (suc s.1.0, first_later bid d a calls c s.1.0 f s.1.1))

    named_later : names bid d a ≡ false → (k : ℕ) → k < length (a ∷ calls) → names bid (ahead d k) (call_at (a ∷ calls) k) ≡ true
        → ((j : ℕ) → j < length calls → names bid (ahead (next d) j) (call_at calls j) ≡ true → IsSomeAnd (first_to_name bid (next d) calls) (Named bid (next d) calls))
        → IsSomeAnd (first_to_name bid (next d) calls) (Named bid (next d) calls)
    named_later f zero l e more = absurd (both_ways (names bid d a) f e)
    named_later f (suc k) l e more = more k (le_of_suc-le-suc l) e

-- the last bid names its own denomination
names_itself : (d : Chair) (calls : List ℕ) (bid : Made) (k : ℕ) → LastAt is_bid d calls bid k → names bid (ahead d k) (call_at calls k) ≡ true
names_itself d calls bid k l =
    rw (l.there, l.maker)
    (and_from (is_bid bid.call) _ l.fits
    (and_from (same_denomination bid.call bid.call) _ (eq-eqb ((bid.call - 3) % 5) _ refl) (eq-eqb (code bid.by % 2) _ refl)))

pub declares : Declares
declares d calls = go (last_bid d calls) (lasts is_bid d calls)
  where
    go : (o : Option Made) → LastOf is_bid d calls o → MatchOption o (declarer_by d calls o ≡ None) (λ bid. IsSomeAnd (declarer_by d calls o) (Named bid d calls))
    go None f = refl
    go (Some bid) l = first_named bid d calls l.0 l.1.within (names_itself d calls bid l.0 l.1)
