-- How far a lawful auction can come, by any measure of its calls, and who doubled.
use Rattle.std.proofs.Common.{◌≡◌, ℕ, zero, suc, ◌+◌, ◌-◌, ◌*◌, ◌%◌, ◌<◌, ◌≤◌, min, Bool, true, false, not, ◌&&◌, eqb, leb}
use Rattle.std.proofs.Common.{List, [], ◌∷◌, ◌++◌, length, replicate, Some, None, sum_by, sym, refl, ap, ◌∙◌, subst, inl, inr, add-mul, one-mul, arith}
use Rattle.std.proofs.lemmas.Nat.{mul-le}
use Rattle.std.proofs.lemmas.List.{replicate_more}
use Rattle.std.proofs.lemmas.List.Sums.{sum_by-cons, sum_by_push}
use Rattle.std.proofs.lemmas.Bool.{and_parts, cases_lt, eq-eqb, eqb-false, eqb-true, false≢true, le-leb, leb-false, leb-true, ne_eqb, not-true}
use Rattle.cards.specs.declared.chairs.Chair.{Chair}
use Rattle.cards.specs.Calls.{is_bid}
use Rattle.cards.specs.Chairs.{code, same_side}
use Rattle.cards.proofs.Ways.{passes_question}
use Rattle.scoring.specs.declared.contracts.Doubling.TheVariants.{Undoubled, Doubled, Redoubled}
use Rattle.auctions.specs.declared.Made.{Made}
use Rattle.auctions.specs.declared.Standing.{Standing}
use Rattle.auctions.specs.Auctions.{by_opponent, call_ruling, called, height, is_double, is_over, is_pass, last_bid, made, standing}
use Rattle.auctions.specs.Laws.{AtMost319, DoubledByOpponents, Lawful, PassIsLawful}
use Rattle.auctions.specs.Laws.Lawful.{none_yet, one_more}
use Rattle.auctions.specs.Outcomes.{doubling_by}
use Rattle.auctions.proofs.Steps.{stands_more}

asked_not : (x y : Bool) → (x && not y) ≡ false → x ≡ true → y ≡ true
asked_not true true e h = refl
asked_not true false e h = absurd (false≢true (sym e))
asked_not false y e h = absurd (false≢true h)

asked_and : (x y : Bool) → (x && y) ≡ false → x ≡ true → y ≡ false
asked_and true y e h = e
asked_and false y e h = absurd (false≢true h)

pub is_bid_call : (a : ℕ) → 3 ≤ a → a < 38 → is_bid a ≡ true
is_bid_call a l u = rw (le-leb 3 a l) (le-leb a 37 (omega arith))

-- what a lawful call is
pub record Fits (s : Standing) (a : ℕ) : Type 0 where
  pub small : a < 38
  pub above : 3 ≤ a → height s.bid < a
  pub doubles : a ≡ 1 → by_opponent is_bid s.turn s.action ≡ true
  pub redoubles : a ≡ 2 → by_opponent is_double s.turn s.action ≡ true

pub fits : (s : Standing) (a : ℕ) → call_ruling s a ≡ 0 → Fits s a
fits s a e =
    let q8 = passes_question (leb 38 a) 7 _ e in
    let q9 = passes_question (is_bid a && leb a (height s.bid)) 8 _ q8.1 in
    let q10 = passes_question (is_double a && not (by_opponent is_bid s.turn s.action)) 9 _ q9.1 in
    let q11 = passes_question (eqb a 2 && not (by_opponent is_double s.turn s.action)) 10 _ q10.1 in
    let small = leb-false 38 a q8.0 in
    record {
      small = small;
      above = λ h. leb-false a (height s.bid) (asked_and (is_bid a) (leb a (height s.bid)) q9.0 (is_bid_call a h small));
      doubles = λ h. asked_not (is_double a) (by_opponent is_bid s.turn s.action) q10.0 (eq-eqb a 1 h);
      redoubles = λ h. asked_not (eqb a 2) (by_opponent is_double s.turn s.action) q11.0 (eq-eqb a 2 h);
    }

-- a measure w of calls, and a bound `most` for the calls up to a bid: nobody has bid before the first but passed three times, and
-- after a bid come at most two passes, a double, two passes, a redouble and two passes before the next
pub record Scale (w most : ℕ → ℕ) : Type 0 where
  pub first : (a : ℕ) → 3 ≤ a → a < 38 → 3 * w 0 + w a ≤ most a
  pub next_bid : (c a : ℕ) → 3 ≤ c → c < a → a < 38 → most c + (w 1 + w 2 + 6 * w 0) + w a ≤ most a

-- the bid m is undoubled, doubled or redoubled by the last call other than Pass, which took n with the passes before it
data Times (w : ℕ → ℕ) (m o : Made) (n : ℕ) : Type 0 where
  plain : o ≡ m → n ≡ 0 → Times w m o n
  once : o.call ≡ 1 → same_side o.by m.by ≡ false → n ≡ w 1 + 2 * w 0 → Times w m o n
  twice : o.call ≡ 2 → same_side o.by m.by ≡ true → n ≡ w 1 + w 2 + 4 * w 0 → Times w m o n

times_few : (w : ℕ → ℕ) (m o : Made) (n : ℕ) → Times w m o n → n ≤ w 1 + w 2 + 4 * w 0
times_few w m o n (plain p q) = omega arith
times_few w m o n (once p s q) = omega arith
times_few w m o n (twice p s q) = omega arith

record Bidden (w most : ℕ → ℕ) (calls : List ℕ) (s : Standing) (m o : Made) (n : ℕ) : Type 0 where
  bid : s.bid ≡ Some m
  action : s.action ≡ Some o
  least : 3 ≤ m.call
  small : m.call < 38
  times : Times w m o n
  lasting : s.passes ≤ 3
  few : sum_by w calls ≤ most m.call + n + s.passes * w 0

-- how far an auction has come
data Reached (w most : ℕ → ℕ) (calls : List ℕ) (s : Standing) : Type 0 where
  unbid : s.bid ≡ None → s.action ≡ None → calls ≡ replicate s.passes 0 → s.passes ≤ 4 → sum_by w calls ≤ s.passes * w 0 → Reached w most calls s
  bidden : (m o : Made) (n : ℕ) → Bidden w most calls s m o n → Reached w most calls s

-- a call is Pass, a double, a redouble or a bid
data Sort : ℕ → Type 0 where
  pass : Sort 0
  double : Sort 1
  redouble : Sort 2
  bid : (a : ℕ) → 3 ≤ a → Sort a

sort : (a : ℕ) → Sort a
sort zero = pass
sort (suc zero) = double
sort (suc (suc zero)) = redouble
sort (suc (suc (suc a))) = bid _ (omega arith)

-- before it ends, an auction has at most three passes with no bid, and two after one
open_unbid : (s : Standing) → s.bid ≡ None → is_over s ≡ false → s.passes < 4
open_unbid s e o = leb-false 4 s.passes (rw e at o)

open_bid : (s : Standing) (m : Made) → s.bid ≡ Some m → is_over s ≡ false → s.passes < 3
open_bid s m e o = leb-false 3 s.passes (rw e at o)

-- nobody doubles before there is a call other than Pass
no_opponent : (p : ℕ → Bool) (s : Standing) → s.action ≡ None → by_opponent p s.turn s.action ≡ true → ⊥
no_opponent p s e h = false≢true (rw e at h)

opponent : (p : ℕ → Bool) (s : Standing) (o : Made) → s.action ≡ Some o → by_opponent p s.turn s.action ≡ true → (p o.call ≡ true) × (same_side s.turn o.by ≡ false)
opponent p s o e h = let q = and_parts (p o.call) (not (same_side s.turn o.by)) (rw e at h) in (q.0, not-true _ q.1)

-- of two sides: an opponent's opponent is a partner or oneself
other_side : (c e f : Chair) → same_side c e ≡ false → same_side e f ≡ false → same_side c f ≡ true
other_side c e f p q = eq-eqb (code c % 2) (code f % 2) (omega (arith, eqb-false (code c % 2) (code e % 2) p, eqb-false (code e % 2) (code f % 2) q))

-- one pass more, and two at the most
one_more_pass : (p x : ℕ) → (p + 1) * x ≡ p * x + x
one_more_pass p x = add-mul p 1 x ∙ ap (λ y. p * x + y) (one-mul x)

two_passes : (p x : ℕ) → p < 3 → p * x ≤ 2 * x
two_passes p x l = mul-le p x 2 x (omega arith) (omega arith)

module _ (w most : ℕ → ℕ) (scale : Scale w most) (calls : List ℕ) (s : Standing) (open' : is_over s ≡ false) where
  with_bid : (a : ℕ) → 3 ≤ a → Fits s a → sum_by w calls + w a ≤ most a → Reached w most (calls ++ a ∷ []) (called s a)
  with_bid a l f few =
      let b : is_bid a ≡ true = is_bid_call a l f.small in
      let n : is_pass a ≡ false = ne_eqb a 0 (λ e. omega arith) in
      bidden (made s.turn a) (made s.turn a) 0 (record {
        bid = rw b refl;
        action = rw n refl;
        least = l;
        small = f.small;
        times = plain refl refl;
        lasting = rw n (omega arith);
        few = rw n (omega (arith, sum_by_push w calls a));
      })

  unbid_more : (a : ℕ) → s.bid ≡ None → s.action ≡ None → calls ≡ replicate s.passes 0 → sum_by w calls ≤ s.passes * w 0 → Fits s a → Sort a → Reached w most (calls ++ a ∷ []) (called s a)
  unbid_more a b o e few f pass =
      let l = open_unbid s b open' in
      let m : min (s.passes + 1) 4 ≡ s.passes + 1 = omega arith in
      unbid b o (ap (λ cs. cs ++ 0 ∷ []) e ∙ replicate_more s.passes 0 ∙ ap (λ n. replicate n 0) (sym m)) (omega arith)
      (rw m (omega (arith, sum_by_push w calls 0, one_more_pass s.passes (w 0))))
  unbid_more a b o e few f double = absurd (no_opponent is_bid s o (f.doubles refl))
  unbid_more a b o e few f redouble = absurd (no_opponent is_double s o (f.redoubles refl))
  unbid_more a b o e few f (bid x l) =
      let three : s.passes * w 0 ≤ 3 * w 0 = mul-le s.passes (w 0) 3 (w 0) (omega (arith, open_unbid s b open')) (omega arith) in
      with_bid x l f (omega (arith, scale.first x l f.small))

  module _ (m o : Made) (n : ℕ) (so : Bidden w most calls s m o n) where
    soon : s.passes < 3
    soon = open_bid s m so.bid open'

    few_passes : s.passes * w 0 ≤ 2 * w 0
    few_passes = two_passes s.passes (w 0) soon

    doubled_by : Times w m o n → is_bid o.call ≡ true → same_side s.turn o.by ≡ false → (n ≡ 0) × (same_side s.turn m.by ≡ false)
    doubled_by (plain p q) b e = (q, subst (λ (x : Made). same_side s.turn x.by ≡ false) p e)
    doubled_by (once p t q) b e = absurd (false≢true (rw p at b))
    doubled_by (twice p t q) b e = absurd (false≢true (rw p at b))

    redoubled_by : Times w m o n → is_double o.call ≡ true → same_side s.turn o.by ≡ false → (n ≡ w 1 + 2 * w 0) × (same_side s.turn m.by ≡ true)
    redoubled_by (plain p q) b e = absurd (let x : o.call ≡ 1 = eqb-true o.call 1 b in let y : o.call ≡ m.call = ap (λ (z : Made). z.call) p in let v : ⊥ = omega (arith, so.least) in v)
    redoubled_by (once p t q) b e = (q, other_side s.turn o.by m.by e t)
    redoubled_by (twice p t q) b e = absurd (false≢true (rw p at b))

    -- a call that leaves the bid as it is
    still_bid : (a : ℕ) (x : Made) (k : ℕ) → (called s a).bid ≡ Some m → (called s a).action ≡ Some x → Times w m x k → (called s a).passes ≤ 3
        → sum_by w calls + w a ≤ most m.call + k + (called s a).passes * w 0 → Reached w most (calls ++ a ∷ []) (called s a)
    still_bid a x k b e t l few =
        bidden m x k (record { bid = b; action = e; least = so.least; small = so.small; times = t; lasting = l; few = omega (arith, sum_by_push w calls a) })

    bidden_more : (a : ℕ) → Fits s a → Sort a → Reached w most (calls ++ a ∷ []) (called s a)
    bidden_more a f pass =
        let p : min (s.passes + 1) 4 ≡ s.passes + 1 = omega (arith, soon) in
        still_bid 0 o n so.bid so.action so.times (omega (arith, soon)) (rw p (omega (arith, so.few, one_more_pass s.passes (w 0))))
    bidden_more a f double =
        let q = opponent is_bid s o so.action (f.doubles refl) in
        let t = doubled_by so.times q.0 q.1 in
        still_bid 1 (made s.turn 1) (w 1 + 2 * w 0) so.bid refl (once refl t.1 refl) (omega arith) (omega (arith, so.few, few_passes, t.0))
    bidden_more a f redouble =
        let q = opponent is_double s o so.action (f.redoubles refl) in
        let t = redoubled_by so.times q.0 q.1 in
        still_bid 2 (made s.turn 2) (w 1 + w 2 + 4 * w 0) so.bid refl (twice refl t.1 refl) (omega arith) (omega (arith, so.few, few_passes, t.0))
    bidden_more a f (bid x l) =
        let higher : m.call < x = subst (λ b. height b < x) so.bid (f.above l) in
        with_bid x l f (omega (arith, so.few, few_passes, times_few w m o n so.times, scale.next_bid m.call x so.least higher f.small))

  more : (a : ℕ) → Fits s a → Reached w most calls s → Reached w most (calls ++ a ∷ []) (called s a)
  more a f (unbid b o e l few) = unbid_more a b o e few f (sort a)
  more a f (bidden m o n so) = bidden_more m o n so a f (sort a)

module _ (w most : ℕ → ℕ) (scale : Scale w most) where
  reached : (d : Chair) (calls : List ℕ) → Lawful d calls → Reached w most calls (standing d calls)
  reached d calls none_yet = unbid refl refl refl (omega arith) (omega arith)
  reached d calls (one_more before a l o r) =
      subst (Reached w most (before ++ a ∷ [])) (sym (stands_more d before a)) (more w most scale before (standing d before) o a (fits (standing d before) a r) (reached d before l))

  -- by any measure, a lawful auction is at most as long as the one that takes every chance to go on
  pub measured : (d : Chair) (calls : List ℕ) → Lawful d calls → sum_by w calls ≤ most 37 + (w 1 + w 2 + 7 * w 0)
  measured d calls l = go (reached d calls l)
    where
      go : Reached w most calls (standing d calls) → sum_by w calls ≤ most 37 + (w 1 + w 2 + 7 * w 0)
      go (unbid b o e p few) =
          let four : (standing d calls).passes * w 0 ≤ 4 * w 0 = mul-le (standing d calls).passes (w 0) 4 (w 0) p (omega arith) in
          omega (arith, few)
      go (bidden m o n so) =
          let three : (standing d calls).passes * w 0 ≤ 3 * w 0 = mul-le (standing d calls).passes (w 0) 3 (w 0) so.lasting (omega arith) in
          elim (cases_lt m.call 37) [
            | inl below ↦ omega (arith, so.few, times_few w m o n so.times, scale.next_bid m.call 37 so.least below (omega arith))
            | inr top ↦ let e : m.call ≡ 37 = omega (arith, so.small) in omega (arith, so.few, times_few w m o n so.times, ap most e)
          ]

-- every call counts one
abbrev one : ℕ → ℕ
one a = 1

ones : (calls : List ℕ) → sum_by one calls ≡ length calls
ones [] = refl
ones (a ∷ calls) = omega (arith, sum_by-cons one a calls, ones calls)

counting : Scale one (λ c. 9 * c - 23)
counting = record { first = λ a l u. omega arith; next_bid = λ c a l h u. omega arith }

pub at_most_319 : AtMost319
at_most_319 d calls l = omega (arith, ones calls, measured one (λ c. 9 * c - 23) counting d calls l)

-- with no bid, an auction that is over is four passes
pub passed_out : (d : Chair) (calls : List ℕ) → Lawful d calls → is_over (standing d calls) ≡ true → last_bid d calls ≡ None → calls ≡ 0 ∷ 0 ∷ 0 ∷ 0 ∷ []
passed_out d calls l o e = go (reached one _ counting d calls l)
  where
    go : Reached one (λ c. 9 * c - 23) calls (standing d calls) → calls ≡ 0 ∷ 0 ∷ 0 ∷ 0 ∷ []
    go (unbid b x r p few) = let four : (standing d calls).passes ≡ 4 = omega (arith, leb-true 4 (standing d calls).passes (rw e at o)) in r ∙ ap (λ n. replicate n 0) four
    go (bidden m x n so) = absurd (let z : ◌≡◌ {A = ℕ} 0 1 = cc so.bid in let v : ⊥ = omega arith in v)

pub pass_is_lawful : PassIsLawful
pass_is_lawful s = refl

-- who doubled, by the last bid and the last call other than Pass
abbrev Sides : Made → Made → Type 0
Sides m o = (doubling_by (Some o) ≡ Doubled → same_side o.by m.by ≡ false) × (doubling_by (Some o) ≡ Redoubled → same_side o.by m.by ≡ true)

-- a bid is not doubled by itself
undoubled : (m : Made) → 3 ≤ m.call → doubling_by (Some m) ≡ Undoubled
undoubled m l = rw (ne_eqb m.call 1 (λ e. omega arith), ne_eqb m.call 2 (λ e. omega arith)) refl

sides : (m o : Made) (n : ℕ) → 3 ≤ m.call → Times one m o n → Sides m o
sides m o n l (plain p q) =
    let u : doubling_by (Some o) ≡ Undoubled = ap (λ x. doubling_by (Some x)) p ∙ undoubled m l in
    (λ e. absurd (let z : ◌≡◌ {A = ℕ} 0 1 = cc in let v : ⊥ = omega arith in v), λ e. absurd (let z : ◌≡◌ {A = ℕ} 0 1 = cc in let v : ⊥ = omega arith in v))
sides m o n l (once p w q) = (λ e. w, λ e. absurd (let x : Doubled ≡ Redoubled = rw p at e in let z : ◌≡◌ {A = ℕ} 0 1 = cc in let v : ⊥ = omega arith in v))
sides m o n l (twice p w q) = (λ e. absurd (let x : Redoubled ≡ Doubled = rw p at e in let z : ◌≡◌ {A = ℕ} 0 1 = cc in let v : ⊥ = omega arith in v), λ e. w)

pub doubled_by_opponents : DoubledByOpponents
doubled_by_opponents d calls last action l p q = go (reached one _ counting d calls l)
  where
    go : Reached one (λ c. 9 * c - 23) calls (standing d calls) → Sides last action
    go (unbid b x r n few) = absurd (let z : ◌≡◌ {A = ℕ} 0 1 = cc (b, p) in let v : ⊥ = omega arith in v)
    go (bidden m o n so) =
        let same-bid : m ≡ last = cc (so.bid, p) in
        let same-action : o ≡ action = cc (so.action, q) in
        subst (λ x. Sides x action) same-bid (subst (Sides m) same-action (sides m o n so.least so.times))
