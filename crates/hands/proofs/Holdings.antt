-- What a hand holds: what a deal gives it, and what is left of it when cards are gone.
use Rattle.std.proofs.Common.{◌≡◌, ℕ, zero, suc, ◌+◌, ◌-◌, ◌*◌, ◌/◌, ◌%◌, ◌<◌, ◌≤◌, Bool, true, false, cond, not, eqb, ◌≢◌}
use Rattle.std.proofs.Common.{List, [], ◌∷◌, ◌++◌, length, get_or, Some, None, Option, sym, refl, ap, ◌∙◌, subst, inl, inr, le_of_suc-le-suc, not-suc-le-zero, arith}
use Rattle.std.proofs.lemmas.Bool.{and_parts, cases_eq, eqb-false, eqb-true, false≢true, not-true}
use Rattle.std.proofs.Math.Bool.{and-false, and-true}
use Rattle.cards.proofs.Ways.{by}
use Rattle.cards.proofs.Counts.{count_more}
use Rattle.cards.specs.Deals.{count}
use Rattle.cards.specs.Hands.{dealt, holds}
use Rattle.hands.specs.Hands.{lowest_from, none_from, remaining, without}
use Rattle.hands.specs.Laws.{Deals, Found, Lowest, NoneBetween, Remains}

-- the low bit and the rest of a number that is made of the two
low : (q r : ℕ) → r < 2 → (q * 2 + r) % 2 ≡ r
low q r h = omega arith

rest : (q r : ℕ) → r < 2 → (q * 2 + r) / 2 ≡ q
rest q r h = omega arith

bit_small : (b : Bool) → cond b 1 0 < 2
bit_small true = omega arith
bit_small false = omega arith

bit_back : (b : Bool) → eqb (cond b 1 0) 1 ≡ b
bit_back true = refl
bit_back false = refl

-- a card of the pack is held by the chair that its byte names
pub dealt_there : (d : List ℕ) (x c : ℕ) → c < length d → holds (dealt d x) c ≡ eqb (get_or d c 0) x
dealt_there [] x c l = absurd (not-suc-le-zero l)
dealt_there (y ∷ ys) x zero l = rw (low (dealt ys x) (cond (eqb y x) 1 0) (bit_small (eqb y x))) (bit_back (eqb y x))
dealt_there (y ∷ ys) x (suc c) l = rw (rest (dealt ys x) (cond (eqb y x) 1 0) (bit_small (eqb y x))) (dealt_there ys x c (le_of_suc-le-suc l))

pub dealt_past : (d : List ℕ) (x c : ℕ) → length d ≤ c → holds (dealt d x) c ≡ false
dealt_past [] x zero l = refl
dealt_past [] x (suc c) l = dealt_past [] x c (omega arith)
dealt_past (y ∷ ys) x zero l = absurd (not-suc-le-zero l)
dealt_past (y ∷ ys) x (suc c) l = rw (rest (dealt ys x) (cond (eqb y x) 1 0) (bit_small (eqb y x))) (dealt_past ys x c (le_of_suc-le-suc l))

pub deals : Deals
deals d x c = (dealt_there d x c, dealt_past d x c)

pub gone : (h c : ℕ) → holds (without h c) c ≡ false
gone h zero = let e : (h - h % 2) % 2 ≡ 0 = omega arith in rw e refl
gone h (suc c) = rw (rest (without (h / 2) c) (h % 2) (omega arith)) (gone (h / 2) c)

pub kept : (h c x : ℕ) → x ≢ c → holds (without h c) x ≡ holds h x
kept h zero zero n = absurd (n refl)
kept h zero (suc x) n = let e : (h - h % 2) / 2 ≡ h / 2 = omega arith in rw e refl
kept h (suc c) zero n = rw (low (without (h / 2) c) (h % 2) (omega arith)) refl
kept h (suc c) (suc x) n = rw (rest (without (h / 2) c) (h % 2) (omega arith)) (kept (h / 2) c x (λ e. n (ap suc e)))

-- a card that is not there is not taken away
pub without_none : (h c : ℕ) → holds h c ≡ false → without h c ≡ h
without_none h zero e = omega (arith, eqb-false (h % 2) 1 e)
without_none h (suc c) e = rw (without_none (h / 2) c e) (omega arith)

pub remains : Remains
remains h [] x = sym (and-true (holds h x))
remains h (c ∷ cs) x = remains (without h c) cs x ∙ by (eqb c x)
    (λ e. let f : holds (without h c) x ≡ false = subst (λ y. holds (without h c) y ≡ false) (eqb-true c x e) (gone h c) in rw (f, e) (sym (and-false (holds h x))))
    (λ e. rw (kept h c x (λ p. eqb-false c x e (sym p)), e) refl)

pub remaining_more : (h : ℕ) (cs : List ℕ) (a : ℕ) → remaining h (cs ++ a ∷ []) ≡ without (remaining h cs) a
remaining_more h [] a = refl
remaining_more h (c ∷ cs) a = remaining_more (without h c) cs a

-- how many of the first n cards a hand holds
unfoldable pub held : ℕ → ℕ → ℕ
held h zero = 0
held h (suc n) = h % 2 + held (h / 2) n

pub held_without : (h c n : ℕ) → holds h c ≡ true → c < n → held (without h c) n + 1 ≡ held h n
unfolding held
held_without h c zero e l = absurd (not-suc-le-zero l)
held_without h zero (suc n) e l = let r : h % 2 ≡ 1 = eqb-true (h % 2) 1 e in let q : (h - h % 2) / 2 ≡ h / 2 = omega arith in rw q (omega arith)
held_without h (suc c) (suc n) e l =
    let r : (without (h / 2) c * 2 + h % 2) / 2 ≡ without (h / 2) c = omega arith in
    let f : held (without (h / 2) c) n + 1 ≡ held (h / 2) n = held_without (h / 2) c n e (le_of_suc-le-suc l) in
    rw r (omega arith)

pub held_dealt : (d : List ℕ) (x : ℕ) → held (dealt d x) (length d) ≡ count x d
unfolding held
held_dealt [] x = refl
held_dealt (y ∷ ys) x =
    let b : ℕ = cond (eqb y x) 1 0 in
    let s : b < 2 = bit_small (eqb y x) in
    let f : held (dealt ys x) (length ys) ≡ count x ys = held_dealt ys x in
    rw (rest (dealt ys x) b s, low (dealt ys x) b s, count_more x y ys) (omega arith)

pub held_some : (h n : ℕ) → 0 < held h n → (x : ℕ) × (x < n) × (holds h x ≡ true)
unfolding held
held_some h zero l = absurd (not-suc-le-zero l)
held_some h (suc n) l = by (holds h zero)
    (λ e. (zero, omega arith, e))
    (λ e. let r = held_some (h / 2) n (omega (arith, eqb-false (h % 2) 1 e)) in (suc r.0, omega (arith, r.1), r.2))

-- a suit that is void holds no card, and one that is not holds one
pub none_there : (h c n x : ℕ) → none_from h c n ≡ true → c ≤ x → x < c + n → holds h x ≡ false
unfolding none_from
none_there h c zero x e l u = absurd (let v : ⊥ = omega arith in v)
none_there h c (suc n) x e l u =
    let p = and_parts (not (holds h c)) (none_from h (suc c) n) e in
    elim (cases_eq c x) [
      | inl q ↦ subst (λ y. holds h y ≡ false) q (not-true (holds h c) p.0)
      | inr q ↦ none_there h (suc c) n x p.1 (omega arith) (omega arith)
    ]

pub some_there : (h c n : ℕ) → none_from h c n ≡ false → (x : ℕ) × (c ≤ x) × (x < c + n) × (holds h x ≡ true)
unfolding none_from
some_there h c zero e = absurd (false≢true (sym e))
some_there h c (suc n) e = by (holds h c)
    (λ q. (c, omega arith, omega arith, q))
    (λ q. let r = some_there h (suc c) n (rw q at e) in (r.0, omega (arith, r.1), omega (arith, r.2), r.3))

pub lowest_found : Lowest
unfolding lowest_from
lowest_found h c zero = λ x l u. absurd (let v : ⊥ = omega arith in v)
lowest_found h c (suc n) = by (holds h c)
    (λ e. rw e (omega arith, omega arith, e, λ x l u. absurd (let v : ⊥ = omega arith in v)))
    (λ e. rw e (further e (lowest_from h (suc c) n) (lowest_found h (suc c) n)))
  where
    after : holds h c ≡ false → (m : ℕ) → NoneBetween h (suc c) m → NoneBetween h c m
    after e m f x l u = elim (cases_eq c x) [ inl q ↦ subst (λ y. holds h y ≡ false) q e | inr q ↦ f x (omega arith) u ]

    further : holds h c ≡ false → (o : Option ℕ) → Found h (suc c) n o → Found h c (suc n) o
    further e None f = let s : c + suc n ≡ suc c + n = omega arith in subst (NoneBetween h c) (sym s) (after e (suc c + n) f)
    further e (Some x) f = (omega (arith, f.0), omega (arith, f.1), f.2, after e x f.3)
