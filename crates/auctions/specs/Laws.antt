-- The laws of the auction, in words.
--     Steps                      one call more leaves what `called` says, and no call at all the start
--     Turns                      after k calls the turn is at the chair (d + k) mod 4, where d is the dealer
--     LastOf p d calls o         o is the last call of which p holds: it stands among the calls, its chair made it, and p holds
--                                of none after it; there is none only if p holds of no call
--     Lasts                      so are the last bid and the last call other than Pass
--     Lawful d calls             every call was made while the auction lasted, and ruled lawful
--     PassIsLawful               a Pass is ruled lawful wherever an auction stands
--     AtMost319                  no lawful auction has more than 319 calls
--     DoubledByOpponents         in a lawful auction that comes to a doubled contract an opponent of the contract's side
--                                doubled last, and to a redoubled one a chair of that side redoubled last
--     FirstAt bid d calls c k    c made the call k, a bid in the denomination of `bid` by the side that made it, and no call before k is one
--     Declares                   the declarer is of the side that made the last bid, and first to name its denomination; none declares only if nobody bid
use Rattle.std.specs.Prelude.{◌≡◌, ℕ, ◌+◌, ◌%◌, ◌<◌, ◌≤◌, Bool, true, false, List, [], ◌∷◌, ◌++◌, length, IsSomeAnd, Some, None, Option, MatchOption, slice_index}
use Rattle.cards.specs.declared.chairs.Chair.{Chair}
use Rattle.cards.specs.Chairs.{ahead, code, same_side}
use Rattle.scoring.specs.declared.contracts.Doubling.TheVariants.{Doubled, Redoubled}
use Rattle.auctions.specs.declared.Made.{Made}
use Rattle.auctions.specs.declared.Standing.{Standing}
use Rattle.auctions.specs.Auctions.{call_ruling, called, is_over, last_action, last_bid, last_call, standing, start}
use Rattle.auctions.specs.Outcomes.{declarer_of, doubling_by, names}

abbrev pub Steps : Type 0
Steps = (d : Chair) → (standing d [] ≡ start d) × ((calls : List ℕ) (a : ℕ) → standing d (calls ++ a ∷ []) ≡ called (standing d calls) a)

abbrev pub Turns : Type 0
Turns = (d : Chair) (calls : List ℕ) → code (standing d calls).turn ≡ (code d + length calls) % 4

-- the call k, counted from 0
abbrev pub call_at : List ℕ → ℕ → ℕ
call_at calls k = slice_index calls k

abbrev pub Nowhere : (ℕ → Bool) → List ℕ → Type 0
Nowhere p calls = (k : ℕ) → k < length calls → p (call_at calls k) ≡ false

pub record LastAt (p : ℕ → Bool) (d : Chair) (calls : List ℕ) (m : Made) (k : ℕ) : Type 0 where
  pub within : k < length calls
  pub there : call_at calls k ≡ m.call
  pub maker : ahead d k ≡ m.by
  pub fits : p m.call ≡ true
  pub none_after : (j : ℕ) → k < j → j < length calls → p (call_at calls j) ≡ false

abbrev pub LastOf : (ℕ → Bool) → Chair → List ℕ → Option Made → Type 0
LastOf p d calls o = MatchOption o (Nowhere p calls) (λ m. (k : ℕ) × LastAt p d calls m k)

abbrev pub Lasts : Type 0
Lasts = (p : ℕ → Bool) (d : Chair) (calls : List ℕ) → LastOf p d calls (last_call p d calls)

pub data Lawful (d : Chair) : List ℕ → Type 0 where
  none_yet : Lawful d []
  one_more : (calls : List ℕ) (a : ℕ) → Lawful d calls → is_over (standing d calls) ≡ false → call_ruling (standing d calls) a ≡ 0 → Lawful d (calls ++ a ∷ [])

abbrev pub PassIsLawful : Type 0
PassIsLawful = (s : Standing) → call_ruling s 0 ≡ 0

abbrev pub AtMost319 : Type 0
AtMost319 = (d : Chair) (calls : List ℕ) → Lawful d calls → length calls ≤ 319

abbrev pub DoubledByOpponents : Type 0
DoubledByOpponents =
    (d : Chair) (calls : List ℕ) (bid action : Made) → Lawful d calls → last_bid d calls ≡ Some bid → last_action d calls ≡ Some action
    → (doubling_by (Some action) ≡ Doubled → same_side action.by bid.by ≡ false) × (doubling_by (Some action) ≡ Redoubled → same_side action.by bid.by ≡ true)

pub record FirstAt (bid : Made) (d : Chair) (calls : List ℕ) (c : Chair) (k : ℕ) : Type 0 where
  pub within : k < length calls
  pub maker : ahead d k ≡ c
  pub fits : names bid c (call_at calls k) ≡ true
  pub none_before : (j : ℕ) → j < k → names bid (ahead d j) (call_at calls j) ≡ false

abbrev pub Declares : Type 0
Declares =
    (d : Chair) (calls : List ℕ)
    → MatchOption (last_bid d calls) (declarer_of d calls ≡ None) (λ bid. IsSomeAnd (declarer_of d calls) (λ c. (same_side c bid.by ≡ true) × ((k : ℕ) × FirstAt bid d calls c k)))
