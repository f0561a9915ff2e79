-- What hands hold, in words.
--     is_among x cs              the card x is one of the cards cs
--     Deals                      a hand dealt holds the cards whose byte names its chair, and no other
--     Remains                    what remains of a hand holds a card exactly if the hand held it and it is not among the cards gone
--     Found h c n o              o is the lowest of the n cards from c on that h holds, and there is none only if h holds none of them
--     Lowest                     the lowest card is found so
use Rattle.std.specs.Prelude.{◌≡◌, ℕ, ◌+◌, ◌<◌, ◌≤◌, Bool, true, false, not, ◌&&◌, ◌||◌, List, [], ◌∷◌, length, Option, MatchOption, ◌==◌, slice_index}
use Rattle.cards.specs.Hands.{dealt, holds}
use Rattle.hands.specs.Hands.{lowest_from, remaining}

abbrev pub is_among : ℕ → List ℕ → Bool
is_among x [] = false
is_among x (c ∷ cs) = c == x || is_among x cs

abbrev pub Deals : Type 0
Deals = (d : List ℕ) (x c : ℕ) → (c < length d → holds (dealt d x) c ≡ (slice_index d c == x)) × (length d ≤ c → holds (dealt d x) c ≡ false)

abbrev pub Remains : Type 0
Remains = (h : ℕ) (cs : List ℕ) (x : ℕ) → holds (remaining h cs) x ≡ (holds h x && not (is_among x cs))

abbrev pub NoneBetween : ℕ → ℕ → ℕ → Type 0
NoneBetween h c e = (x : ℕ) → c ≤ x → x < e → holds h x ≡ false

abbrev pub Found : ℕ → ℕ → ℕ → Option ℕ → Type 0
Found h c n o = MatchOption o (NoneBetween h c (c + n)) (λ x. (c ≤ x) × (x < c + n) × (holds h x ≡ true) × NoneBetween h c x)

abbrev pub Lowest : Type 0
Lowest = (h c n : ℕ) → Found h c n (lowest_from h c n)
