-- What remains of hands, and their lowest cards.
--     without h c                the hand h without the card c
--     remaining h cs             the hand h without the cards cs
--     is_void h s                h holds no card of the suit s
--     lowest h, lowest_of h s    the lowest card of h by its number, and the lowest of a suit
use Rattle.std.specs.Prelude.{ℕ, zero, suc, ◌+◌, ◌-◌, ◌*◌, ◌/◌, ◌%◌, Bool, true, cond, not, ◌&&◌, List, Some, None, Option}
use Rattle.std.specs.List.{fold}
use Rattle.cards.specs.declared.suits.Suit.{Suit}
use Rattle.cards.specs.Hands.{holds}
use Rattle.cards.specs.Suits.{code}

abbrev pub without : ℕ → ℕ → ℕ
without h zero = h - h % 2
without h (suc c) = without (h / 2) c * 2 + h % 2

abbrev pub remaining : ℕ → List ℕ → ℕ
remaining h cs = fold without h cs

-- h holds none of the n cards from the card c on
unfoldable pub none_from : ℕ → ℕ → ℕ → Bool
none_from h c zero = true
none_from h c (suc n) = not (holds h c) && none_from h (suc c) n

abbrev pub is_void : ℕ → Suit → Bool
is_void h s = none_from h (13 * code s) 13

-- the lowest of the n cards from the card c on that h holds
unfoldable pub lowest_from : ℕ → ℕ → ℕ → Option ℕ
lowest_from h c zero = None
lowest_from h c (suc n) = cond (holds h c) (Some c) (lowest_from h (suc c) n)

abbrev pub lowest : ℕ → Option ℕ
lowest h = lowest_from h 0 52

abbrev pub lowest_of : ℕ → Suit → Option ℕ
lowest_of h s = lowest_from h (13 * code s) 13
