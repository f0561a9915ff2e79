-- Which card may be played from a hand, by the suit led; None at a lead.
--     is_of s a                   the card a is of the suit s
--     follows led h a             the card a follows suit, or the hand h holds none of the suit led, or it is a lead
--     card_ruling led h a         the number with which the card a from the hand h is refused, 0 if it is lawful
--     lowest_legal led h          the lowest card of the suit led, by number, or of the whole hand if it holds none of it
use Rattle.std.specs.Prelude.{ℕ, ◌/◌, Bool, true, cond, not, ◌||◌, Some, None, Option, ◌==◌, nat_le}
use Rattle.cards.specs.declared.suits.Suit.{Suit}
use Rattle.cards.specs.Suits.{code}
use Rattle.cards.specs.Hands.{holds}
use Rattle.hands.specs.Hands.{is_void, lowest, lowest_of}

abbrev pub is_of : Suit → ℕ → Bool
is_of s a = a / 13 == code s

abbrev pub follows : Option Suit → ℕ → ℕ → Bool
follows None h a = true
follows (Some s) h a = is_of s a || is_void h s

-- the questions in their order
abbrev pub card_ruling : Option Suit → ℕ → ℕ → ℕ
card_ruling led h a =
    cond (nat_le 52 a) 8
    (cond (not (holds h a)) 12
    (cond (not (follows led h a)) 13
    0))

abbrev pub lowest_legal : Option Suit → ℕ → Option ℕ
lowest_legal None h = lowest h
lowest_legal (Some s) h = cond (is_void h s) (lowest h) (lowest_of h s)
