-- The cards. A card is 13 times its suit and its rank, 0 for the two to 12 for the ace.
--     card s r                   the card of the suit s and the rank r
--     card_of s r                the same, if there is such a rank
--     suit_of c, rank_of c       the suit and the rank of a card, if there is such a card
use Rattle.std.specs.Prelude.{ℕ, ◌+◌, ◌*◌, ◌/◌, ◌%◌, cond, Some, None, Option, nat_lt}
use Rattle.cards.specs.declared.suits.Suit.{Suit}
use Rattle.cards.specs.Suits.{code, suit_with_code}

abbrev pub card : Suit → ℕ → ℕ
card s r = 13 * code s + r

abbrev pub card_of : Suit → ℕ → Option ℕ
card_of s r = cond (nat_lt r 13) (Some (card s r)) None

abbrev pub suit_of : ℕ → Option Suit
suit_of c = suit_with_code (c / 13)

abbrev pub rank_of : ℕ → Option ℕ
rank_of c = cond (nat_lt c 52) (Some (c % 13)) None
