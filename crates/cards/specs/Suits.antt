-- Suits, the lowest first, and denominations.
--     code s, suit_with_code n             the number of a suit, 0 to 3, and the suit of a number
--     lower s                              the suit just below s
--     rank d, denomination_with_code n     the number of a denomination, 4 for no trump, and the denomination of a number
use Rattle.std.specs.Prelude.{ℕ, cond, Some, None, Option, ◌==◌}
use Rattle.cards.specs.declared.suits.Suit.{Suit}
use Rattle.cards.specs.declared.suits.Suit.TheVariants.{Clubs, Diamonds, Hearts, Spades}
use Rattle.cards.specs.declared.suits.Denomination.{Denomination}
use Rattle.cards.specs.declared.suits.Denomination.TheVariants.{Trumps, NoTrump}

abbrev pub code : Suit → ℕ
code Clubs = 0
code Diamonds = 1
code Hearts = 2
code Spades = 3

abbrev pub suit_with_code : ℕ → Option Suit
suit_with_code n = cond (n == 0) (Some Clubs) (cond (n == 1) (Some Diamonds) (cond (n == 2) (Some Hearts) (cond (n == 3) (Some Spades) None)))

abbrev pub lower : Suit → Option Suit
lower Clubs = None
lower Diamonds = Some Clubs
lower Hearts = Some Diamonds
lower Spades = Some Hearts

abbrev pub rank : Denomination → ℕ
rank (Trumps s) = code s
rank NoTrump = 4

abbrev pub denomination_with_code : ℕ → Option Denomination
denomination_with_code n =
    cond (n == 0) (Some (Trumps Clubs)) (cond (n == 1) (Some (Trumps Diamonds)) (cond (n == 2) (Some (Trumps Hearts))
    (cond (n == 3) (Some (Trumps Spades)) (cond (n == 4) (Some NoTrump) None))))
