-- The laws of a trick, in words.
--     card_at cs j               the card j of some cards, counted from 0
--     Highest t cs n             the card n wins: of trumps in the trick it is the highest, and with no trump the highest of the suit led
--     HighestWins                the winner of a trick is the chair of that card
--     Legal                      whenever a hand holds a card, its lowest legal card is ruled lawful, and no lower card is
use Rattle.std.specs.Prelude.{◌≡◌, ℕ, ◌/◌, ◌<◌, ◌≤◌, true, false, List, length, IsSomeAnd, Option, ◌≢◌, slice_index}
use Rattle.cards.specs.declared.chairs.Chair.{Chair}
use Rattle.cards.specs.declared.suits.Denomination.{Denomination}
use Rattle.cards.specs.declared.suits.Suit.{Suit}
use Rattle.cards.specs.Chairs.{ahead}
use Rattle.cards.specs.Hands.{holds}
use Rattle.tricks.specs.Cards.{card_ruling, lowest_legal}
use Rattle.tricks.specs.Tricks.{is_trump, winner}

abbrev pub card_at : List ℕ → ℕ → ℕ
card_at cs j = slice_index cs j

pub record Highest (t : Denomination) (cs : List ℕ) (n : ℕ) : Type 0 where
  pub within : n < length cs
  pub of_trumps : (j : ℕ) → j < length cs → is_trump t (card_at cs j) ≡ true → (is_trump t (card_at cs n) ≡ true) × (card_at cs j ≤ card_at cs n)
  pub of_suit_led : is_trump t (card_at cs n) ≡ false
      → (card_at cs n / 13 ≡ card_at cs 0 / 13) × ((j : ℕ) → j < length cs → card_at cs j / 13 ≡ card_at cs 0 / 13 → card_at cs j ≤ card_at cs n)

abbrev pub HighestWins : Type 0
HighestWins = (t : Denomination) (l : Chair) (cs : List ℕ) → 0 < length cs → (n : ℕ) × Highest t cs n × (winner t l cs ≡ ahead l n)

abbrev pub Legal : Type 0
Legal =
    (led : Option Suit) (h x : ℕ) → x < 52 → holds h x ≡ true
    → IsSomeAnd (lowest_legal led h) (λ a. (card_ruling led h a ≡ 0) × ((y : ℕ) → y < a → card_ruling led h y ≢ 0))
