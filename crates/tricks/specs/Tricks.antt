-- Tricks, by the cards from the opening lead on: four to a trick, one from each chair, clockwise from the leader.
--     is_trump t c               the card c is a trump, where t is the denomination
--     same_suit b c              the cards b and c are of one suit
--     beats t b c                the card c, played later, beats the card b: it is higher in the same suit, or a trump on another
--     winner t l cs              the chair that wins the cards cs, of which l led the first
--     trick cards k              the cards of the trick k, counted from 0
--     leader t l cards k         the chair that leads the trick k: l the first, and the winner of each trick the next
--     won t l cards c k          how many of the first k tricks the side of the chair c wins
--     tricks_in cards            how many whole tricks there are
--     led cards                  the suit led to the trick in progress, none if it has no card yet
--     progress t c cards         where play stands with declarer c: who leads the trick in progress, and the tricks of declarer's side
use Rattle.std.specs.Prelude.{ℕ, zero, suc, ◌+◌, ◌*◌, ◌/◌, ◌%◌, Bool, false, cond, List, [], ◌∷◌, length, take, drop, None, Option, ◌==◌, nat_lt, slice_index}
use Rattle.cards.specs.declared.chairs.Chair.{Chair}
use Rattle.cards.specs.declared.suits.Denomination.{Denomination}
use Rattle.cards.specs.declared.suits.Denomination.TheVariants.{Trumps, NoTrump}
use Rattle.cards.specs.declared.suits.Suit.{Suit}
use Rattle.cards.specs.Chairs.{next, same_side}
use Rattle.cards.specs.Pack.{suit_of}
use Rattle.tricks.specs.declared.Progress.{Progress}
use Rattle.tricks.specs.Cards.{is_of}

abbrev pub is_trump : Denomination → ℕ → Bool
is_trump (Trumps s) c = is_of s c
is_trump NoTrump c = false

abbrev pub same_suit : ℕ → ℕ → Bool
same_suit b c = b / 13 == c / 13

abbrev pub beats : Denomination → ℕ → ℕ → Bool
beats t b c = cond (same_suit b c) (nat_lt b c) (is_trump t c)

-- with the best card so far and its chair, and the chair in turn
abbrev pub winner_from : Denomination → Chair → ℕ → Chair → List ℕ → Chair
winner_from t by best turn [] = by
winner_from t by best turn (c ∷ more) = cond (beats t best c) (winner_from t turn c (next turn) more) (winner_from t by best (next turn) more)

abbrev pub winner : Denomination → Chair → List ℕ → Chair
winner t l [] = l
winner t l (c ∷ more) = winner_from t l c (next l) more

abbrev pub trick : List ℕ → ℕ → List ℕ
trick cards k = take 4 (drop (4 * k) cards)

abbrev pub leader : Denomination → Chair → List ℕ → ℕ → Chair
leader t l cards zero = l
leader t l cards (suc k) = winner t (leader t l cards k) (trick cards k)

abbrev pub won : Denomination → Chair → List ℕ → Chair → ℕ → ℕ
won t l cards c zero = 0
won t l cards c (suc k) = won t l cards c k + cond (same_side (leader t l cards (suc k)) c) 1 0

abbrev pub tricks_in : List ℕ → ℕ
tricks_in cards = length cards / 4

abbrev pub led : List ℕ → Option Suit
led cards = cond (length cards % 4 == 0) None (suit_of (slice_index cards (4 * tricks_in cards)))

abbrev pub progress : Denomination → Chair → List ℕ → Progress
progress t c cards = record { leader = leader t (next c) cards (tricks_in cards); won = won t (next c) cards c (tricks_in cards) }
