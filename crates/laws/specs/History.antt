-- A board by its history: what was dealt, and the calls and cards so far, in order. All else follows from these.
--     Board                       number, dealer, vulnerability, the deal (for each of the 52 cards the chair that gets it), calls and cards
--     auction_of b, is_auction_over b  where its auction stands, and whether it has ended
--     declarer_on b, trumps_on b  the declarer and the denomination that the calls come to
--     opening_leader b            the chair after declarer
--     leader_on b                 the chair that leads the trick in progress
--     turn_on b                   the chair in turn: to call, or to play
--     seats c x                   the asked chair and the chair acted from, where c is in turn and x declares: both are c, but
--                                declarer is asked for dummy's cards
--     seats_on b                  the same on a board: nobody declares until the auction is over
--     hand d cards c              what the chair c still holds: what the deal d gave it, less the cards played
--     act_ruling s led h a        the ruling on a call while the auction lasts, and then on a card from the hand h
--     ruling_on b a               the ruling on the act a of the chair in turn
--     is_finished b               four passes with no bid, or 52 cards
--     after b a                   the board with one act more, a call while the auction lasts and then a card
--     tricks_on b                 the tricks that declarer's side has won
use Rattle.std.specs.Prelude.{ℕ, ◌%◌, Bool, true, cond, ◌&&◌, List, [], ◌∷◌, ◌++◌, length, Some, None, Option, ◌==◌, nat_le}
use Rattle.std.specs.Option.{unwrap_or}
use Rattle.auctions.specs.declared.Standing.{Standing}
use Rattle.auctions.specs.Auctions.{call_ruling, is_over, standing}
use Rattle.auctions.specs.Outcomes.{Terms, contract_of, declarer_of}
use Rattle.cards.specs.declared.boards.Vulnerability.{Vulnerability}
use Rattle.cards.specs.declared.chairs.Chair.{Chair}
use Rattle.cards.specs.declared.suits.Denomination.{Denomination}
use Rattle.cards.specs.declared.suits.Denomination.TheVariants.{NoTrump}
use Rattle.cards.specs.declared.suits.Suit.{Suit}
use Rattle.cards.specs.Chairs.{ahead, code, next, partner}
use Rattle.cards.specs.Hands.{dealt}
use Rattle.hands.specs.Hands.{remaining}
use Rattle.tricks.specs.Cards.{card_ruling}
use Rattle.tricks.specs.Tricks.{leader, led, tricks_in, won}

pub record Board : Type 0 where
  pub number : ℕ
  pub dealer : Chair
  pub vulnerability : Vulnerability
  pub deal : List ℕ
  pub calls : List ℕ
  pub cards : List ℕ

abbrev pub auction_of : Board → Standing
auction_of b = standing b.dealer b.calls

abbrev pub is_auction_over : Board → Bool
is_auction_over b = is_over (auction_of b)

abbrev pub declarer_on : Board → Option Chair
declarer_on b = declarer_of b.dealer b.calls

abbrev pub denomination_in : Option Terms → Denomination
denomination_in None = NoTrump
denomination_in (Some k) = k.1

abbrev pub trumps_on : Board → Denomination
trumps_on b = denomination_in (contract_of (auction_of b))

abbrev pub opening_leader : Board → Chair
opening_leader b = next (unwrap_or (declarer_on b) b.dealer)

abbrev pub leader_at : Board → ℕ → Chair
leader_at b k = leader (trumps_on b) (opening_leader b) b.cards k

abbrev pub leader_on : Board → Chair
leader_on b = leader_at b (tricks_in b.cards)

abbrev pub turn_on : Board → Chair
turn_on b = cond (is_auction_over b) (ahead (leader_on b) (length b.cards % 4)) (auction_of b).turn

abbrev pub asked_for : Chair → Option Chair → Chair
asked_for c None = c
asked_for c (Some declarer) = cond (code c == code (partner declarer)) declarer c

abbrev pub seats : Chair → Option Chair → Chair × Chair
seats c x = (asked_for c x, c)

abbrev pub seats_on : Board → Chair × Chair
seats_on b = seats (turn_on b) (cond (is_auction_over b) (declarer_on b) None)

abbrev pub hand : List ℕ → List ℕ → Chair → ℕ
hand d cards c = remaining (dealt d (code c)) cards

abbrev pub act_ruling : Standing → Option Suit → ℕ → ℕ → ℕ
act_ruling s led h a = cond (is_over s) (card_ruling led h a) (call_ruling s a)

abbrev pub ruling_on : Board → ℕ → ℕ
ruling_on b a = act_ruling (auction_of b) (led b.cards) (hand b.deal b.cards (seats_on b).1) a

abbrev pub is_played_out : Option Chair → List ℕ → Bool
is_played_out None cards = true
is_played_out (Some declarer) cards = nat_le 52 (length cards)

abbrev pub is_finished : Board → Bool
is_finished b = is_auction_over b && is_played_out (declarer_on b) b.cards

abbrev pub with_call : Board → ℕ → Board
with_call b a = record { number = b.number; dealer = b.dealer; vulnerability = b.vulnerability; deal = b.deal; calls = b.calls ++ a ∷ []; cards = b.cards }

abbrev pub with_card : Board → ℕ → Board
with_card b a = record { number = b.number; dealer = b.dealer; vulnerability = b.vulnerability; deal = b.deal; calls = b.calls; cards = b.cards ++ a ∷ [] }

abbrev pub after : Board → ℕ → Board
after b a = cond (is_auction_over b) (with_card b a) (with_call b a)

abbrev pub tricks_on : Board → ℕ
tricks_on b = won (trumps_on b) (opening_leader b) b.cards (unwrap_or (declarer_on b) b.dealer) (tricks_in b.cards)
