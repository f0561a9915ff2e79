-- What holds of every lawful board.
--     LawfulDeal d             52 cards, 13 for each chair
--     Lawful b                 the board was dealt so, and each act was ruled lawful before the board was finished
--     AtMost371                a lawful board has at most 319 calls and 52 cards
--     WayOn                    until it is finished some act is lawful: a Pass in the auction, and then a card that the hand holds
--     player b k               the chair that plays the card k, counted from 0
--     OneToEachTrick           each chair plays exactly one card to each trick
--     PlayedFromHand           each card was dealt to the chair that played it, and no card is played twice
--     SuitFollowed             a card is of the suit led to its trick, unless the hand that it came from then held none of it
--     EachCardOnce             each of the 52 cards is among the cards played or in just one hand, and not both
use Rattle.std.specs.Prelude.{◌≡◌, ℕ, ◌+◌, ◌*◌, ◌/◌, ◌%◌, ◌<◌, ◌≤◌, true, false, ◌⊎◌, List, [], length, take, ◌≢◌, slice_index}
use Rattle.cards.specs.declared.boards.Vulnerability.{Vulnerability}
use Rattle.cards.specs.declared.chairs.Chair.{Chair}
use Rattle.cards.specs.Chairs.{ahead, code}
use Rattle.cards.specs.Deals.{thirteen_each}
use Rattle.cards.specs.Hands.{holds}
use Rattle.hands.specs.Laws.{is_among}
use Rattle.tricks.specs.Tricks.{same_suit}
use Rattle.laws.specs.History.{Board, after, hand, is_auction_over, is_finished, leader_at, ruling_on, seats_on}

abbrev pub LawfulDeal : List ℕ → Type 0
LawfulDeal d = (length d ≡ 52) × (thirteen_each d ≡ true)

pub data Lawful : Board → Type 0 where
  dealt : (n : ℕ) (c : Chair) (v : Vulnerability) (d : List ℕ) → LawfulDeal d → Lawful (record { number = n; dealer = c; vulnerability = v; deal = d; calls = []; cards = [] })
  acted : (b : Board) (a : ℕ) → Lawful b → is_finished b ≡ false → ruling_on b a ≡ 0 → Lawful (after b a)

abbrev pub AtMost371 : Type 0
AtMost371 = (b : Board) → Lawful b → (length b.calls ≤ 319) × (length b.cards ≤ 52)

-- what the chair acted from still holds
abbrev pub hand_to_act : Board → ℕ
hand_to_act b = hand b.deal b.cards (seats_on b).1

abbrev pub WayOn : Type 0
WayOn =
    (b : Board) → Lawful b → is_finished b ≡ false
    → (is_auction_over b ≡ false → ruling_on b 0 ≡ 0) × (is_auction_over b ≡ true → (a : ℕ) × (a < 52) × (holds (hand_to_act b) a ≡ true) × (ruling_on b a ≡ 0))

abbrev pub card_at : Board → ℕ → ℕ
card_at b k = slice_index b.cards k

abbrev pub player : Board → ℕ → Chair
player b k = ahead (leader_at b (k / 4)) (k % 4)

abbrev pub OneToEachTrick : Type 0
OneToEachTrick = (b : Board) (k : ℕ) (c : Chair) → (n : ℕ) × (n < 4) × (player b (4 * k + n) ≡ c) × ((m : ℕ) → m < 4 → player b (4 * k + m) ≡ c → m ≡ n)

abbrev pub PlayedFromHand : Type 0
PlayedFromHand =
    (b : Board) → Lawful b → (k : ℕ) → k < length b.cards
    → (card_at b k < 52) × (slice_index b.deal (card_at b k) ≡ code (player b k)) × ((j : ℕ) → j < k → card_at b j ≢ card_at b k)

-- the card led to the trick to which the card k belongs
abbrev pub lead_to : Board → ℕ → ℕ
lead_to b k = card_at b (4 * (k / 4))

-- what the player of the card k held when playing it
abbrev pub hand_before : Board → ℕ → ℕ
hand_before b k = hand b.deal (take k b.cards) (player b k)

abbrev pub SuitFollowed : Type 0
SuitFollowed =
    (b : Board) → Lawful b → (k : ℕ) → k < length b.cards → (x : ℕ) → holds (hand_before b k) x ≡ true
    → same_suit x (lead_to b k) ≡ true → same_suit (card_at b k) (lead_to b k) ≡ true

abbrev pub InJustOneHand : Board → ℕ → Type 0
InJustOneHand b x = (c : Chair) × (holds (hand b.deal b.cards c) x ≡ true) × ((e : Chair) → holds (hand b.deal b.cards e) x ≡ true → e ≡ c)

abbrev pub InNoHand : Board → ℕ → Type 0
InNoHand b x = (c : Chair) → holds (hand b.deal b.cards c) x ≡ false

abbrev pub EachCardOnce : Type 0
EachCardOnce = (b : Board) → Lawful b → (x : ℕ) → x < 52 → ((is_among x b.cards ≡ true) × InNoHand b x) ⊎ ((is_among x b.cards ≡ false) × InJustOneHand b x)
