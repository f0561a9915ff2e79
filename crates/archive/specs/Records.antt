-- The record of a finished board, as text: the four tag lines of its game, then what it came to, its calls and its cards.
--     spaced ws                   words parted by one space
--     rows ws                     words in rows of four
--     card_text c                 a card by the letters of its suit and its rank
--     terms_text k                a contract: level, denomination, and X or XX if it is doubled or redoubled
--     outcome_lines o             the lines Declarer, Contract, Result and Score
--     auction_lines x calls       the line Auction, with the dealer, and the calls in rows of four
--     trick_columns m cs l        the cards of a trick: that of the chair l in the first column, then clockwise, whichever chair m led it
--     trick_rows t l cards k      a row for each of the first k tricks, with the opening leader l in the first column
--     played_rows t l cards       the line Play, with the opening leader, and a row for each trick
--     play_lines o cards          the same of what a board came to; nothing if it was passed out
--     record_lines b, record_text b  the whole record
use Rattle.std.specs.Prelude.{ℕ, zero, suc, ◌%◌, List, [], ◌∷◌, ◌++◌, map, Some, None, codes, decimal, Option, slice_index}
use Rattle.std.specs.Fmt.{signed_decimal}
use Rattle.auctions.specs.Outcomes.{Terms}
use Rattle.cards.specs.declared.chairs.Chair.{Chair}
use Rattle.cards.specs.declared.suits.Denomination.{Denomination}
use Rattle.cards.specs.declared.suits.Denomination.TheVariants.{Trumps}
use Rattle.cards.specs.declared.suits.Suit.{Suit}
use Rattle.cards.specs.Chairs.{next, place}
use Rattle.cards.specs.Pack.{suit_of}
use Rattle.finished.specs.Outcomes.{Came, came_to}
use Rattle.laws.specs.History.{Board}
use Rattle.notation.specs.Notation.{bid_text, call_text, denomination_text, doubling_text}
use Rattle.tricks.specs.Tricks.{leader, trick, tricks_in}
use Rattle.values.specs.Letters.{chair_letter, rank_letter}
use Rattle.writer.specs.Texts.{tag_line, tag_lines, text}

-- 32 is a space
abbrev pub spaced : List (List ℕ) → List ℕ
spaced [] = []
spaced (w ∷ []) = w
spaced (w ∷ v ∷ ws) = w ++ (32 ∷ spaced (v ∷ ws))

abbrev pub rows : List (List ℕ) → List (List ℕ)
rows [] = []
rows (a ∷ []) = spaced (a ∷ []) ∷ []
rows (a ∷ b ∷ []) = spaced (a ∷ b ∷ []) ∷ []
rows (a ∷ b ∷ c ∷ []) = spaced (a ∷ b ∷ c ∷ []) ∷ []
rows (a ∷ b ∷ c ∷ d ∷ ws) = spaced (a ∷ b ∷ c ∷ d ∷ []) ∷ rows ws

abbrev pub of_suit : Option Suit → ℕ → List ℕ
of_suit None r = []
of_suit (Some s) r = denomination_text (Trumps s) ++ (rank_letter r ∷ [])

abbrev pub card_text : ℕ → List ℕ
card_text c = of_suit (suit_of c) (c % 13)

abbrev pub terms_text : Terms → List ℕ
terms_text k = bid_text (Some (k.0, k.1)) ++ doubling_text k.2

abbrev pub score_text : Came → List ℕ
score_text o = codes "NS " ++ signed_decimal o.score

abbrev pub outcome_lines : Option Came → List (List ℕ)
outcome_lines None =
    tag_line (codes "Declarer") [] ∷ tag_line (codes "Contract") (codes "Pass") ∷ tag_line (codes "Result") [] ∷ tag_line (codes "Score") (codes "NS 0") ∷ []
outcome_lines (Some o) =
    tag_line (codes "Declarer") (chair_letter o.declarer ∷ []) ∷ tag_line (codes "Contract") (terms_text o.contract)
    ∷ tag_line (codes "Result") (decimal o.tricks) ∷ tag_line (codes "Score") (score_text o) ∷ []

abbrev pub auction_lines : Chair → List ℕ → List (List ℕ)
auction_lines x calls = tag_line (codes "Auction") (chair_letter x ∷ []) ∷ rows (map call_text calls)

-- the card of the chair c in a trick that the chair m led
abbrev pub card_by : Chair → List ℕ → Chair → ℕ
card_by m cs c = slice_index cs (place m c)

-- the cards of a trick that the chair m led, in the columns from the chair l on
unfoldable pub trick_columns : Chair → List ℕ → Chair → List ℕ
trick_columns m cs l =
    spaced (card_text (card_by m cs l) ∷ card_text (card_by m cs (next l)) ∷ card_text (card_by m cs (next (next l))) ∷ card_text (card_by m cs (next (next (next l)))) ∷ [])

abbrev pub trick_rows : Denomination → Chair → List ℕ → ℕ → List (List ℕ)
trick_rows t l cards zero = []
trick_rows t l cards (suc k) = trick_rows t l cards k ++ (trick_columns (leader t l cards k) (trick cards k) l ∷ [])

abbrev pub played_rows : Denomination → Chair → List ℕ → List (List ℕ)
played_rows t l cards = tag_line (codes "Play") (chair_letter l ∷ []) ∷ trick_rows t l cards (tricks_in cards)

abbrev pub play_lines : Option Came → List ℕ → List (List ℕ)
play_lines None cards = []
play_lines (Some o) cards = played_rows o.contract.1 (next o.declarer) cards

abbrev pub record_lines : Board → List (List ℕ)
record_lines b =
    tag_lines b.number b.dealer b.vulnerability b.deal
    ++ (outcome_lines (came_to b) ++ (auction_lines b.dealer b.calls ++ play_lines (came_to b) b.cards))

unfoldable pub record_text : Board → List ℕ
record_text b = text (record_lines b)
