-- The text of a game.
--     text ls                     lines, each ended by LF
--     tag_line name value         [name "value"]
--     suit_text d x s             the letters of the cards of the suit s that the deal d gives the chair x, the highest first
--     hand_text d x               its spades, hearts, diamonds and clubs, parted by dots
--     deal_text d x               the four hands from the chair x on
--     tag_lines n x v d           the four tag lines of a board: its number, its dealer x, its vulnerability v and its deal
--     game_lines n d              the same with the dealer and the vulnerability of the number
--     fault_text l n o            % fault, with a layer, a number and an offset
--     fault_line f                the same of a fault
use Rattle.std.specs.Prelude.{ℕ, zero, suc, ◌+◌, ◌*◌, cond, List, [], ◌∷◌, ◌++◌, codes, decimal, ◌==◌, slice_index_or}
use Rattle.cards.specs.declared.boards.Vulnerability.{Vulnerability}
use Rattle.cards.specs.declared.chairs.Chair.{Chair}
use Rattle.cards.specs.declared.suits.Suit.{Suit}
use Rattle.cards.specs.declared.suits.Suit.TheVariants.{Clubs, Diamonds, Hearts, Spades}
use Rattle.cards.specs.Boards.{dealer, vulnerability}
use Rattle.cards.specs.Chairs.{code, next}
use Rattle.cards.specs.Suits.{code as suit_code}
use Rattle.faults.specs.declared.Fault.{Fault}
use Rattle.faults.specs.Faults.{layer, number, offset}
use Rattle.values.specs.Letters.{chair_letter, rank_letter, vulnerability_word}

abbrev pub text : List (List ℕ) → List ℕ
text [] = []
text (l ∷ ls) = l ++ (10 ∷ text ls)

unfoldable pub tag_line : List ℕ → List ℕ → List ℕ
tag_line name value = codes "[" ++ (name ++ (codes " \"" ++ (value ++ codes "\"]")))

-- of the n cards from the card `low` on, those that go to the chair with the number x
unfoldable pub ranks_below : List ℕ → ℕ → ℕ → ℕ → List ℕ
ranks_below d x low zero = []
ranks_below d x low (suc r) = cond (slice_index_or d (low + r) 4 == x) (rank_letter r ∷ ranks_below d x low r) (ranks_below d x low r)

unfoldable pub suit_text : List ℕ → Chair → Suit → List ℕ
suit_text d x s = ranks_below d (code x) (13 * suit_code s) 13

unfoldable pub hand_text : List ℕ → Chair → List ℕ
hand_text d x = suit_text d x Spades ++ (codes "." ++ (suit_text d x Hearts ++ (codes "." ++ (suit_text d x Diamonds ++ (codes "." ++ suit_text d x Clubs)))))

unfoldable pub deal_text : List ℕ → Chair → List ℕ
deal_text d x =
    chair_letter x ∷ (codes ":" ++ (hand_text d x ++ (codes " " ++ (hand_text d (next x) ++ (codes " " ++ (hand_text d (next (next x)) ++ (codes " " ++ hand_text d (next (next (next x))))))))))

abbrev pub tag_lines : ℕ → Chair → Vulnerability → List ℕ → List (List ℕ)
tag_lines n x v d =
    tag_line (codes "Board") (decimal n)
    ∷ tag_line (codes "Dealer") (chair_letter x ∷ [])
    ∷ tag_line (codes "Vulnerable") (vulnerability_word v)
    ∷ tag_line (codes "Deal") (deal_text d x) ∷ []

abbrev pub game_lines : ℕ → List ℕ → List (List ℕ)
game_lines n d = tag_lines n (dealer n) (vulnerability n) d

unfoldable pub fault_text : ℕ → ℕ → ℕ → List ℕ
fault_text l n o = codes "% fault " ++ (decimal l ++ (codes " " ++ (decimal n ++ (codes " " ++ decimal o))))

abbrev pub fault_line : Fault → List ℕ
fault_line f = fault_text (layer f) (number f) (offset f)
