-- Calls as text: Pass, X for a double, XX for a redouble, and a bid by its level and its denomination, 1C to 7NT.
--     denomination_text d, denomination_named w  C, D, H, S, NT
--     doubling_text x             X if it is doubled, XX if it is redoubled
--     bid_text b                  a bid's level and its denomination
--     call_text a                 the text of the call a; above 37 there is no call and no text
--     bid_named w                 the bid that a digit from 1 to 7 and a denomination name
--     call_named w                the call that a word names, if it names one
use Rattle.std.specs.Prelude.{ℕ, ◌+◌, ◌-◌, cond, List, [], ◌∷◌, Some, None, codes, Option, ◌==◌}
use Rattle.std.specs.Option.{option_zip}
use Rattle.std.specs.Str.{bytes_eq}
use Rattle.cards.specs.declared.suits.Denomination.{Denomination}
use Rattle.cards.specs.declared.suits.Denomination.TheVariants.{Trumps, NoTrump}
use Rattle.cards.specs.declared.suits.Suit.TheVariants.{Clubs, Diamonds, Hearts, Spades}
use Rattle.cards.specs.Calls.{bid_of, denomination_of, level_of}
use Rattle.scoring.specs.declared.contracts.Doubling.{Doubling}
use Rattle.scoring.specs.declared.contracts.Doubling.TheVariants.{Undoubled, Doubled, Redoubled}
use Rattle.tags.specs.Tags.{and_then}

abbrev pub denomination_text : Denomination → List ℕ
denomination_text (Trumps Clubs) = codes "C"
denomination_text (Trumps Diamonds) = codes "D"
denomination_text (Trumps Hearts) = codes "H"
denomination_text (Trumps Spades) = codes "S"
denomination_text NoTrump = codes "NT"

abbrev pub doubling_text : Doubling → List ℕ
doubling_text Undoubled = []
doubling_text Doubled = codes "X"
doubling_text Redoubled = codes "XX"

abbrev pub denomination_named : List ℕ → Option Denomination
denomination_named w =
    cond (bytes_eq w (codes "C")) (Some (Trumps Clubs)) (cond (bytes_eq w (codes "D")) (Some (Trumps Diamonds))
    (cond (bytes_eq w (codes "H")) (Some (Trumps Hearts)) (cond (bytes_eq w (codes "S")) (Some (Trumps Spades))
    (cond (bytes_eq w (codes "NT")) (Some NoTrump) None))))

-- 48 is the digit 0
abbrev pub bid_text : Option (ℕ × Denomination) → List ℕ
bid_text None = []
bid_text (Some (l, d)) = (48 + l) ∷ denomination_text d

abbrev pub call_text : ℕ → List ℕ
call_text a =
    cond (a == 0) (codes "Pass") (cond (a == 1) (codes "X") (cond (a == 2) (codes "XX") (bid_text (option_zip (level_of a) (denomination_of a)))))

-- no digit but 1 to 7 makes a level
abbrev pub bid_named : List ℕ → Option ℕ
bid_named [] = None
bid_named (b ∷ bs) = and_then (denomination_named bs) (bid_of (b - 48))

abbrev pub call_named : List ℕ → Option ℕ
call_named w = cond (bytes_eq w (codes "Pass")) (Some 0) (cond (bytes_eq w (codes "X")) (Some 1) (cond (bytes_eq w (codes "XX")) (Some 2) (bid_named w)))
