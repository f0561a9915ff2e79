-- What the value of a Deal tag says: a chair letter, a colon, and four hands clockwise from that chair, parted
-- by one space, each of them its spades, hearts, diamonds and clubs, parted by dots, in letters of ranks.
--     parts m text               the parts of a text between the marks m
--     in_four f ps               f of four parts, if there are just four
--     cards_placed value         each card that the value names, with the chair that gets it; None if it is not so formed
--     laid d ps                  the deal d with these cards laid on it: place c takes the chair of the card c
--     repeats d ps               one of these cards falls on a place that is taken
--     deal_read f                the deal that is found, or 28, 29 or 30
use Rattle.std.specs.Prelude.{ℕ, Bool, true, false, cond, not, List, [], ◌∷◌, ◌++◌, replicate, Some, None, Ok, Option, Result, ◌==◌, slice_index_or, slice_set}
use Rattle.std.specs.Option.{option_map}
use Rattle.cards.specs.declared.chairs.Chair.{Chair}
use Rattle.cards.specs.declared.suits.Suit.{Suit}
use Rattle.cards.specs.declared.suits.Suit.TheVariants.{Clubs, Diamonds, Hearts, Spades}
use Rattle.cards.specs.Chairs.{code, next}
use Rattle.cards.specs.Deals.{thirteen_each}
use Rattle.cards.specs.Pack.{card}
use Rattle.faults.specs.declared.Fault.{Fault}
use Rattle.faults.specs.declared.Fault.TheVariants.{MalformedDeal, RepeatedCard, UnevenHands}
use Rattle.faults.specs.Questions.{then, unless, given}
use Rattle.tags.specs.Searches.{Found}
use Rattle.tags.specs.Tags.{and_then}
use Rattle.values.specs.Letters.{chair_named, rank_named}

abbrev pub onto : ℕ → List (List ℕ) → List (List ℕ)
onto b [] = (b ∷ []) ∷ []
onto b (p ∷ ps) = (b ∷ p) ∷ ps

abbrev pub parts : ℕ → List ℕ → List (List ℕ)
parts m [] = [] ∷ []
parts m (b ∷ bs) = cond (b == m) ([] ∷ parts m bs) (onto b (parts m bs))

abbrev pub in_four : {A B : Type 0} → (A → A → A → A → Option B) → List A → Option B
in_four f [] = None
in_four f (a ∷ []) = None
in_four f (a ∷ b ∷ []) = None
in_four f (a ∷ b ∷ c ∷ []) = None
in_four f (a ∷ b ∷ c ∷ d ∷ []) = f a b c d
in_four f (a ∷ b ∷ c ∷ d ∷ e ∷ es) = None

-- a card, and the chair that gets it
pub record Placed : Type 0 where
  pub card : ℕ
  pub chair : Chair

-- all cards of two texts, if both are well formed
abbrev pub both : Option (List Placed) → Option (List Placed) → Option (List Placed)
both None o = None
both (Some ps) None = None
both (Some ps) (Some qs) = Some (ps ++ qs)

abbrev pub card_named : Suit → ℕ → Option ℕ
card_named s b = option_map (card s) (rank_named b)

abbrev pub placed_at : Chair → Option ℕ → Option (List Placed)
placed_at x o = option_map (λ c. record { card = c; chair = x } ∷ []) o

abbrev pub suit_in : Chair → Suit → List ℕ → Option (List Placed)
suit_in x s [] = Some []
suit_in x s (b ∷ bs) = both (placed_at x (card_named s b)) (suit_in x s bs)

-- 46 is a dot
abbrev pub hand_in : Chair → List ℕ → Option (List Placed)
hand_in x text = in_four (λ a b c d. both (suit_in x Spades a) (both (suit_in x Hearts b) (both (suit_in x Diamonds c) (suit_in x Clubs d)))) (parts 46 text)

-- 32 is a space
abbrev pub hands_in : Chair → List ℕ → Option (List Placed)
hands_in x text = in_four (λ a b c d. both (hand_in x a) (both (hand_in (next x) b) (both (hand_in (next (next x)) c) (hand_in (next (next (next x))) d)))) (parts 32 text)

-- 58 is a colon
abbrev pub cards_placed : List ℕ → Option (List Placed)
cards_placed [] = None
cards_placed (b ∷ []) = None
cards_placed (b ∷ m ∷ text) = cond (m == 58) (and_then (chair_named b) (λ x. hands_in x text)) None

-- 52 places, none of them taken: 4 is no chair
unfoldable pub undealt : List ℕ
undealt = replicate 52 4

abbrev pub laid : List ℕ → List Placed → List ℕ
laid d [] = d
laid d (p ∷ ps) = laid (slice_set d p.card (code p.chair)) ps

abbrev pub repeats : List ℕ → List Placed → Bool
repeats d [] = false
repeats d (p ∷ ps) = cond (slice_index_or d p.card 4 == 4) (repeats (slice_set d p.card (code p.chair)) ps) true

unfoldable pub deal_read : Found → Result (List ℕ) Fault
deal_read f =
    then (given (cards_placed f.value) (MalformedDeal f.line)) (λ ps.
    then (unless (not (repeats undealt ps)) (RepeatedCard f.line)) (λ _.
    then (unless (thirteen_each (laid undealt ps)) (UnevenHands f.line)) (λ _.
    Ok (laid undealt ps))))
