-- How a deal is read byte by byte: a cursor says whose hand it stands in, at which suit, and how many hands come after.
--     cards_from n x s text      the cards that a text places from the suit s of chair x on, with n hands after this one
--     layout d again o           the cards o laid on the deal d, and whether one repeats, or `again` says so
--     Reads b k d r e            reading the byte b leads from the cursor k and the deal d to r and e
--     outcome k d text           what comes of a text that the cursor k stands before, with d laid so far
--     done r, filled old r       the answer to a Deal tag that is read so, and what the caller's 52 bytes hold after it
use Rattle.std.specs.Prelude.{◌≡◌, ℕ, ◌-◌, Bool, true, false, cond, List, [], ◌∷◌, is_some, Some, None, Ok, Option, Result, ◌==◌}
use Rattle.std.specs.Option.{option_map}
use Rattle.std.specs.Result.{result_unwrap_or}
use Rattle.cards.specs.declared.chairs.Chair.{Chair}
use Rattle.cards.specs.declared.suits.Suit.{Suit}
use Rattle.cards.specs.declared.suits.Suit.TheVariants.{Spades}
use Rattle.cards.specs.Chairs.{next}
use Rattle.cards.specs.Suits.{lower}
use Rattle.faults.specs.declared.Fault.{Fault}
use Rattle.faults.specs.Questions.{then}
use Rattle.tags.specs.Tags.{and_then}
use Rattle.values.specs.declared.deals.Cursor.{Cursor}
use Rattle.values.specs.Deals.{Placed, both, card_named, laid, placed_at, repeats}

abbrev pub cards_from : ℕ → Chair → Suit → List ℕ → Option (List Placed)
cards_from n x s [] = cond (is_some (lower s)) None (cond (n == 0) (Some []) None)
cards_from n x s (b ∷ bs) =
    cond (b == 32) (cond (is_some (lower s)) None (cond (n == 0) None (cards_from (n - 1) (next x) Spades bs)))
    (cond (b == 46) (and_then (lower s) (λ t. cards_from n x t bs))
    (both (placed_at x (card_named s b)) (cards_from n x s bs)))

pub record Layout : Type 0 where
  pub deal : List ℕ
  pub again : Bool

abbrev pub layout : List ℕ → Bool → Option (List Placed) → Option Layout
layout d again o = option_map (λ ps. record { deal = laid d ps; again = cond again true (repeats d ps) }) o

abbrev pub outcome : Option Cursor → List ℕ → List ℕ → Option Layout
outcome None d text = None
outcome (Some k) d text = layout d k.repeated (cards_from k.left k.chair k.suit text)

-- r is where the cursor k stands behind the byte b, with d laid before it and e after it
abbrev pub Reads : ℕ → Cursor → List ℕ → Option Cursor → List ℕ → Type 0
Reads b k d r e = (text : List ℕ) → outcome r e text ≡ outcome (Some k) d (b ∷ text)

abbrev pub start : Chair → Cursor
start x = record { left = 3; chair = x; suit = Spades; repeated = false }

-- a deal that is laid out, with the answer whether a card repeats, if the text was well formed
abbrev pub laid_as : Option Bool → List ℕ → Option Layout
laid_as r d = option_map (λ again. record { deal = d; again = again }) r

-- what reading answers, and what the caller's bytes hold: a refusal leaves them
abbrev pub done : {A : Type 0} → Result A Fault → Result Unit Fault
done r = then r (λ _. Ok tt)

abbrev pub filled : List ℕ → Result (List ℕ) Fault → List ℕ
filled old r = result_unwrap_or r old
