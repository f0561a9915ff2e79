-- Laws of scoring, over every contract and every number of tricks.
--     Worked             nine contracts with their scores
--     Tens               every score is a multiple of 10 from -7,600 to 7,600
--     Rises              more tricks never score less
use Rattle.std.specs.Prelude.{◌≡◌, ℕ, ◌%◌, ◌≤◌, Bool, true, false, pos, neg_ℤ, ◌≤ℤ◌, unsigned_abs}
use Rattle.cards.specs.declared.suits.Denomination.{Denomination}
use Rattle.cards.specs.declared.suits.Denomination.TheVariants.{Trumps, NoTrump}
use Rattle.cards.specs.declared.suits.Suit.TheVariants.{Clubs, Spades}
use Rattle.scoring.specs.declared.contracts.Doubling.{Doubling}
use Rattle.scoring.specs.declared.contracts.Doubling.TheVariants.{Undoubled, Doubled, Redoubled}
use Rattle.scoring.specs.Scores.{score}

abbrev pub Worked : Type 0
Worked =
    (score 4 (Trumps Spades) Undoubled true 10 ≡ pos 620)
    × (score 2 (Trumps Clubs) Doubled false 8 ≡ pos 180)
    × (score 2 (Trumps Spades) Doubled false 8 ≡ pos 470)
    × (score 1 (Trumps Clubs) Redoubled false 7 ≡ pos 230)
    × (score 1 NoTrump Redoubled true 13 ≡ pos 3160)
    × (score 7 NoTrump Undoubled false 13 ≡ pos 1520)
    × (score 4 (Trumps Spades) Doubled false 6 ≡ neg_ℤ (pos 800))
    × (score 3 NoTrump Doubled true 6 ≡ neg_ℤ (pos 800))
    × (score 7 (Trumps Clubs) Redoubled true 0 ≡ neg_ℤ (pos 7600))

abbrev pub Tens : Type 0
Tens = (l : ℕ) (d : Denomination) (x : Doubling) (v : Bool) (t : ℕ) → 1 ≤ l → l ≤ 7 → t ≤ 13 → (unsigned_abs (score l d x v t) ≤ 7600) × (unsigned_abs (score l d x v t) % 10 ≡ 0)

abbrev pub Rises : Type 0
Rises = (l : ℕ) (d : Denomination) (x : Doubling) (v : Bool) (t u : ℕ) → 1 ≤ l → l ≤ 7 → t ≤ u → u ≤ 13 → score l d x v t ≤ℤ score l d x v u
