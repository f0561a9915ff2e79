-- A number that is cut off at 255 digit by digit is the one that is cut off at its end.
use Rattle.std.proofs.Common.{◌≡◌, ℕ, ◌+◌, ◌-◌, ◌*◌, ◌<◌, ◌≤◌, cond, List, [], ◌∷◌, length, None, arith, refl}
use Rattle.std.specs.Prelude.{◌==◌, nat_le, slice_index}
use Rattle.std.proofs.lemmas.Bool.Decides.{nat_tests}
use Rattle.values.specs.Numbers.{board_number, digits_from, natural, number_from}

none_from : (v : ℕ) (w : List ℕ) → 255 < v → number_from v w ≡ None
none_from v [] h = grind (arith, nat_tests)
none_from v (b ∷ bs) h = grind (arith, nat_tests, none_from (10 * v + (b - 48)) bs (omega arith))

same_from : (v : ℕ) (w : List ℕ) → v ≤ 255 → number_from v w ≡ digits_from 255 v w
same_from v [] h = grind (arith, nat_tests)
same_from v (b ∷ bs) h = grind (arith, nat_tests, none_from (10 * v + (b - 48)) bs, same_from (10 * v + (b - 48)) bs)

pub by_natural : (w : List ℕ) → board_number w ≡ cond (nat_le 1 (length w)) (cond (nat_le (length w) 3) (cond (slice_index w 0 == 48) None (natural 255 w)) None) None
by_natural [] = refl
by_natural (b ∷ bs) = grind (arith, nat_tests, same_from 0 (b ∷ bs) (omega arith))
