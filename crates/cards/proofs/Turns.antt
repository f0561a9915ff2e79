-- The chairs round the table.
use Rattle.std.proofs.Common.{◌≡◌, ℕ, zero, suc, ◌+◌, ◌%◌, List, [], ◌∷◌, ◌++◌, length, unwrap_or, sym, refl, ap, ◌∙◌, arith}
use Rattle.cards.specs.declared.chairs.Chair.{Chair}
use Rattle.cards.specs.declared.chairs.Chair.TheVariants.{North, East, South, West}
use Rattle.cards.specs.Chairs.{Clockwise, ahead, code, next, with_code}

pub code_next : (c : Chair) → code (next c) ≡ (code c + 1) % 4
code_next North = refl
code_next East = refl
code_next South = refl
code_next West = refl

pub code_back : (c : Chair) → unwrap_or (with_code (code c)) North ≡ c
code_back North = refl
code_back East = refl
code_back South = refl
code_back West = refl

-- a chair is known by its number
pub same_code : (c e : Chair) → code c ≡ code e → c ≡ e
same_code c e p = sym (code_back c) ∙ ap (λ n. unwrap_or (with_code n) North) p ∙ code_back e

pub clockwise : Clockwise
clockwise c zero = small c
  where
    small : (c : Chair) → code c ≡ (code c + 0) % 4
    small North = refl
    small East = refl
    small South = refl
    small West = refl
clockwise c (suc n) = omega (arith, clockwise (next c) n, code_next c)

pub ahead_like : (c : Chair) (m n : ℕ) → m % 4 ≡ n % 4 → ahead c m ≡ ahead c n
ahead_like c m n p = same_code (ahead c m) (ahead c n) (omega (arith, clockwise c m, clockwise c n))

-- as many places ahead as a list has members, and one member more
pub ahead_push : {A : Type 0} (c : Chair) (xs : List A) (x : A) → ahead c (length (xs ++ x ∷ [])) ≡ next (ahead c (length xs))
ahead_push c [] x = refl
ahead_push c (y ∷ ys) x = ahead_push (next c) ys x
