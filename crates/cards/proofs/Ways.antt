-- By what a test says, and question by question.
use Rattle.std.proofs.Common.{◌≡◌, ℕ, suc, Bool, true, false, cond, refl, arith}

pub by : (b : Bool) {P : Type 0} → (b ≡ true → P) → (b ≡ false → P) → P
by true f g = f refl
by false f g = g refl

-- a ruling of 0 passes each question: it is not answered with its number, and the next one is put
pub passes_question : (b : Bool) (n x : ℕ) → cond b (suc n) x ≡ 0 → (b ≡ false) × (x ≡ 0)
passes_question true n x e = absurd (let v : ⊥ = omega arith in v)
passes_question false n x e = (refl, e)
