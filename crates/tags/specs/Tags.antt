-- A tag line: `[`, a name of 1 to 31 letters, digits or underscores, one space, a value in double quotes
-- that holds no double quote, `]`, and nothing more.
--     is_name_byte b              b is a letter, a digit or an underscore
--     tag_of line                 the tag that a line holds, if it is a tag line
--     well_formed line            the line is a tag line if its first byte is `[`
use Rattle.std.specs.Prelude.{ℕ, Bool, true, false, cond, not, ◌&&◌, List, [], ◌∷◌, length, take, drop, is_some, Some, None, codes, Option, ◌==◌, nat_le}
use Rattle.std.specs.List.{prefix_len}

abbrev pub within : ℕ → ℕ → ℕ → Bool
within low high b = cond (nat_le low b) (nat_le b high) false

-- A to Z, a to z, 0 to 9, _
abbrev pub is_name_byte : ℕ → Bool
is_name_byte b = cond (within 65 90 b) true (cond (within 97 122 b) true (cond (within 48 57 b) true (b == 95)))

-- any byte but a double quote
abbrev pub is_plain_byte : ℕ → Bool
is_plain_byte b = not (b == 34)

pub record Tag : Type 0 where
  pub name : List ℕ
  pub value : List ℕ

-- what follows a mark that the text begins with
abbrev pub behind : List ℕ → List ℕ → Option (List ℕ)
behind [] text = Some text
behind (m ∷ ms) [] = None
behind (m ∷ ms) (b ∷ bs) = cond (b == m) (behind ms bs) None

-- the longest front of which every byte passes a test, and what follows it
abbrev pub front : (ℕ → Bool) → List ℕ → List ℕ
front p text = take (prefix_len p text) text

abbrev pub rest : (ℕ → Bool) → List ℕ → List ℕ
rest p text = drop (prefix_len p text) text

abbrev pub and_then : {A B : Type 0} → Option A → (A → Option B) → Option B
and_then None f = None
and_then (Some a) f = f a

abbrev pub tag_of : List ℕ → Option Tag
tag_of line =
    and_then (behind (codes "[") line) (λ inner.
    and_then (behind (codes " \"") (rest is_name_byte inner)) (λ quoted.
    and_then (behind (codes "\"]") (rest is_plain_byte quoted)) (λ end.
    cond (within 1 31 (prefix_len is_name_byte inner) && length end == 0) (Some (record { name = front is_name_byte inner; value = front is_plain_byte quoted })) None)))

abbrev pub well_formed : List ℕ → Bool
well_formed line = cond (is_some (behind (codes "[") line)) (is_some (tag_of line)) true
