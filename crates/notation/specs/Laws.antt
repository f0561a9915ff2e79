-- Calls and their texts name each other.
--     ReadsBack                 every call is read back from its text
--     NamedOnly                 a word names a call only if it is that call's text
use Rattle.std.specs.Prelude.{◌≡◌, ℕ, ◌<◌, List, Some}
use Rattle.notation.specs.Notation.{call_named, call_text}

abbrev pub ReadsBack : Type 0
ReadsBack = (a : ℕ) → a < 38 → call_named (call_text a) ≡ Some a

abbrev pub NamedOnly : Type 0
NamedOnly = (w : List ℕ) (a : ℕ) → call_named w ≡ Some a → (call_text a ≡ w) × (a < 38)
