-- Bytes put one behind another, of which the first n are kept.
--     written b                  the bytes that are kept
--     kept n t                   the first n bytes of t
--     Wrote t old new            the new bytes are the old ones with t behind them, as far as there is room
use Rattle.std.specs.Prelude.{◌≡◌, ℕ, List, ◌++◌, take}
use Rattle.text.specs.declared.bytes.Bytes.{Bytes}

abbrev pub written : {n : ℕ} → Bytes n → List ℕ
written b = take b.used b.bytes

unfoldable pub kept : ℕ → List ℕ → List ℕ
kept n t = take n t

pub record Wrote {n : ℕ} (t : List ℕ) (old new : Bytes n) : Type 0 where
  pub text : written new ≡ kept n (written old ++ t)
