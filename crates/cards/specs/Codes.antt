-- Codes that stand for nothing.
--     unknown n                  the error that names such a code
use Rattle.std.specs.Prelude.{ℕ}
use Rattle.cards.specs.declared.codes.UnknownCode.{UnknownCode}

abbrev pub unknown : ℕ → UnknownCode
unknown n = record { 0 = n }
