-- Score slips. A slip is a line of three numbers, parted by spaces: the pair North-South, the pair East-West, and the score.
--     word_in text, behind_word text     the first word of a text, and what follows it
--     signed word                        a number below 2 ^ 31 in decimal digits, with a minus sign or without
--     slip text                          the row that a slip says
use Rattle.std.specs.Prelude.{ℕ, Bool, cond, not, List, [], ◌∷◌, length, take, drop, ℤ, pos, neg_ℤ, Some, None, Option, ◌==◌}
use Rattle.std.specs.Option.{option_map}
use Rattle.std.specs.List.{prefix_len}
use Rattle.sheets.specs.declared.rows.Row.{Row}
use Rattle.tags.specs.Tags.{and_then}
use Rattle.values.specs.Numbers.{natural}

abbrev pub is_space : ℕ → Bool
is_space b = b == 32

abbrev pub is_ink : ℕ → Bool
is_ink b = not (b == 32)

abbrev pub unspaced : List ℕ → List ℕ
unspaced text = drop (prefix_len is_space text) text

abbrev pub word_in : List ℕ → List ℕ
word_in text = take (prefix_len is_ink (unspaced text)) (unspaced text)

abbrev pub behind_word : List ℕ → List ℕ
behind_word text = drop (prefix_len is_ink (unspaced text)) (unspaced text)

abbrev pub signed : List ℕ → Option ℤ
signed [] = None
signed (b ∷ bs) = cond (b == 45) (option_map (λ n. neg_ℤ (pos n)) (natural 2147483647 bs)) (option_map pos (natural 2147483647 (b ∷ bs)))

abbrev pub slip : List ℕ → Option Row
slip text =
    let second = behind_word text in
    let third = behind_word second in
    and_then (natural 65535 (word_in text)) (λ ns.
    and_then (natural 65535 (word_in second)) (λ ew.
    and_then (signed (word_in third)) (λ z.
    cond (length (word_in (behind_word third)) == 0) (Some (record { ns = ns; ew = ew; score = z })) None)))
