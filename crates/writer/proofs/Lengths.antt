-- No text of a game is long.
use Rattle.std.proofs.Common.{◌≡◌, ℕ, zero, suc, ◌+◌, ◌*◌, ◌^◌, ◌<◌, ◌≤◌, eqb, List, [], ◌∷◌, length, get_or, decimal, inl, inr, arith}
use Rattle.std.proofs.lemmas.Fmt.{length-decimal-le}
use Rattle.std.proofs.lemmas.List.{length-append}
use Rattle.std.proofs.lemmas.Bool.{cases_Bool}
use Rattle.cards.specs.declared.boards.Vulnerability.{Vulnerability}
use Rattle.cards.specs.declared.boards.Vulnerability.TheVariants.{Neither, NorthSouth, EastWest, Both}
use Rattle.cards.specs.declared.chairs.Chair.{Chair}
use Rattle.cards.specs.declared.suits.Suit.{Suit}
use Rattle.cards.specs.declared.suits.Suit.TheVariants.{Clubs, Diamonds, Hearts, Spades}
use Rattle.cards.specs.Chairs.{code, next}
use Rattle.cards.specs.Suits.{code as suit_code}
use Rattle.values.specs.Letters.{vulnerability_word}
use Rattle.writer.specs.Texts.{deal_text, fault_text, hand_text, ranks_below, suit_text, tag_line, tag_lines, text}

decimal_short : (n : ℕ) → n < 2 ^ 64 → length (decimal n) ≤ 20
decimal_short n l = length-decimal-le 20 n (omega arith) (omega arith) l

ranks_short : (d : List ℕ) (x low n : ℕ) → length (ranks_below d x low n) ≤ n
unfolding ranks_below
ranks_short d x low zero = omega arith
ranks_short d x low (suc r) =
    let h = ranks_short d x low r in
    elim (cases_Bool (eqb (get_or d (low + r) 4) x)) [ inl t ↦ simp t (omega arith) | inr t ↦ simp t (omega arith) ]

suit_short : (d : List ℕ) (x : Chair) (s : Suit) → length (suit_text d x s) ≤ 13
unfolding suit_text
suit_short d x s = ranks_short d (code x) (13 * suit_code s) 13

hand_short : (d : List ℕ) (x : Chair) → length (hand_text d x) ≤ 55
unfolding hand_text
hand_short d x = simp length-append (omega (arith, suit_short d x Spades, suit_short d x Hearts, suit_short d x Diamonds, suit_short d x Clubs))

deal_short : (d : List ℕ) (x : Chair) → length (deal_text d x) ≤ 225
unfolding deal_text
deal_short d x = simp length-append (omega (arith, hand_short d x, hand_short d (next x), hand_short d (next (next x)), hand_short d (next (next (next x)))))

word_short : (v : Vulnerability) → length (vulnerability_word v) ≤ 4
word_short Neither = omega arith
word_short NorthSouth = omega arith
word_short EastWest = omega arith
word_short Both = omega arith

tag_length : (name value : List ℕ) → length (tag_line name value) ≡ length name + length value + 5
unfolding tag_line
tag_length name value = simp length-append (omega arith)

pub tags_short : (n : ℕ) (x : Chair) (v : Vulnerability) (d : List ℕ) → n < 2 ^ 64 → length (text (tag_lines n x v d)) ≤ 400
tags_short n x v d l = simp (length-append, tag_length) (omega (arith, decimal_short n l, word_short v, deal_short d x))

pub fault_short : (l n o : ℕ) → l < 2 ^ 64 → n < 2 ^ 64 → o < 2 ^ 64 → length (text (fault_text l n o ∷ [])) ≤ 100
unfolding fault_text
fault_short l n o a b c = simp length-append (omega (arith, decimal_short l a, decimal_short n b, decimal_short o c))
