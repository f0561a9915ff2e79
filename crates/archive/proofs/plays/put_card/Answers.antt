use Rattle.std.proofs.Common.{ℕ, ◌%◌, [], ◌∷◌, ap, ◌∙◌}
use Rattle.text.proofs.Writes.{nothing, then, told}
use Rattle.archive.specs.Records.{of_suit}
use Rattle.archive.proofs.plays.put_card.Goals as goal

pub returns-in-Some : goal.returns-in-Some
returns-in-Some c =
    let suit = told (c.as_bytes.ensures.value ∙ c.denomination_text.ensures.text) c.put_all.ensures.wrote in
    let rank = told (ap (λ (b : ℕ). b ∷ []) c.rank_letter.ensures.letter) c.put.ensures.wrote in
    record { wrote = told (ap (λ s. of_suit s (c.args.card % 13)) c.in-Some.ensures.suit) (then suit rank) }

pub returns-in_default : goal.returns-in_default
returns-in_default c = record { wrote = told (ap (λ s. of_suit s (c.args.card % 13)) c.in_default.ensures.suit) (nothing _) }
