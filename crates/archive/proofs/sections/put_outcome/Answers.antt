use Rattle.std.proofs.Common.{◌≡◌, ℕ, [], ◌∷◌, codes, decimal, ap, arith, w32, to_z, of_z}
use Rattle.std.specs.Fmt.{signed_decimal}
use Rattle.std.proofs.lemmas.Int.{ints}
use Rattle.auctions.specs.Outcomes.{terms}
use Rattle.finished.specs.Outcomes.{told as said}
use Rattle.text.proofs.Writes.{then, told}
use Rattle.values.specs.Letters.{chair_letter}
use Rattle.writer.specs.Texts.{tag_line, text}
use Rattle.writer.proofs.Lines.{more_lines, tag_put}
use Rattle.archive.specs.Records.{score_text, terms_text}
use Rattle.archive.proofs.sections.put_outcome.Goals as goal

pub returns : goal.returns
returns c =
    let o = c.args.outcome in
    let contract = tag_line (codes "Contract") (terms_text (terms o.contract)) in
    let result = tag_line (codes "Result") (decimal o.tricks) in
    let score = tag_line (codes "Score") (score_text (said o)) in
    let same : to_z w32 (of_z w32 o.score) ≡ o.score = omega (arith, ints, o.bounded) in
    let first = told (ap (λ (b : ℕ). text (tag_line (codes "Declarer") (b ∷ []) ∷ [])) c.chair_letter.ensures.letter) c.put_tag.ensures.wrote in
    let second = tag_put (codes "Contract") (terms_text (terms o.contract)) c.put_all.ensures.wrote c.put_contract.ensures.wrote c.put_all-2.ensures.wrote in
    let third = tag_put (codes "Result") (decimal o.tricks) c.put_all-3.ensures.wrote c.put_decimal.ensures.wrote c.put_all-4.ensures.wrote in
    let fourth = tag_put (codes "Score") (score_text (said o)) c.put_all-5.ensures.wrote (then c.put_all-6.ensures.wrote (told (ap signed_decimal same) c.put_decimal-2.ensures.wrote)) c.put_all-7.ensures.wrote in
    record { wrote = more_lines (tag_line (codes "Declarer") (chair_letter o.declarer ∷ [])) (contract ∷ result ∷ score ∷ []) first (more_lines contract (result ∷ score ∷ []) second (more_lines result (score ∷ []) third fourth)) }
