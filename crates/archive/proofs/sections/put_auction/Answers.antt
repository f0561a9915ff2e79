use Rattle.std.proofs.Common.{ℕ, [], ◌∷◌, map, codes, ap}
use Rattle.notation.specs.Notation.{call_text}
use Rattle.text.proofs.Writes.{told}
use Rattle.values.specs.Letters.{chair_letter}
use Rattle.writer.specs.Texts.{tag_line, text}
use Rattle.writer.proofs.Lines.{more_lines}
use Rattle.archive.specs.Records.{rows}
use Rattle.archive.proofs.sections.put_auction.Goals as goal

pub returns : goal.returns
returns c =
    let tag = told (ap (λ (b : ℕ). text (tag_line (codes "Auction") (b ∷ []) ∷ [])) c.chair_letter.ensures.letter) c.put_tag.ensures.wrote in
    record { wrote = more_lines (tag_line (codes "Auction") (chair_letter c.args.auction.now.dealer ∷ [])) (rows (map call_text c.args.auction.now.calls.now)) tag c.put_calls.ensures.wrote }
