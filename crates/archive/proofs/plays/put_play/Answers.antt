use Rattle.std.proofs.Common.{ℕ, [], ◌∷◌, codes, ap}
use Rattle.text.proofs.Writes.{told}
use Rattle.tricks.specs.Tricks.{tricks_in}
use Rattle.values.specs.Letters.{chair_letter}
use Rattle.writer.specs.Texts.{tag_line, text}
use Rattle.writer.proofs.Lines.{more_lines}
use Rattle.archive.specs.Records.{trick_rows}
use Rattle.archive.proofs.plays.put_play.Goals as goal

pub returns : goal.returns
returns c =
    let cards = c.args.cards.now in
    let tag = told (ap (λ (b : ℕ). text (tag_line (codes "Play") (b ∷ []) ∷ [])) c.chair_letter.ensures.letter) c.put_tag.ensures.wrote in
    record { wrote = more_lines (tag_line (codes "Play") (chair_letter c.args.opening ∷ [])) (trick_rows c.args.trumps c.args.opening cards (tricks_in cards)) tag c.put_tricks.ensures.wrote }
