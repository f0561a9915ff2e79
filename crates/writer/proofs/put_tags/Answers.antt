use Rattle.std.proofs.Common.{ℕ, [], ◌∷◌, codes, decimal, ap, arith}
use Rattle.text.proofs.Writes.{told}
use Rattle.values.specs.Letters.{chair_letter, vulnerability_word}
use Rattle.writer.specs.Texts.{deal_text, tag_line, text}
use Rattle.writer.proofs.Lengths.{tags_short}
use Rattle.writer.proofs.Lines.{more_lines, tag_put}
use Rattle.writer.proofs.put_tags.Goals as goal

pub returns : goal.returns
returns c =
    let n = c.args.number in
    let x = c.args.dealer in
    let v = c.args.vulnerability in
    let d = c.args.deal.now in
    let dealer = tag_line (codes "Dealer") (chair_letter x ∷ []) in
    let vulnerability = tag_line (codes "Vulnerable") (vulnerability_word v) in
    let deal = tag_line (codes "Deal") (deal_text d x) in
    let first = tag_put (codes "Board") (decimal n) c.put_all.ensures.wrote c.put_decimal.ensures.wrote c.put_all-2.ensures.wrote in
    let second = told (ap (λ (b : ℕ). text (tag_line (codes "Dealer") (b ∷ []) ∷ [])) c.chair_letter.ensures.letter) c.put_tag.ensures.wrote in
    let third = told (ap (λ w. text (tag_line (codes "Vulnerable") w ∷ [])) c.vulnerability_word.ensures.word) c.put_tag-2.ensures.wrote in
    let fourth = tag_put (codes "Deal") (deal_text d x) c.put_all-3.ensures.wrote c.put_hands.ensures.wrote c.put_all-4.ensures.wrote in
    record {
      wrote = more_lines (tag_line (codes "Board") (decimal n)) (dealer ∷ vulnerability ∷ deal ∷ []) first (more_lines dealer (vulnerability ∷ deal ∷ []) second (more_lines vulnerability (deal ∷ []) third fourth));
      short = tags_short n x v d (omega arith);
    }
