-- What a page holds once an answer stands on it.
use Rattle.std.proofs.Common.{◌≡◌, ℕ, ◌≤◌, List, [], ◌∷◌, ◌++◌, length, Ok, Err, Result, sym, ap, ◌∙◌, arith}
use Rattle.std.proofs.lemmas.List.{length-append}
use Rattle.faults.specs.declared.Fault.{Fault}
use Rattle.reader.specs.Reading.{Game, file_read}
use Rattle.reader.specs.Views.{deal_in, number_in}
use Rattle.text.proofs.Writes.{alone, then}
use Rattle.text.specs.declared.bytes.Bytes.{Bytes}
use Rattle.text.specs.Bytes.{Wrote, written}
use Rattle.writer.specs.Texts.{fault_line, game_lines, text}
use Rattle.writer.proofs.Lines.{text_both}
use Rattle.reply.specs.Replies.{reply_lines, reply_to}

-- the game, or the fault, that was read
game_lines_read : (g : Result Game Fault) (n : ℕ) (old d : List ℕ) → Ok n ≡ number_in g → d ≡ deal_in old g → game_lines n d ≡ reply_lines g
game_lines_read (Ok g) n old d e f = let number : n ≡ g.number = cc in ap (λ k. game_lines k d) number ∙ ap (game_lines g.number) f
game_lines_read (Err x) n old d e f = let z : ◌≡◌ {A = ℕ} 0 1 = cc in absurd (omega arith)

fault_lines : (g : Result Game Fault) (f : Fault) → Err f ≡ number_in g → fault_line f ∷ [] ≡ reply_lines g
fault_lines (Ok g) f e = let z : ◌≡◌ {A = ℕ} 0 1 = cc in absurd (omega arith)
fault_lines (Err x) f e = let same : f ≡ x = cc in ap (λ y. fault_line y ∷ []) same

on_page : {a b c : Bytes 2048} (ls : List (List ℕ)) → written a ≡ [] → Wrote (text ls) a b → Wrote (10 ∷ []) b c → length (text ls) ≤ 400 → written c ≡ text (ls ++ ([] ∷ []))
on_page ls empty p q short =
    let few : length (text ls ++ (10 ∷ [])) ≤ 2048 = simp length-append (omega arith) in
    alone empty few (then p q) ∙ sym (text_both ls ([] ∷ []))

module _ (file : List ℕ) {a b c : Bytes 2048} (empty : written a ≡ []) where
  pub game_replied : (n : ℕ) (old d : List ℕ) → Ok n ≡ number_in (file_read file) → d ≡ deal_in old (file_read file)
      → Wrote (text (game_lines n d)) a b → Wrote (10 ∷ []) b c → length (text (game_lines n d)) ≤ 400 → written c ≡ reply_to file
  unfolding reply_to
  game_replied n old d e f p q short = on_page (game_lines n d) empty p q short ∙ ap (λ ls. text (ls ++ ([] ∷ []))) (game_lines_read (file_read file) n old d e f)

  pub fault_replied : (f : Fault) → Err f ≡ number_in (file_read file) → Wrote (text (fault_line f ∷ [])) a b → Wrote (10 ∷ []) b c → length (text (fault_line f ∷ [])) ≤ 100 → written c ≡ reply_to file
  unfolding reply_to
  fault_replied f e p q short = on_page (fault_line f ∷ []) empty p q (omega arith) ∙ ap (λ ls. text (ls ++ ([] ∷ []))) (fault_lines (file_read file) f e)
