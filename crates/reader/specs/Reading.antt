-- Reading a file of one game: its number and its deal, or the first fault.
--     tags_read ls                layer 2: the four tags of a game, or 24 or 25
--     number_read b d v           the board number, or 26, or 27 where Dealer or Vulnerable is not the number's
--     values_read t               layer 3: the number and the deal, or 26 to 30
--     file_read file              all three layers
use Rattle.std.specs.Prelude.{ℕ, Bool, false, List, Ok, codes, Result, nat_eq}
use Rattle.std.specs.Option.{option_map, unwrap_or}
use Rattle.cards.specs.Boards.{code as vulnerability_code, dealer, vulnerability}
use Rattle.cards.specs.Chairs.{code as chair_code}
use Rattle.faults.specs.declared.Fault.{Fault}
use Rattle.faults.specs.declared.Fault.TheVariants.{NoBoardNumber, WrongDealer, WrongVulnerability}
use Rattle.faults.specs.Questions.{then, unless, given}
use Rattle.lines.specs.Checks.{file_checked}
use Rattle.lines.specs.Lines.{Line, lines}
use Rattle.tags.specs.Searches.{Found, named, only, tags_checked}
use Rattle.values.specs.Deals.{deal_read}
use Rattle.values.specs.Letters.{dealer_named, vulnerability_named}
use Rattle.values.specs.Numbers.{board_number}

-- the tags Board, Dealer, Vulnerable and Deal
pub record Tags : Type 0 where
  pub board : Found
  pub dealer : Found
  pub vulnerable : Found
  pub deal : Found

abbrev pub tags_read : List Line → Result Tags Fault
tags_read ls =
    then (tags_checked ls) (λ _.
    then (only (named (codes "Board") ls)) (λ b.
    then (only (named (codes "Dealer") ls)) (λ d.
    then (only (named (codes "Vulnerable") ls)) (λ v.
    then (only (named (codes "Deal") ls)) (λ c.
    Ok (record { board = b; dealer = d; vulnerable = v; deal = c }))))))

-- a text names the dealer, or the vulnerability, of the board n
abbrev pub is_dealer : List ℕ → ℕ → Bool
is_dealer w n = unwrap_or (option_map (λ c. nat_eq (chair_code c) (chair_code (dealer n))) (dealer_named w)) false

abbrev pub is_vulnerability : List ℕ → ℕ → Bool
is_vulnerability w n = unwrap_or (option_map (λ v. nat_eq (vulnerability_code v) (vulnerability_code (vulnerability n))) (vulnerability_named w)) false

abbrev pub number_read : Found → Found → Found → Result ℕ Fault
number_read b d v =
    then (given (board_number b.value) (NoBoardNumber b.line)) (λ n.
    then (unless (is_dealer d.value n) (WrongDealer d.line)) (λ _.
    then (unless (is_vulnerability v.value n) (WrongVulnerability v.line)) (λ _.
    Ok n)))

-- a board number, and 52 chairs by card
pub record Game : Type 0 where
  pub number : ℕ
  pub deal : List ℕ

abbrev pub values_read : Tags → Result Game Fault
values_read t =
    then (number_read t.board t.dealer t.vulnerable) (λ n.
    then (deal_read t.deal) (λ d.
    Ok (record { number = n; deal = d })))

abbrev pub file_read : List ℕ → Result Game Fault
file_read file =
    then (file_checked file) (λ _.
    then (tags_read (lines 0 file)) values_read)
