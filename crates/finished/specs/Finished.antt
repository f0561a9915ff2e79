-- A finished board, as it is handed on to be scored and recorded.
--     board_as n d calls cards   the board of a number, with its dealer and vulnerability, a deal, calls and cards
--     are_below m xs             each of the numbers xs is below m
--     has_all_cards b            all 52 cards are played, or none on a board with no bid
--     is_complete b              a numbered board with a lawful deal and the dealer and vulnerability of its number, with calls that end
--                                the auction, at most 319, and with all its cards
use Rattle.std.specs.Prelude.{ℕ, Bool, cond, ◌&&◌, List, length, is_some, ◌==◌, nat_le, nat_lt}
use Rattle.std.specs.List.{list_all}
use Rattle.cards.specs.declared.boards.Vulnerability.{Vulnerability}
use Rattle.cards.specs.declared.chairs.Chair.{Chair}
use Rattle.cards.specs.Boards.{dealer, vulnerability, code as vulnerability_code}
use Rattle.cards.specs.Chairs.{code}
use Rattle.cards.specs.Deals.{thirteen_each}
use Rattle.laws.specs.History.{Board, declarer_on, is_auction_over}

abbrev pub board_of : ℕ → Chair → Vulnerability → List ℕ → List ℕ → List ℕ → Board
board_of n x v d calls cards = record { number = n; dealer = x; vulnerability = v; deal = d; calls = calls; cards = cards }

abbrev pub board_as : ℕ → List ℕ → List ℕ → List ℕ → Board
board_as n d calls cards = board_of n (dealer n) (vulnerability n) d calls cards

abbrev pub are_below : ℕ → List ℕ → Bool
are_below m xs = list_all (λ x. nat_lt x m) xs

abbrev pub has_all_cards : Board → Bool
has_all_cards b = length b.cards == cond (is_some (declarer_on b)) 52 0

abbrev pub is_numbered : Board → Bool
is_numbered b = nat_le 1 b.number && (code b.dealer == code (dealer b.number) && vulnerability_code b.vulnerability == vulnerability_code (vulnerability b.number))

abbrev pub is_complete : Board → Bool
is_complete b =
    is_numbered b && (thirteen_each b.deal && (nat_le (length b.calls) 319 && (are_below 38 b.calls && (are_below 52 b.cards
    && (is_auction_over b && has_all_cards b)))))
