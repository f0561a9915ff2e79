-- The score of a contract of level l, denomination d and doubling x, for a side that is vulnerable or not, with t tricks.
--     trick_points d             20 a trick in clubs and diamonds, 30 otherwise
--     bid_points l d x           the points of the bid, 10 more in no trump, twice doubled, four times redoubled
--     game_premium, slam_premium, insult  what a contract made adds
--     overtrick d x v            what each trick above the contract adds
--     undertricks x v n          what n tricks short cost
--     score l d x v t            the score of declarer's side, signed
--     scored c v t               the same of a contract, for 0 to 13 tricks
--     is_vulnerable v c          the vulnerability v covers the chair c
--     scored_ns c x v t          the score to North-South, for the declarer x and the board's vulnerability v
use Rattle.std.specs.Prelude.{ℕ, ◌+◌, ◌-◌, ◌*◌, min, Bool, true, false, cond, ℤ, pos, neg_ℤ, Some, None, Option, ◌==◌, nat_le}
use Rattle.std.specs.Option.{option_map}
use Rattle.cards.specs.declared.boards.Vulnerability.{Vulnerability}
use Rattle.cards.specs.declared.boards.Vulnerability.TheVariants.{Neither, NorthSouth, EastWest, Both}
use Rattle.cards.specs.declared.chairs.Chair.{Chair}
use Rattle.cards.specs.declared.chairs.Chair.TheVariants.{North, East, South, West}
use Rattle.cards.specs.declared.suits.Denomination.{Denomination}
use Rattle.cards.specs.declared.suits.Denomination.TheVariants.{Trumps, NoTrump}
use Rattle.cards.specs.declared.suits.Suit.TheVariants.{Clubs, Diamonds, Hearts, Spades}
use Rattle.scoring.specs.declared.contracts.Contract.{Contract}
use Rattle.scoring.specs.declared.contracts.Doubling.{Doubling}
use Rattle.scoring.specs.declared.contracts.Doubling.TheVariants.{Undoubled, Doubled, Redoubled}

abbrev pub trick_points : Denomination → ℕ
trick_points (Trumps Clubs) = 20
trick_points (Trumps Diamonds) = 20
trick_points (Trumps Hearts) = 30
trick_points (Trumps Spades) = 30
trick_points NoTrump = 30

abbrev pub first_points : Denomination → ℕ
first_points (Trumps s) = 0
first_points NoTrump = 10

abbrev pub times : Doubling → ℕ
times Undoubled = 1
times Doubled = 2
times Redoubled = 4

abbrev pub bid_points : ℕ → Denomination → Doubling → ℕ
bid_points l d x = times x * (l * trick_points d + first_points d)

-- game is 100 bid points or more
abbrev pub game_premium : ℕ → Bool → ℕ
game_premium points v = cond (nat_le 100 points) (cond v 500 300) 50

abbrev pub slam_premium : ℕ → Bool → ℕ
slam_premium l v = cond (l == 6) (cond v 750 500) (cond (l == 7) (cond v 1500 1000) 0)

abbrev pub insult : Doubling → ℕ
insult Undoubled = 0
insult Doubled = 50
insult Redoubled = 100

abbrev pub overtrick : Denomination → Doubling → Bool → ℕ
overtrick d Undoubled v = trick_points d
overtrick d Doubled v = cond v 200 100
overtrick d Redoubled v = cond v 400 200

-- the first, the second and third, and each more
abbrev pub doubled_down : Bool → ℕ → ℕ
doubled_down true n = 200 * min n 1 + 300 * (n - 1)
doubled_down false n = 100 * min n 1 + 200 * min (n - 1) 2 + 300 * (n - 3)

abbrev pub undertricks : Doubling → Bool → ℕ → ℕ
undertricks Undoubled v n = cond v 100 50 * n
undertricks Doubled v n = doubled_down v n
undertricks Redoubled v n = 2 * doubled_down v n

abbrev pub made_points : ℕ → Denomination → Doubling → Bool → ℕ → ℕ
made_points l d x v over = bid_points l d x + game_premium (bid_points l d x) v + slam_premium l v + insult x + overtrick d x v * over

unfoldable pub score : ℕ → Denomination → Doubling → Bool → ℕ → ℤ
score l d x v t = cond (nat_le (l + 6) t) (pos (made_points l d x v (t - (l + 6)))) (neg_ℤ (pos (undertricks x v (l + 6 - t))))

abbrev pub scored : Contract → Bool → ℕ → Option ℤ
scored c v t = cond (nat_le t 13) (Some (score c.level c.denomination c.doubling v t)) None

abbrev pub is_vulnerable : Vulnerability → Chair → Bool
is_vulnerable Neither c = false
is_vulnerable NorthSouth North = true
is_vulnerable NorthSouth East = false
is_vulnerable NorthSouth South = true
is_vulnerable NorthSouth West = false
is_vulnerable EastWest North = false
is_vulnerable EastWest East = true
is_vulnerable EastWest South = false
is_vulnerable EastWest West = true
is_vulnerable Both c = true

abbrev pub to_ns : Chair → ℤ → ℤ
to_ns North z = z
to_ns East z = neg_ℤ z
to_ns South z = z
to_ns West z = neg_ℤ z

abbrev pub scored_ns : Contract → Chair → Vulnerability → ℕ → Option ℤ
scored_ns c x v t = option_map (to_ns x) (scored c (is_vulnerable v x) t)
