-- Letters and words for the game's codes.
--     chair_letter c, chair_named b        N, E, S, W
--     rank_letter r, rank_named b          A K Q J T 9 8 7 6 5 4 3 2, for the ranks 12 down to 0
--     vulnerability_word v, vulnerability_named w  None, NS, EW, All
--     dealer_named w                       the chair that a text of one letter names
use Rattle.std.specs.Prelude.{ℕ, ◌-◌, cond, List, [], ◌∷◌, Some, None, codes, Option, ◌==◌, nat_le, slice_index}
use Rattle.std.specs.Str.{bytes_eq}
use Rattle.cards.specs.declared.boards.Vulnerability.{Vulnerability}
use Rattle.cards.specs.declared.boards.Vulnerability.TheVariants.{Neither, NorthSouth, EastWest, Both}
use Rattle.cards.specs.declared.chairs.Chair.{Chair}
use Rattle.cards.specs.declared.chairs.Chair.TheVariants.{North, East, South, West}

abbrev pub chair_letter : Chair → ℕ
chair_letter North = 78
chair_letter East = 69
chair_letter South = 83
chair_letter West = 87

abbrev pub chair_named : ℕ → Option Chair
chair_named b = cond (b == 78) (Some North) (cond (b == 69) (Some East) (cond (b == 83) (Some South) (cond (b == 87) (Some West) None)))

abbrev pub rank_letter : ℕ → ℕ
rank_letter r = slice_index (codes "23456789TJQKA") r

-- 65 A, 75 K, 81 Q, 74 J, 84 T, and from 50 on the digits from 2 on
abbrev pub rank_named : ℕ → Option ℕ
rank_named b =
    cond (b == 65) (Some 12) (cond (b == 75) (Some 11) (cond (b == 81) (Some 10) (cond (b == 74) (Some 9) (cond (b == 84) (Some 8)
    (cond (nat_le 50 b) (cond (nat_le b 57) (Some (b - 50)) None) None)))))

abbrev pub vulnerability_word : Vulnerability → List ℕ
vulnerability_word Neither = codes "None"
vulnerability_word NorthSouth = codes "NS"
vulnerability_word EastWest = codes "EW"
vulnerability_word Both = codes "All"

abbrev pub vulnerability_named : List ℕ → Option Vulnerability
vulnerability_named w =
    cond (bytes_eq w (codes "None")) (Some Neither) (cond (bytes_eq w (codes "NS")) (Some NorthSouth)
    (cond (bytes_eq w (codes "EW")) (Some EastWest) (cond (bytes_eq w (codes "All")) (Some Both) None)))

abbrev pub dealer_named : List ℕ → Option Chair
dealer_named [] = None
dealer_named (b ∷ []) = chair_named b
dealer_named (b ∷ c ∷ bs) = None
