-- The faults of a deal file: each has a layer, a number and an offset.
--     layer f                    1 lines, 2 tags, 3 values
--     number f                   the question that is answered no; 23 is kept free
--     offset f                   where the line at fault starts, 0 if no one line is
use Rattle.std.specs.Prelude.{ℕ}
use Rattle.faults.specs.declared.Fault.{Fault}
use Rattle.faults.specs.declared.Fault.TheVariants.{FileTooLong, LineTooLong, UnprintableByte, MalformedTag, TagNotOnce, NoBoardNumber, WrongDealer, WrongVulnerability, MalformedDeal, RepeatedCard, UnevenHands}

abbrev pub layer : Fault → ℕ
layer FileTooLong = 1
layer (LineTooLong at) = 1
layer (UnprintableByte at) = 1
layer (MalformedTag at) = 2
layer TagNotOnce = 2
layer (NoBoardNumber at) = 3
layer (WrongDealer at) = 3
layer (WrongVulnerability at) = 3
layer (MalformedDeal at) = 3
layer (RepeatedCard at) = 3
layer (UnevenHands at) = 3

abbrev pub number : Fault → ℕ
number FileTooLong = 20
number (LineTooLong at) = 21
number (UnprintableByte at) = 22
number (MalformedTag at) = 24
number TagNotOnce = 25
number (NoBoardNumber at) = 26
number (WrongDealer at) = 27
number (WrongVulnerability at) = 27
number (MalformedDeal at) = 28
number (RepeatedCard at) = 29
number (UnevenHands at) = 30

abbrev pub offset : Fault → ℕ
offset FileTooLong = 0
offset (LineTooLong at) = at
offset (UnprintableByte at) = at
offset (MalformedTag at) = at
offset TagNotOnce = 0
offset (NoBoardNumber at) = at
offset (WrongDealer at) = at
offset (WrongVulnerability at) = at
offset (MalformedDeal at) = at
offset (RepeatedCard at) = at
offset (UnevenHands at) = at
