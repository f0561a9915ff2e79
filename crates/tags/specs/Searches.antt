-- Layer 2 of reading: the questions put to the tags of a file.
--     tags_checked ls            24 if a line opened by `[` is no tag line
--     found_in w l               the tag of the line l, if it has one of the name w, with the offset at which it starts
--     named w ls                 the tags named w, each with the offset at which its line starts
--     only fs                    the one tag that was found, or 25
use Rattle.std.specs.Prelude.{ℕ, cond, List, [], ◌∷◌, Some, None, Ok, Err, Option, Result}
use Rattle.std.specs.Str.{bytes_eq}
use Rattle.faults.specs.declared.Fault.{Fault}
use Rattle.faults.specs.declared.Fault.TheVariants.{MalformedTag, TagNotOnce}
use Rattle.faults.specs.Questions.{then, unless}
use Rattle.lines.specs.Lines.{Line}
use Rattle.tags.specs.Tags.{Tag, and_then, tag_of, well_formed}

abbrev pub tags_checked : List Line → Result Unit Fault
tags_checked [] = Ok tt
tags_checked (l ∷ ls) = then (unless (well_formed l.text) (MalformedTag l.start)) (λ _. tags_checked ls)

-- where a tag's line starts, and its value
pub record Found : Type 0 where
  pub line : ℕ
  pub value : List ℕ

abbrev pub found_in : List ℕ → Line → Option Found
found_in w l = and_then (tag_of l.text) (λ t. cond (bytes_eq t.name w) (Some (record { line = l.start; value = t.value })) None)

-- a line's tag put before those of the lines after it, if it has one of the name w
abbrev pub noted : List ℕ → ℕ → Option Tag → List Found → List Found
noted w i None fs = fs
noted w i (Some t) fs = cond (bytes_eq t.name w) (record { line = i; value = t.value } ∷ fs) fs

abbrev pub named : List ℕ → List Line → List Found
named w [] = []
named w (l ∷ ls) = noted w l.start (tag_of l.text) (named w ls)

abbrev pub alone : Found → List Found → Result Found Fault
alone f [] = Ok f
alone f (g ∷ gs) = Err TagNotOnce

abbrev pub only : List Found → Result Found Fault
only [] = Err TagNotOnce
only (f ∷ fs) = alone f fs
