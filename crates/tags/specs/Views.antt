-- What the code's own types stand for.
--     told r, found f, founds r  the tag of a line, a tag that was found, and the tag that was looked for
use Rattle.std.specs.Prelude.{Ok, Err, Option, Result}
use Rattle.std.specs.Option.{option_map}
use Rattle.faults.specs.declared.Fault.{Fault}
use Rattle.tags.specs.declared.Found as place
use Rattle.tags.specs.declared.Tag as code
use Rattle.tags.specs.Searches.{Found}
use Rattle.tags.specs.Tags.{Tag}

abbrev pub told : Option code.Tag → Option Tag
told = option_map (λ t. record { name = t.name.now; value = t.value.now })

abbrev pub found : place.Found → Found
found f = record { line = f.line; value = f.value.now }

abbrev pub founds : Result place.Found Fault → Result Found Fault
founds (Ok f) = Ok (found f)
founds (Err e) = Err e
