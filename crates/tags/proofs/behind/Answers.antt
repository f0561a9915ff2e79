use Rattle.tags.proofs.Marks.{behind_is}
use Rattle.std.proofs.lemmas.Slice.Eq.{strip_prefix_is}
use Rattle.tags.proofs.behind.Goals as goal
use Rattle.std.proofs.lemmas.Bool.Decides.{Decides-eqb}

pub returns : goal.returns
returns c = record { rest = behind_is c.args.mark.now c.args.text.now _ (strip_prefix_is Decides-eqb _ _ _ c.strip_prefix.ensures.cases) }
