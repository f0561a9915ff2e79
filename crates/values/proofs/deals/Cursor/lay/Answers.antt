use Rattle.std.proofs.Common.{◌≡◌, ◌<◌, Some, length, arith, rules}
use Rattle.std.proofs.lemmas.Bool.Decides.{nat_tests}
use Rattle.std.proofs.lemmas.Grind.{common_steps}
use Rattle.values.specs.Deals.{card_named}
use Rattle.values.proofs.Layouts.{card_laid}
use Rattle.values.proofs.deals.Cursor.lay.Goals as goal

pub returns : goal.returns
returns c =
    let card = c.in_ok-card_named.field-0 in
    let named : card_named c.args.self.suit c.args.byte ≡ Some card = search rules in
    let within : card < length c.args.laid.now = search rules in
    record {
      reads = λ text.
          let e = card_laid c.args.self c.args.laid.now c.args.byte card text c.requires.0 c.requires.1 named within in
          grind (arith, nat_tests, common_steps);
    }
