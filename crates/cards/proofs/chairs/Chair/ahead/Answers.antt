use Rattle.std.proofs.Common.{sym, ap, ◌∙◌, arith}
use Rattle.cards.specs.Chairs.{next}
use Rattle.cards.proofs.Turns.{ahead_like, clockwise}
use Rattle.cards.proofs.chairs.Chair.ahead.Goals as goal

pub returns-in-0 : goal.returns-in-0
returns-in-0 c = record { chair = sym (ahead_like c.args.self c.args.places 0 (omega arith)); clockwise = clockwise }

pub returns-in-1 : goal.returns-in-1
returns-in-1 c = record { chair = c.next.ensures.chair ∙ sym (ahead_like c.args.self c.args.places 1 (omega arith)); clockwise = clockwise }

pub returns-in-2 : goal.returns-in-2
returns-in-2 c = record { chair = c.partner.ensures.chair ∙ sym (ahead_like c.args.self c.args.places 2 (omega arith)); clockwise = clockwise }

pub returns-in_default : goal.returns-in_default
returns-in_default c =
    record {
      chair = c.next-in_default.ensures.chair ∙ ap next c.partner-in_default.ensures.chair ∙ sym (ahead_like c.args.self c.args.places 3 (omega arith));
      clockwise = clockwise;
    }
