use Rattle.std.proofs.Common.{rules}
use Rattle.laws.proofs.Boards.{each_card_once, one_to_each_trick, played_from_hand, suit_followed}
use Rattle.laws.proofs.hand_left.Goals as goal

pub returns : goal.returns
returns c = record { hand = search rules; once = each_card_once; played = played_from_hand; tricks = one_to_each_trick; followed = suit_followed }
