use Rattle.text.proofs.Writes.{since}
use Rattle.reply.proofs.Pages.{fault_replied, game_replied}
use Rattle.reply.proofs.reply.Goals as goal
use Rattle.reply.proofs.reply.Goals.{in-Ok, in-Err}

pub returns : goal.returns
returns c =
    record {
      text = elim c.match-read.branch [
        | in-Ok w ↦
            game_replied c.args.file.now c.new-page.ensures.empty w.in-Ok.number _ _ w.in-Ok.ensures.answer c.read.ensures.bytes
            w.put_game.ensures.wrote (since w.page-is c.put.ensures.wrote) w.put_game.ensures.short
        | in-Err w ↦
            fault_replied c.args.file.now c.new-page.ensures.empty w.in-Err.fault w.in-Err.ensures.answer
            w.put_fault.ensures.wrote (since w.page-is c.put.ensures.wrote) w.put_fault.ensures.short
      ];
    }
