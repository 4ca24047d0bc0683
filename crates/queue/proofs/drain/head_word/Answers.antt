use Rattle.std.proofs.Common.{get_or-take, sym}
use Rattle.queue.proofs.drain.head_word.Goals as goal

pub returns : goal.returns
returns c = sym (get_or-take 32 c.args.heads.now c.args.at 0 c.requires)
