use Rattle.std.proofs.Common.{ap, sym, ◌∙◌}
use Rattle.model.specs.Queue.{Reply}
use Rattle.model.specs.Service.{answers, says}
use Rattle.model.specs.Service22.{read_reply}
use Rattle.service.specs.Seen.{asking, configured, in_session, valued}
use Rattle.data.proofs.Laws22.{even}
use Rattle.data.proofs.service22.read.Goals as goal

pub returns : goal.returns
returns c = let r = c.args.request.now in λ v.
    let u = asking r.payload.now (configured r.config.now (in_session r.session r.level (valued r.values.now r.pool.now v))) in
    let q = c.read_all.ensures v r.payload.now in
    record { answer = even u c.if-n-lt2.false c.if-n-ne0.false ∙ ap (λ (x : Reply). answers (says u x)) (sym (c.said.ensures _ _ ∙ ap read_reply q.reading)); unseen = q.unseen }
