use Rattle.std.proofs.Common.{[], ◌≡◌}
use Rattle.std.specs.Slice.Iter.{chunks_exact_rest, chunks_exact_size}
use Rattle.model.specs.Service22.{read_all}
use Rattle.queue.specs.View.{Unseen, draft_of}
use Rattle.data.specs.View22.{Every}
use Rattle.data.proofs.service22.read_all.Given as goal

-- what is left is read on from the bytes so far
abbrev pub invariant-loop-id : goal.invariant-loop-id
invariant-loop-id l =
    let r = l.request in
    (chunks_exact_size l.id-iterator ≡ 2) × Unseen r.frames l.initial.room l.room × Every r.config.now r.session r.level r.values.now r.pool.now (λ v. read_all v r.payload.now [] ≡ read_all v (chunks_exact_rest l.id-iterator) (draft_of r.frames l.len l.room))
