-- Nothing else meets the promises: of two answers that meet one, what the theorem names is the same. `Post` is the promise itself, as its function
-- has it; `e` and `f` are what the one and the other leave of what was lent.
use Prim.Native.Nat.{ℕ, ◌<◌}
use mathlib.Core.Path.{◌≡◌, refl, ap, ap₂, sym, ◌∙◌}
use mathlib.Core.Bool.{false}
use mathlib.Core.List.{List, []}
use native.Mathlib.Decide.{dec_le}
use native.Mathlib.Omega.{arith}
use lib.ListN.{length}
use Rattle.model.specs.Numbers.{Moment, max_periodic}
use Rattle.model.specs.Values.{Table}
use Rattle.model.specs.State as Model
use Rattle.model.specs.State.{Session}
use Rattle.model.specs.Tick.{Passed}
use Rattle.uds.proofs.Promise.{Settles}
use Rattle.uds.proofs.Settled.{said}
use Rattle.uds.proofs.Refusals.{same_result}
use Rattle.uds.specs.Result.{result_of}
use Rattle.uds.specs.declared.result.Refusal.{Refusal}
use Rattle.std.specs.Prelude.{Result, Ok, Err}
use Rattle.ticking.specs.declared.Unsent.{Unsent}
use Rattle.uds.proofs.Tab.{tab-length}
use Rattle.queue.specs.View.{frame_at, queue_of}
use Rattle.queue.specs.declared.reply.Outbox.{Outbox}
use Rattle.periodic.specs.View.{table_of}
use Rattle.security.specs.View.{security_of, seed_at}
use Rattle.state.specs.View.{session_of, beside}
use Rattle.state.specs.declared.SessionState.{SessionState}
use Rattle.state.specs.declared.PendingRequest.{PendingRequest}
use Rattle.state.proofs.Settled.{SameReplied, same-said, session, cleared_alike}
use Rattle.ticking.specs.View.{expired_of, Lapses, Sent, sent_of, passed_of, Sends}
use Rattle.ticking.proofs.s3.Reads as s3
use Rattle.ticking.proofs.refreshed.Reads as refreshed
use Rattle.ticking.proofs.send_due.Reads as send-due

-- S3: the session, what is seen of the security record, and every byte of the seed
pub record SameLapsed (r r' : SessionState) (k k' : List ℕ) : Type 0 where
  pub answer : r ≡ r'
  pub security : security_of k ≡ security_of k'
  pub seed : (i : ℕ) → seed_at k i ≡ seed_at k' i

lapsed : {w k k' k'' : List ℕ} {a r r' : SessionState} {t : Moment} → Lapses w a k t r k' → Lapses w a k t r' k'' → SameLapsed r r' k' k''
lapsed {w} {k} {k'} {k''} {a} {r} {r'} {t} p q = record {
  answer = session (ap (λ (m : Model.State). m.session) alike);
  security = ap (λ (m : Model.State). m.security) alike;
  seed = cleared_alike (expired_of w a t) k k' k'' p.words q.words;
}
  where
    idle : PendingRequest
    idle = record { deadline = record { 0 = 0 }; dst = 0; sid = 0; on = false }

    alike : beside w (session_of r) (security_of k') [] idle false 0 [] [] ≡ beside w (session_of r') (security_of k'') [] idle false 0 [] []
    alike = said (p.state [] idle false 0 [] []) (q.state [] idle false 0 [] [])

pub s3_settled : (κs : _) (a : _) → Settles (s3.Post κs a) (λ x e y f. SameLapsed x y e.1.1.0.now f.1.1.0.now)
s3_settled κs a x e y f p q = lapsed p q

pub refreshed_settled : (κs : _) (a : _) → Settles (refreshed.Post κs a) (λ x e y f. SameReplied x y e.1.1.1.0.now f.1.1.1.0.now)
refreshed_settled κs a x e y f p q =
    let at : Session = record { session_type = a.1.0; level = 0; last_rx = 0 } in
    record {
      reply = same-said a.0.now at false x y e.1.1.1.0.now f.1.1.1.0.now (said (p.1.1.step at Model.fresh_security [] false refl) (q.1.1.step at Model.fresh_security [] false refl));
      heads = p.0 ∙ sym q.0;
      room = p.1.0 ∙ sym q.1.0;
    }

-- the due subscriptions: the answer, the table and the queue; beyond sixteen, every word and byte
pub record SameSent (count : ℕ) (r r' : Sent) (subs subs' heads heads' room room' : List ℕ) : Type 0 where
  pub answer : r ≡ r'
  pub table : table_of count subs ≡ table_of count subs'
  pub queue : queue_of r.frames heads room ≡ queue_of r'.frames heads' room'
  pub lent : max_periodic < count → (subs ≡ subs') × (heads ≡ heads') × (room ≡ room')

passed : {before h m subs subs' heads heads' room room' : List ℕ} {count frames : ℕ} {t : Moment} {v : Table} {r r' : Sent} → Sends before count frames h m t v r subs heads room → Sends before count frames h m t v r' subs' heads' room' → SameSent count r r' subs subs' heads heads' room room'
passed {subs = subs} {subs'} {heads} {heads'} {room} {room'} {count} {r = r} {r'} p q = elim (dec_le count max_periodic) [ yes l ↦ within (said (p.passed l) (q.passed l)) | no l ↦ beyond (omega arith) ]
  where
    lent : max_periodic < count → (subs ≡ subs') × (heads ≡ heads') × (room ≡ room')
    lent l = let x = p.beyond l in let y = q.beyond l in (said x.1 y.1, said x.2 y.2, said x.3 y.3)

    made : ℕ → ℕ → ℕ → Sent
    made n result err = record { frames = n; result = result; err = err }

    within : passed_of r (table_of count subs) heads room ≡ passed_of r' (table_of count subs') heads' room' → SameSent count r r' subs subs' heads heads' room room'
    within z =
        let queue : queue_of r.frames heads room ≡ queue_of r'.frames heads' room' = ap (λ (a : Passed). a.queue) z in
        let many : r.frames ≡ r'.frames = sym (tab-length (frame_at heads room) 0 r.frames) ∙ ap length queue ∙ tab-length (frame_at heads' room') 0 r'.frames in
        record {
          answer = ap (λ (n : ℕ). made n r.result r.err) many ∙ ap₂ (made r'.frames) (ap (λ (a : Passed). a.result) z) (ap (λ (a : Passed). a.err) z);
          table = ap (λ (a : Passed). a.entries) z;
          queue = queue;
          lent = lent;
        }

    beyond : max_periodic < count → SameSent count r r' subs subs' heads heads' room room'
    beyond l =
        let x = lent l in
        let same : r ≡ r' = said (p.beyond l).0 (q.beyond l).0 in
        record {
          answer = same;
          table = ap (table_of count) x.0;
          queue = ap (λ (a : Sent). queue_of a.frames heads room) same ∙ ap₂ (queue_of r'.frames) x.1 x.2;
          lent = lent;
        }

-- an answer is told whole by the numbers that are seen of it
same_answer : (x y : Result (Unit {0}) Unsent) (o o' : Outbox) → sent_of x o ≡ sent_of y o' → x ≡ y
same_answer x y o o' e = read x o ∙ ap₂ made (same_result (number x o ∙ ap (λ (r : Sent). r.result) e ∙ sym (number y o'))) (ap (λ (r : Sent). r.err) e) ∙ sym (read y o')
  where
    why : Result (Unit {0}) Unsent → Result (Unit {0}) Refusal
    why (Ok done) = Ok done
    why (Err unsent) = Err unsent.why

    made : Result (Unit {0}) Refusal → ℕ → Result (Unit {0}) Unsent
    made (Ok done) err = Ok done
    made (Err why) err = Err (record { why = why; err = err })

    number : (x : Result (Unit {0}) Unsent) (o : Outbox) → result_of (why x) ≡ (sent_of x o).result
    number (Ok done) o = refl
    number (Err unsent) o = refl

    read : (x : Result (Unit {0}) Unsent) (o : Outbox) → x ≡ made (why x) (sent_of x o).err
    read (Ok done) o = refl
    read (Err unsent) o = refl

-- and the answer itself, and which heads and room the frames lie in
pub record SameSending (count : ℕ) (x y : Result (Unit {0}) Unsent) (o o' : Outbox) (subs subs' : List ℕ) : Type 0 where
  pub answer : x ≡ y
  pub sent : SameSent count (sent_of x o) (sent_of y o') subs subs' o.heads.now o'.heads.now o.room.now o'.room.now
  pub heads : o.heads.ghost_name ≡ o'.heads.ghost_name
  pub room : o.room.ghost_name ≡ o'.room.ghost_name

pub send_due_settled : (κs : _) (a : _) → Settles (send-due.Post κs a) (λ x e y f. SameSending a.1.0 x y e.1.1.0.now f.1.1.0.now e.0.now f.0.now)
send_due_settled κs a x e y f p q =
    let s = passed p.1.1 q.1.1 in
    record { answer = same_answer x y e.1.1.0.now f.1.1.0.now s.answer; sent = s; heads = p.0 ∙ sym q.0; room = p.1.0 ∙ sym q.1.0 }
