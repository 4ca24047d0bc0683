-- The way of a request, against ISO 14229-1: which codes refuse it, and that a served one is answered with what the standard sends.
use Prim.Native.Nat.{ℕ, suc, ◌≤◌, ◌<◌}
use mathlib.Core.Path.{◌≡◌, refl, sym, ◌∙◌}
use mathlib.Core.Bool.{Bool, true, false, false≢true}
use mathlib.Core.List.{List, [], ◌∷◌, ◌++◌}
use mathlib.Core.Option.{Option, some, none}
use native.Mathlib.Omega.{arith}
use lib.ListN.{length}
use lib.Dec.{eqb}
use borrow.Author.Tests.{lt-ltb, le-leb, lt-leb, ne_eqb}
use Rattle.model.specs.Iso
use Rattle.model.specs.Tests.{pick}
use Rattle.model.specs.Numbers.{max_outbox, max_time, max_request}
use Rattle.model.specs.Config.{ServiceConfig, find_service, allowed_in}
use Rattle.model.specs.Values.{Outcome, bytes, error}
use Rattle.model.specs.Frame.{sid_of}
use Rattle.model.specs.State.{AddressMode, PendingRequest, State, Step, step, valid, received}
use Rattle.model.specs.Queue.{Reply, pushed}
use Rattle.model.specs.Reply.{queued, replied}
use Rattle.model.specs.Service.{Seen, Effect, Served, acted, apply, changed, changed_after}
use Rattle.model.specs.Request.{Request, seen, service, guarded, served, carried, heard, addressed, routed, request}
use Rattle.model.specs.Service10.{service10}
use Rattle.model.specs.Service11.{service11}
use Rattle.model.specs.Service22.{service22}
use Rattle.model.specs.Service27.{service27}
use Rattle.model.specs.Service28.{service28}
use Rattle.model.specs.Service2A.{service2A}
use Rattle.model.specs.Service2E.{service2E}
use Rattle.model.specs.Service2F.{service2F}
use Rattle.model.specs.Service31.{service31}
use Rattle.model.specs.Service36.{service36}
use Rattle.model.proofs.Edges.{busy_first}
use Rattle.model.proofs.Iso.Frames.{response_of, to, functionally, answered, refusal_code}

-- a service's answer, in the standard's words
abbrev pub answer : Served → Option Iso.Response
answer a = response_of a.effect.reply

-- a service that refuses with a code
abbrev pub Refuses : Served → ℕ → Type 0
Refuses a code = answer a ≡ some (Iso.negative_response code)

-- an answer that an act decides: what its bytes make, or its code
abbrev pub decided : (List ℕ → Iso.Response) → Outcome → Iso.Response
decided f (bytes b) = f b
decided f (error code) = Iso.negative_response code

pub by_act : (v : Seen) (k : List ℕ → Reply) (f : List ℕ → Iso.Response) → ((b : List ℕ) → response_of (k b) ≡ some (f b)) → (o : Outcome) → response_of (acted v k o).reply ≡ some (decided f o)
unfolding acted
by_act v k f h (bytes b) = h b
by_act v k f h (error code) = refusal_code code

-- a request that comes as far as the services: the state is valid, the frame is for this server, none is pending, and its length fits
pub record Arrives (limit : ℕ) (s : State) (r : Request) (m : AddressMode) : Type 0 where
  pub valid : valid limit s ≡ true
  pub time : r.inbound.time ≤ max_time
  pub addressed : addressed s.config r.inbound.dst ≡ some m
  pub idle : s.pending ≡ none
  pub some_bytes : 1 ≤ length r.inbound.frame
  pub few_bytes : length r.inbound.frame ≤ max_request

module _ (limit : ℕ) (s : State) (r : Request) (m : AddressMode) (a : Arrives limit s r m) where
  -- the state in which its service finds the server
  abbrev pub found : State
  found = received s m r.inbound.time

  pub arrives : request limit s r ≡ carried limit found r.inbound (served limit found r)
  unfolding request routed heard
  arrives = rw (a.valid, le-leb _ _ a.time, a.addressed, a.idle, le-leb _ _ a.some_bytes, le-leb _ _ a.few_bytes)

  -- an effect changes no queue: it is as the reply leaves it
  after-reply : (e : Effect) (p : Step) → (changed_after e p).state.queue ≡ p.state.queue
  unfolding changed_after
  after-reply e p = go (eqb p.result 0)
    where
      go : (t : Bool) → (pick t (step 0 (changed p.state e)) p).state.queue ≡ p.state.queue
      go true = refl
      go false = refl

  -- what the standard sends, to the request's sender, behind what waits
  abbrev Sends : Step → Iso.Response → Type 0
  Sends p b = p.state.queue ≡ s.queue ++ to r.inbound.src (Iso.messages (functionally m) limit (sid_of r.inbound.frame) b)

  -- with room in the queue, a request is answered, to its sender, with what the standard sends for its service's answer
  pub responds : length s.queue < max_outbox → Iso.RequestIdentifier (sid_of r.inbound.frame) → (b : Iso.Response) → answer (served limit found r) ≡ some b
      → (request limit s r).step.state.queue
      ≡ s.queue ++ to r.inbound.src (Iso.messages (functionally m) limit (sid_of r.inbound.frame) b)
  unfolding apply
  responds room h b e = rw arrives (go (served limit found r).effect.waits)
    where
      x : Effect
      x = (served limit found r).effect

      reply : State → Step
      reply t = replied limit t r.inbound.src (sid_of r.inbound.frame) r.inbound.time x.reply

      go : (t : Bool) → Sends (pick t (changed_after x (reply found)) (reply (changed found x))) b
      go true = after-reply x (reply found) ∙ answered limit found r.inbound.src (sid_of r.inbound.frame) r.inbound.time room h x.reply b e
      go false = answered limit (changed found x) r.inbound.src (sid_of r.inbound.frame) r.inbound.time room h x.reply b e

  -- a service that is not configured is serviceNotSupported
  pub not_supported : find_service s.config (sid_of r.inbound.frame) ≡ none → Refuses (served limit found r) Iso.service_not_supported
  unfolding guarded
  not_supported e = rw e

  module _ (row : ServiceConfig) (e : find_service s.config (sid_of r.inbound.frame) ≡ some row) where
    -- one that is, but not for the active session, is serviceNotSupportedInActiveSession
    pub not_in_session : allowed_in s.session.session_type row ≡ false → Refuses (served limit found r) Iso.service_not_supported_in_active_session
    unfolding guarded
    not_in_session f = rw (e, f)

    -- and one that is configured for it is served
    pub serves : allowed_in s.session.session_type row ≡ true → served limit found r ≡ service (sid_of r.inbound.frame) (seen limit found r)
    unfolding guarded
    serves f = rw (e, f)

-- a configured service that is none of the fourteen is serviceNotSupported
pub not-served : (sid : ℕ) (v : Seen) → ((x : ℕ) → Iso.listed Iso.services x ≡ true → sid ≡ x → ⊥) → Refuses (service sid v) Iso.service_not_supported
unfolding service
not-served sid v n = rw (ne 0x3E refl, ne 0x10 refl, ne 0x11 refl, ne 0x27 refl, ne 0x22 refl, ne 0x2E refl, ne 0x2A refl, ne 0x31 refl, ne 0x28 refl, ne 0x2F refl, ne 0x34 refl, ne 0x36 refl, ne 0x37 refl, ne 0x38 refl)
  where
    ne : (x : ℕ) → Iso.listed Iso.services x ≡ true → eqb sid x ≡ false
    ne x h = ne_eqb sid x (n x h)

-- while a request is pending, another one is busyRepeatRequest, however it was addressed: sent to the address that it called
pub busy : (limit : ℕ) (s : State) (r : Request) (m : AddressMode) (p : PendingRequest)
    → valid limit s ≡ true → r.inbound.time ≤ max_time → addressed s.config r.inbound.dst ≡ some m → s.pending ≡ some p → length s.queue < max_outbox
    → (request limit s r).step.state.queue ≡ s.queue ++ to r.inbound.dst (Iso.negative (sid_of r.inbound.frame) Iso.busy_repeat_request ∷ [])
unfolding queued pushed
busy limit s r m p h t e f room = rw (busy_first limit s r m p h t e f, lt-ltb _ _ room)

-- the services that also answer requests which are shorter than the standard's shortest
abbrev answers_shorter : List ℕ
answers_shorter = Iso.request_download ∷ Iso.request_file_transfer ∷ Iso.tester_present ∷ []

abbrev Short : Iso.Shortest → Type 0
Short q = Iso.listed answers_shorter q.service ≡ false → (v : Seen) → suc (length v.payload) < q.bytes
    → Refuses (service q.service v) Iso.incorrect_message_length_or_invalid_format

-- a request that is too short for its service is incorrectMessageLengthOrInvalidFormat, in ten of the fourteen; of 37 none is too short, since its shortest is the
-- service byte alone, and the three of `answers_shorter` are left out
pub too_short : Iso.Every Short Iso.shortest_requests
unfolding service service10 service11 service22 service27 service28 service2A service2E service2F service31 service36
too_short = (
  (λ d v h. rw (lt-ltb (length v.payload) 1 (omega arith))),
  (
    (λ d v h. rw (lt-ltb (length v.payload) 1 (omega arith))),
    (
      (λ d v h. rw (lt-leb 2 (length v.payload) (omega arith))),
      (
        (λ d v h. rw (lt-ltb (length v.payload) 1 (omega arith))),
        (
          (λ d v h. rw (lt-leb 2 (length v.payload) (omega arith))),
          (
            (λ d v h. rw (lt-ltb (length v.payload) 1 (omega arith))),
            (
              (λ d v h. rw (lt-leb 3 (length v.payload) (omega arith))),
              (
                (λ d v h. rw (lt-leb 3 (length v.payload) (omega arith))),
                (
                  (λ d v h. rw (lt-leb 3 (length v.payload) (omega arith))),
                  (
                    (λ d v h. absurd (false≢true (sym d))),
                    (
                      (λ d v h. rw (lt-leb 1 (length v.payload) (omega arith))),
                      (
                        (λ d v h. absurd (omega arith)),
                        (
                          (λ d v h. absurd (false≢true (sym d))),
                          ((λ d v h. absurd (false≢true (sym d))), tt),
                        ),
                      ),
                    ),
                  ),
                ),
              ),
            ),
          ),
        ),
      ),
    ),
  ),
)
