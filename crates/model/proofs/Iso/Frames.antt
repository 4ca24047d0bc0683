-- The general rules of ISO 14229-1: layouts of responses, the sub-function byte, what functional addressing withholds.
use Prim.Native.Nat.{ℕ, suc, ◌/◌, ◌%◌, ◌<◌}
use mathlib.Core.Path.{◌≡◌, refl, ap, sym, ◌∙◌}
use mathlib.Core.Bool.{Bool, true, false, ◌&&◌, ◌||◌}
use mathlib.Core.List.{List, [], ◌∷◌, ◌++◌, append-nil}
use mathlib.Core.Option.{Option, some, none}
use native.Mathlib.Omega.{arith}
use lib.ListN.{length}
use lib.Dec.{eqb, leb}
use borrow.Author.Tests.{lt-ltb, eq-eqb, ne_eqb, leb-true, leb-false, eqb-true}
use Rattle.model.specs.Iso
use Rattle.model.specs.Tests.{pick, memb}
use Rattle.model.specs.Numbers.{Moment, max_outbox}
use Rattle.model.specs.Frame.{Frame, response, positive_frame, negative_frame, suppressed, sub_function, two_bytes}
use Rattle.model.specs.State.{AddressMode, physical, functional, State, Step, step, with_queue}
use Rattle.model.specs.Queue as Queue
use Rattle.model.specs.Queue.{Reply, silent, positive, negative, always, pends, withheld, leaves, pushed, refused}
use Rattle.model.specs.Reply.{refusal, taken, queued, confirmed, replied}

-- the identifier of a request is answered with 0x40 added, so each of the fourteen is
pub positive-identifier : (sid : ℕ) → Iso.RequestIdentifier sid → (fields : List ℕ) → positive_frame sid fields ≡ Iso.positive sid fields
unfolding response
positive-identifier sid h fields = rw (lt-ltb (sid % 128) 64 h)

-- a property of every element, from another; and two at once
pub every_map : {A : Type 0} {P Q : A → Type 0} → ((a : A) → P a → Q a) → (l : List A) → Iso.Every P l → Iso.Every Q l
every_map f [] h = tt
every_map f (a ∷ l) h = (f a h.0, every_map f l h.1)

pub every_both : {A : Type 0} (P Q : A → Type 0) (l : List A) → Iso.Every P l → Iso.Every Q l → Iso.Every (λ a. P a × Q a) l
every_both P Q [] h k = tt
every_both P Q (a ∷ l) h k = ((h.0, k.0), every_both P Q l h.1 k.1)

pub fourteen_identifiers : Iso.Every (λ sid. (fields : List ℕ) → positive_frame sid fields ≡ Iso.positive sid fields) Iso.services
fourteen_identifiers = every_map {P = Iso.RequestIdentifier} positive-identifier Iso.services (omega arith)

-- a negative response has the standard's layout
pub negative_layout : (sid code : ℕ) → negative_frame sid code ≡ Iso.negative sid code
negative_layout sid code = refl

-- of a byte, the suppress bit is the standard's, and so is the value
pub suppress_bit : (b : ℕ) → b < 256 → leb 128 b ≡ Iso.suppress_pos_rsp_msg_indication_bit b
suppress_bit b h = go (leb 128 b) refl
  where
    go : (t : Bool) → leb 128 b ≡ t → t ≡ eqb (b / 128) 1
    go true e = rw (eq-eqb (b / 128) 1 (omega (arith, leb-true 128 b e)))
    go false e = rw (ne_eqb (b / 128) 1 (omega (arith, leb-false 128 b e)))

pub sub_function_byte : (b : ℕ) (rest : List ℕ) → b < 256
    → (suppressed (b ∷ rest) ≡ Iso.suppress_pos_rsp_msg_indication_bit b) × (sub_function (b ∷ rest) ≡ Iso.sub_function_value b)
sub_function_byte b rest h = (suppress_bit b h, refl)

-- two bytes, high byte first, are the standard's for the number's low 16 bits, which are read back from them
pub two_bytes_lem : (n : ℕ) → two_bytes n ≡ Iso.two_bytes (n % 65536)
two_bytes_lem n =
    let h : n / 256 % 256 ≡ n % 65536 / 256 = omega arith in
    let l : n % 256 ≡ n % 65536 % 256 = omega arith in
    rw (h, l)

pub two_bytes-read : (n : ℕ) → Iso.unsigned (n / 256) (n % 256) ≡ n
two_bytes-read n = omega arith

-- functional addressing withholds the five codes and no other; physical addressing withholds none
abbrev pub functionally : AddressMode → Bool
functionally physical = false
functionally functional = true

listed-memb : (x : ℕ) (l : List ℕ) → memb x l ≡ Iso.listed l x
listed-memb x [] = refl
listed-memb x (y ∷ l) = rw (listed-memb x l) (go (eqb y x) (Iso.listed l x))
  where
    go : (a b : Bool) → pick a true b ≡ (a || b)
    go true b = refl
    go false b = refl

pub five_withheld : (m : AddressMode) (code : ℕ) → withheld m code ≡ (functionally m && Iso.listed Iso.not_sent_functionally code)
unfolding withheld
five_withheld physical code = refl
five_withheld functional code = listed-memb code Iso.not_sent_functionally

-- what a reply is in the standard's words; `always` is sent however the request was addressed, and so has none
abbrev pub response_of : Reply → Option Iso.Response
response_of silent = some Iso.no_response
response_of (positive fields) = some (Iso.positive_response fields)
response_of (negative code) = some (Iso.negative_response code)
response_of (always code) = none
response_of pends = some (Iso.negative_response Iso.request_correctly_received_response_pending)

-- messages as frames to a client
abbrev pub to : ℕ → List (List ℕ) → List Frame
to client [] = []
to client (m ∷ ms) = record { dst = client; bytes = m } ∷ to client ms

-- with room in the queue, a frame is queued behind the others
pub queues : (s : State) (client : ℕ) (m : List ℕ) → length s.queue < max_outbox → queued s client m ≡ step 0 (with_queue s (s.queue ++ to client (m ∷ [])))
unfolding queued pushed
queues s client m room = rw (lt-ltb _ _ room)

-- a code that is none of the five is sent
unlisted : (m : AddressMode) (frame : List ℕ) → Iso.unless (functionally m && false) frame ≡ frame ∷ []
unlisted physical frame = refl
unlisted functional frame = refl

module _ (limit : ℕ) (s : State) (client sid : ℕ) (now : Moment) (room : length s.queue < max_outbox) where
  -- what the standard sends, behind what waits
  abbrev Sends : Step → Iso.Response → Type 0
  Sends p a = p.state.queue ≡ s.queue ++ to client (Iso.messages (functionally s.mode) limit sid a)

  refuses : (code : ℕ) → Sends (taken s (refused s.mode s.queue client sid code)) (Iso.negative_response code)
  unfolding queued refused
  refuses code = rw (five_withheld s.mode code) (go (functionally s.mode && Iso.listed Iso.not_sent_functionally code))
    where
      go : (t : Bool) → (pick t (leaves 0 s.queue) (pushed s.queue client (negative_frame sid code))).queue ≡ s.queue ++ to client (Iso.unless t (Iso.negative sid code))
      go true = sym (append-nil s.queue)
      go false = ap (λ (p : Step). p.state.queue) (queues s client (negative_frame sid code) room)

  pub confirms : Iso.RequestIdentifier sid → (fields : List ℕ) → Sends (confirmed limit s client sid fields) (Iso.positive_response fields)
  unfolding queued confirmed Queue.confirmed
  confirms h fields = go (leb (suc (length fields)) limit)
    where
      go : (t : Bool) → (pick t (pushed s.queue client (positive_frame sid fields)) (refused s.mode s.queue client sid 0x14)).queue
          ≡ s.queue ++ to client (Iso.fitting t (Iso.positive sid fields) (Iso.negative sid 0x14))
      go true = ap (λ (p : Step). p.state.queue) (queues s client (positive_frame sid fields) room) ∙ rw (positive-identifier sid h fields)
      go false = rw (unlisted s.mode (Iso.negative sid 0x14)) at (refuses 0x14)

  -- with room in the queue, a reply is queued as exactly the messages that the standard sends for it
  pub answered : Iso.RequestIdentifier sid → (r : Reply) (a : Iso.Response) → response_of r ≡ some a
      → (replied limit s client sid now r).state.queue ≡ s.queue ++ to client (Iso.messages (functionally s.mode) limit sid a)
  unfolding replied Queue.answered confirmed pushed
  answered h silent a e = let f : Iso.no_response ≡ a = cc in rw (← f) (sym (append-nil s.queue))
  answered h (positive fields) a e = let f : Iso.positive_response fields ≡ a = cc in rw (← f) (confirms h fields)
  answered h (negative code) a e = let f : Iso.negative_response code ≡ a = cc in rw (← f) (refuses code)
  answered h (always code) a e = let f : ◌≡◌ {A = ℕ} 0 1 = cc in absurd (omega arith)
  answered h pends a e =
      let f : Iso.negative_response 0x78 ≡ a = cc in
      rw (← f, unlisted s.mode (Iso.negative sid 0x78), lt-ltb _ _ room)

-- an error byte is answered as the negative response with that code
pub refusal_code : (code : ℕ) → response_of (refusal code) ≡ some (Iso.negative_response code)
unfolding refusal
refusal_code code = go (eqb code 0x78) refl
  where
    go : (t : Bool) → eqb code 0x78 ≡ t → response_of (pick t pends (negative code)) ≡ some (Iso.negative_response code)
    go true e = rw (eqb-true code 0x78 e)
    go false e = refl

-- a positive reply unless a test holds
pub suppressing : (t : Bool) (fields : List ℕ) → response_of (pick t silent (positive fields)) ≡ some (Iso.suppressing t fields)
suppressing true fields = refl
suppressing false fields = refl
