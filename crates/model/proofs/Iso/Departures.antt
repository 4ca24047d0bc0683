-- Where the definition departs from ISO 14229-1: for each the smallest request that shows it, what the definition sends, and what the standard sends.
-- The configuration is the fixed one, but where that cannot show it.
use mathlib.Core.Path.{◌≡◌, refl}
use mathlib.Core.Bool.{Bool, true, false, ◌&&◌}
use mathlib.Core.List.{List, [], ◌∷◌, map}
use mathlib.Core.Option.{none}
use lib.ListN.{length, replicate}
use lib.Dec.{eqb}
use Rattle.model.specs.Iso
use Rattle.model.specs.Numbers.{max_frame}
use Rattle.model.specs.Values.{given0, empty_table}
use Rattle.model.specs.Frame.{Frame}
use Rattle.model.specs.State.{State}
use Rattle.model.specs.Request.{Request, request}
use Rattle.model.specs.Pending.{complete, fail}
use Rattle.model.specs.Tick.{tick}
use Rattle.model.specs.Fixed.{fixed_config}
use Rattle.model.proofs.Open.{whole}
use Rattle.model.proofs.Iso.Scenes.{client, server, everyone, server_in, default, long_seeds, two_levels, reserved_level, guarded_periodic, long_p2, subscribed, crowded, watched, pending_for, busy, frame, asks, acts, reads, seed, to}

-- a case: a state, a request, the frames that the definition sends, and those that the standard sends
record Case : Type 0 where
  state : State
  request : Request
  ours : List Frame
  standards : List Frame

abbrev case : State → Request → List Frame → List Frame → Case
case s r ours standards = record { state = s; request = r; ours = ours; standards = standards }

-- testerPresent without its sub-function is answered
abbrev tester_present_short : Case
tester_present_short =
    case default (asks (0x3E ∷ []))
    (to client (0x7E ∷ 0x00 ∷ []))
    (to client (Iso.negative 0x3E Iso.incorrect_message_length_or_invalid_format))

-- testerPresent echoes a sub-function other than 00
abbrev tester_present_value : Case
tester_present_value =
    case default (asks (0x3E ∷ 0x01 ∷ []))
    (to client (0x7E ∷ 0x01 ∷ []))
    (to client (Iso.negative 0x3E Iso.sub_function_not_supported))

-- bytes behind a request are passed over
abbrev trailing_bytes : Case
trailing_bytes =
    case default (asks (0x10 ∷ 0x03 ∷ 0x00 ∷ []))
    (to client (0x50 ∷ 0x03 ∷ 0x00 ∷ 0x32 ∷ 0x01 ∷ 0xF4 ∷ []))
    (to client (Iso.negative 0x10 Iso.incorrect_message_length_or_invalid_format))

-- the response to reset type 04 has no powerDownTime: FF says that none is known
abbrev power_down_time : Case
power_down_time = case default (asks (0x11 ∷ 0x04 ∷ [])) (to client (0x51 ∷ 0x04 ∷ [])) (to client (0x51 ∷ 0x04 ∷ 0xFF ∷ []))

-- communicationControl 04 and 05 need no node number
abbrev node_number : Case
node_number =
    case default (asks (0x28 ∷ 0x04 ∷ 0x01 ∷ []))
    (to client (0x68 ∷ 0x04 ∷ []))
    (to client (Iso.negative 0x28 Iso.incorrect_message_length_or_invalid_format))

-- reading stops at an identifier that is not supported, though another one is
abbrev read-first_unsupported : Case
read-first_unsupported =
    case default (reads (0x22 ∷ 0xF1 ∷ 0x91 ∷ 0xF2 ∷ 0x01 ∷ []) 0xF201)
    (to client (Iso.negative 0x22 Iso.request_out_of_range))
    (to client (0x62 ∷ 0xF2 ∷ 0x01 ∷ 0x2A ∷ []))

-- a higher level opens what a lower one guards
abbrev level_order : Case
level_order =
    case (server_in two_levels 3 5) (reads (0x22 ∷ 0xF1 ∷ 0x90 ∷ []) 0xF190)
    (to client (0x62 ∷ 0xF1 ∷ 0x90 ∷ 0x2A ∷ []))
    (to client (Iso.negative 0x22 Iso.security_access_denied))

-- securityAccess ignores the suppress bit
abbrev suppressed-seed : Case
suppressed-seed = case (server_in fixed_config 3 0) (acts (0x27 ∷ 0x83 ∷ []) seed) (to client (0x67 ∷ 0x03 ∷ seed)) []

-- a level that is held already is given another seed
abbrev zero-seed : Case
zero-seed =
    case (server_in fixed_config 3 3) (acts (0x27 ∷ 0x03 ∷ []) seed)
    (to client (0x67 ∷ 0x03 ∷ seed))
    (to client (0x67 ∷ 0x03 ∷ 0x00 ∷ 0x00 ∷ 0x00 ∷ 0x00 ∷ []))

-- a key of an access type that is not configured comes out of sequence
abbrev unknown_key_type : Case
unknown_key_type =
    case (server_in fixed_config 3 0) (asks (0x27 ∷ 0x02 ∷ []))
    (to client (Iso.negative 0x27 Iso.request_sequence_error))
    (to client (Iso.negative 0x27 Iso.sub_function_not_supported))

-- a seed of 32 bytes is too long
abbrev seed-of_32 : Case
seed-of_32 =
    case (server_in long_seeds 3 0) (acts (0x27 ∷ 0x03 ∷ []) (replicate 32 1))
    (to client (Iso.negative 0x27 Iso.response_too_long))
    (to client (0x67 ∷ 0x03 ∷ replicate 32 1))

-- the fixed configuration has securityAccess in the default session
abbrev default_session_lem : Case
default_session_lem =
    case default (acts (0x27 ∷ 0x03 ∷ []) seed)
    (to client (0x67 ∷ 0x03 ∷ seed))
    (to client (Iso.negative 0x27 Iso.service_not_supported_in_active_session))

-- the response to readDataByPeriodicIdentifier carries the mode
abbrev periodic-mode-echoed : Case
periodic-mode-echoed = case default (asks (0x2A ∷ 0x04 ∷ [])) (to client (0x6A ∷ 0x04 ∷ [])) (to client (0x6A ∷ []))

-- modes 01 to 03 need no identifier
abbrev periodic_no_identifier : Case
periodic_no_identifier =
    case default (asks (0x2A ∷ 0x01 ∷ []))
    (to client (0x6A ∷ 0x01 ∷ []))
    (to client (Iso.negative 0x2A Iso.incorrect_message_length_or_invalid_format))

-- a mode that there is not is refused as a sub-function
abbrev periodic_unknown_mode : Case
periodic_unknown_mode =
    case default (asks (0x2A ∷ 0x05 ∷ []))
    (to client (Iso.negative 0x2A Iso.sub_function_not_supported))
    (to client (Iso.negative 0x2A Iso.request_out_of_range))

-- a guarded identifier is sent to a client that holds no level
abbrev periodic-level : Case
periodic-level =
    case (server_in guarded_periodic 3 0) (asks (0x2A ∷ 0x01 ∷ 0x02 ∷ []))
    (to client (0x6A ∷ 0x01 ∷ []))
    (to client (Iso.negative 0x2A Iso.security_access_denied))

-- with the table full, 31 is sent after a functional request too
abbrev periodic-full : Case
periodic-full =
    case crowded (frame everyone (0x2A ∷ 0x01 ∷ 0x01 ∷ []) given0 empty_table)
    (to client (Iso.negative 0x2A Iso.request_out_of_range))
    []

-- requestDownload accepts an address and a size of no bytes
abbrev download_no_lengths : Case
download_no_lengths =
    case (server_in fixed_config 3 0) (acts (0x34 ∷ 0x00 ∷ 0x00 ∷ 0x00 ∷ []) (0x10 ∷ 0x40 ∷ []))
    (to client (0x74 ∷ 0x10 ∷ 0x40 ∷ []))
    (to client (Iso.negative 0x34 Iso.request_out_of_range))

-- a path that the request cuts off is taken as empty
abbrev file_path_cut : Case
file_path_cut =
    case (server_in fixed_config 3 0) (acts (0x38 ∷ 0x01 ∷ 0x00 ∷ 0x05 ∷ 0x41 ∷ []) (0x01 ∷ []))
    (to client (0x78 ∷ 0x01 ∷ []))
    (to client (Iso.negative 0x38 Iso.incorrect_message_length_or_invalid_format))

-- the control parameter is not echoed: the act's bytes are to begin with it
abbrev control_parameter : Case
control_parameter =
    case (server_in fixed_config 3 0) (asks (0x2F ∷ 0xF1 ∷ 0x90 ∷ 0x03 ∷ []))
    (to client (0x6F ∷ 0xF1 ∷ 0x90 ∷ []))
    (to client (0x6F ∷ 0xF1 ∷ 0x90 ∷ 0x03 ∷ []))

-- an act's bytes that no frame can carry are conditionsNotCorrect
abbrev act_too_long : Case
act_too_long =
    case (server_in fixed_config 3 0) (acts (0x37 ∷ []) (replicate 257 0))
    (to client (Iso.negative 0x37 Iso.conditions_not_correct))
    (to client (Iso.negative 0x37 Iso.response_too_long))

-- busyRepeatRequest goes to the address that was called
abbrev busy_address : Case
busy_address =
    case busy (asks (0x3E ∷ 0x00 ∷ []))
    (to server (Iso.negative 0x3E Iso.busy_repeat_request))
    (to client (Iso.negative 0x3E Iso.busy_repeat_request))

-- a suppressed testerPresent to everyone is answered while a request is pending
abbrev busy_tester_present : Case
busy_tester_present =
    case busy (frame everyone (0x3E ∷ 0x80 ∷ []) given0 empty_table)
    (to everyone (Iso.negative 0x3E Iso.busy_repeat_request))
    []

-- a level 7F can be configured, though its access type is reserved
abbrev reserved_level_departs : Case
reserved_level_departs =
    case (server_in reserved_level 3 0) (acts (0x27 ∷ 0x7F ∷ []) seed)
    (to client (0x67 ∷ 0x7F ∷ seed))
    (to client (Iso.negative 0x27 Iso.sub_function_not_supported))

-- which routine controls there are is left to the act
abbrev routine_sub_function : Case
routine_sub_function =
    case default (asks (0x31 ∷ 0x05 ∷ 0xF0 ∷ 0x01 ∷ []))
    (to client (0x71 ∷ 0x05 ∷ 0xF0 ∷ 0x01 ∷ []))
    (to client (Iso.negative 0x31 Iso.sub_function_not_supported))

-- the fields of requestFileTransfer's response are left to the act, the mode too: the standard's are here a mode, a length's format, a length and a data format
abbrev file_mode : Case
file_mode =
    case (server_in fixed_config 3 0) (asks (0x38 ∷ 0x01 ∷ 0x00 ∷ 0x01 ∷ 0x41 ∷ []))
    (to client (0x78 ∷ []))
    (to client (0x78 ∷ 0x01 ∷ 0x01 ∷ 0x40 ∷ 0x00 ∷ []))

-- whether a transfer was begun is left to the act
abbrev transfer_order : Case
transfer_order =
    case (server_in fixed_config 3 0) (asks (0x36 ∷ 0x05 ∷ 0x00 ∷ []))
    (to client (0x76 ∷ 0x05 ∷ []))
    (to client (Iso.negative 0x36 Iso.request_sequence_error))

abbrev cases : List Case
cases =
    tester_present_short
    ∷ tester_present_value
    ∷ trailing_bytes
    ∷ power_down_time
    ∷ node_number
    ∷ read-first_unsupported
    ∷ level_order
    ∷ suppressed-seed
    ∷ zero-seed
    ∷ unknown_key_type
    ∷ seed-of_32
    ∷ default_session_lem
    ∷ periodic-mode-echoed
    ∷ periodic_no_identifier
    ∷ periodic_unknown_mode
    ∷ periodic-level
    ∷ periodic-full
    ∷ download_no_lengths
    ∷ file_path_cut
    ∷ control_parameter
    ∷ act_too_long
    ∷ busy_address
    ∷ busy_tester_present
    ∷ reserved_level_departs
    ∷ routine_sub_function
    ∷ file_mode
    ∷ transfer_order
    ∷ []

-- two lists are the same, by a test on their elements
abbrev alike : {A : Type 0} → (A → A → Bool) → List A → List A → Bool
alike f [] [] = true
alike f [] (b ∷ m) = false
alike f (a ∷ l) [] = false
alike f (a ∷ l) (b ∷ m) = f a b && alike f l m

abbrev same_frame : Frame → Frame → Bool
same_frame a b = eqb a.dst b.dst && alike eqb a.bytes b.bytes

-- what the definition sends in a case
abbrev sends : Case → List Frame
sends c = (request max_frame c.state c.request).step.state.queue

abbrev ours : Case → List Frame
ours c = c.ours

abbrev agrees : Case → Bool
agrees c = alike same_frame c.ours c.standards

-- in every case the definition sends what stands there, and that is not what the standard sends
pub departs : (map sends cases ≡ map ours cases) × (map agrees cases ≡ replicate (length cases) false)
unfolding whole
departs = (refl, refl)

-- the high nibble of the format is taken for the address's length: of 34 00 12 AA BB CC the address is AA and the size BB CC, where the standard's are AA BB and CC
pub download_nibbles : (request max_frame (server_in fixed_config 3 0) (asks (0x34 ∷ 0x00 ∷ 0x12 ∷ 0xAA ∷ 0xBB ∷ 0xCC ∷ []))).act.arguments
    ≡ record { start = 1; len = 1 } ∷ record { start = 3; len = 1 } ∷ record { start = 4; len = 2 } ∷ []
unfolding whole
download_nibbles = refl

-- P2 is cut to its low 16 bits: 70000 ms is sent as 1170, which is 4464 ms
pub p2_cut : (request max_frame (server_in long_p2 1 0) (asks (0x10 ∷ 0x01 ∷ []))).step.state.queue ≡ to client (0x50 ∷ 0x01 ∷ 0x11 ∷ 0x70 ∷ 0x01 ∷ 0xF4 ∷ [])
unfolding whole
p2_cut = refl

-- a guarded identifier is subscribed for a client that holds no level
pub periodic-level-sent : (request max_frame (server_in guarded_periodic 3 0) (asks (0x2A ∷ 0x01 ∷ 0x02 ∷ []))).step.state.periodic
    ≡ record { identifier = 0xF202; client = client; interval = 2000; next = 2100 } ∷ []
unfolding whole
periodic-level-sent = refl

-- mode 04 with no identifiers stops nothing, where the standard stops all: the asking client's own stays
pub stop_all : (request max_frame watched (asks (0x2A ∷ 0x04 ∷ []))).step.state.periodic ≡ subscribed 6000 client ∷ []
unfolding whole
stop_all = refl

-- subscriptions outlive their session, where the standard stops them: here it ends by S3
pub subscriptions_outlive : ((tick max_frame watched 5001 empty_table).step.state.session.session_type ≡ Iso.default_session)
    × ((tick max_frame watched 5001 empty_table).step.state.periodic ≡ subscribed 6000 client ∷ [])
unfolding whole
subscriptions_outlive = (refl, refl)

-- S3 runs while a request is pending, where the standard stops it: the session ends under the request, for which 78 was sent again at 5000
pub s3_while_pending : ((tick max_frame (pending_for 0x31 10000) 5001 empty_table).step.state.session.session_type ≡ Iso.default_session)
    × ((tick max_frame (pending_for 0x31 10000) 5001 empty_table).step.state.pending ≡ (pending_for 0x31 10000).pending)
unfolding whole
s3_while_pending = (refl, refl)

-- a reset that was pending is answered, and the session stays, where the standard's is the default one
pub pending-reset : ((complete max_frame (pending_for 0x11 5000) 200 (0x01 ∷ [])).state.queue ≡ to client (0x51 ∷ 0x01 ∷ []))
    × ((complete max_frame (pending_for 0x11 5000) 200 (0x01 ∷ [])).state.session.session_type ≡ 3)
unfolding whole
pending-reset = (refl, refl)

-- a pending request can be failed with 78, which ends it: no final response follows
pub failed_with_78 : ((fail max_frame busy 200 0x78).state.queue ≡ to client (Iso.pending_message 0x31)) × ((fail max_frame busy 200 0x78).state.pending ≡ none)
unfolding whole
failed_with_78 = (refl, refl)
