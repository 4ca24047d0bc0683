-- What ISO 14229-1 fixes of the fourteen services. Nothing here rests on the server's definition; the theorems of proofs/Iso compare the two.
-- It is written from working knowledge of the standard (2013 and 2020), which is not quoted. Clauses are those of the 2013 edition, and are named only where they are known.
-- A byte is a number below 256, a message a list of bytes, and times are in milliseconds.
use Rattle.std.specs.Prelude.{ℕ, ◌+◌, ◌*◌, ◌/◌, ◌%◌, ◌<◌, ◌≡◌, Bool, true, false, ◌&&◌, ◌||◌, List, [], ◌∷◌, ◌++◌, length, nat_eq, nat_le}

-- Words used below: x is listed, and every element of a list has a property.
abbrev pub listed : List ℕ → ℕ → Bool
listed [] x = false
listed (y ∷ ys) x = nat_eq y x || listed ys x

abbrev pub Every : {A : Type 0} → (A → Type 0) → List A → Type 0
Every P [] = Unit {0}
Every P (x ∷ xs) = P x × Every P xs

-- a number below 65536 as two bytes, high byte first, and back
abbrev pub two_bytes : ℕ → List ℕ
two_bytes n = n / 256 ∷ n % 256 ∷ []

abbrev pub unsigned : ℕ → ℕ → ℕ
unsigned high low = high * 256 + low

-- SERVICES: the fourteen that are compared, by their identifiers.
abbrev pub diagnostic_session_control : ℕ
diagnostic_session_control = 0x10

abbrev pub ecu_reset : ℕ
ecu_reset = 0x11

abbrev pub read_data_by_identifier : ℕ
read_data_by_identifier = 0x22

abbrev pub security_access : ℕ
security_access = 0x27

abbrev pub communication_control : ℕ
communication_control = 0x28

abbrev pub read_data_by_periodic_identifier : ℕ
read_data_by_periodic_identifier = 0x2A

abbrev pub write_data_by_identifier : ℕ
write_data_by_identifier = 0x2E

abbrev pub input_output_control_by_identifier : ℕ
input_output_control_by_identifier = 0x2F

abbrev pub routine_control : ℕ
routine_control = 0x31

abbrev pub request_download : ℕ
request_download = 0x34

abbrev pub transfer_data : ℕ
transfer_data = 0x36

abbrev pub request_transfer_exit : ℕ
request_transfer_exit = 0x37

abbrev pub request_file_transfer : ℕ
request_file_transfer = 0x38

abbrev pub tester_present : ℕ
tester_present = 0x3E

-- bit 6 is clear in the identifier of a request: it is set in that of its response
abbrev pub RequestIdentifier : ℕ → Type 0
RequestIdentifier sid = sid % 128 < 64

-- those whose first byte after the identifier is a sub-function, and those that have none
abbrev pub with_sub_function : List ℕ
with_sub_function = diagnostic_session_control ∷ ecu_reset ∷ security_access ∷ communication_control ∷ routine_control ∷ tester_present ∷ []

abbrev pub without_sub_function : List ℕ
without_sub_function =
    read_data_by_identifier ∷ read_data_by_periodic_identifier ∷ write_data_by_identifier ∷ input_output_control_by_identifier
    ∷ request_download ∷ transfer_data ∷ request_transfer_exit ∷ request_file_transfer ∷ []

abbrev pub services : List ℕ
services = with_sub_function ++ without_sub_function

-- NEGATIVE RESPONSE CODES (annex A.1), each with the situation in which it is sent.
-- the server does not support the service
abbrev pub service_not_supported : ℕ
service_not_supported = 0x11

-- it supports the service, but not the sub-function
abbrev pub sub_function_not_supported : ℕ
sub_function_not_supported = 0x12

-- the request's length is not one that the service has, or its format is not
abbrev pub incorrect_message_length_or_invalid_format : ℕ
incorrect_message_length_or_invalid_format = 0x13

-- the response would be longer than the transport can carry
abbrev pub response_too_long : ℕ
response_too_long = 0x14

-- the server is busy: the client is to repeat the request
abbrev pub busy_repeat_request : ℕ
busy_repeat_request = 0x21

-- the server's conditions for the action are not met
abbrev pub conditions_not_correct : ℕ
conditions_not_correct = 0x22

-- another request should have come before this one, as a seed's before its key's
abbrev pub request_sequence_error : ℕ
request_sequence_error = 0x24

-- a parameter, such as an identifier, is not supported, or not in the active session
abbrev pub request_out_of_range : ℕ
request_out_of_range = 0x31

-- the security level that is needed is not unlocked
abbrev pub security_access_denied : ℕ
security_access_denied = 0x33

-- the key is not the one that the seed asks for
abbrev pub invalid_key : ℕ
invalid_key = 0x35

-- it was not, once too often
abbrev pub exceeded_number_of_attempts : ℕ
exceeded_number_of_attempts = 0x36

-- the delay after too many attempts still runs
abbrev pub required_time_delay_not_expired : ℕ
required_time_delay_not_expired = 0x37

abbrev pub upload_download_not_accepted : ℕ
upload_download_not_accepted = 0x70

abbrev pub transfer_data_suspended : ℕ
transfer_data_suspended = 0x71

abbrev pub general_programming_failure : ℕ
general_programming_failure = 0x72

abbrev pub wrong_block_sequence_counter : ℕ
wrong_block_sequence_counter = 0x73

-- the request is understood and its final response will follow
abbrev pub request_correctly_received_response_pending : ℕ
request_correctly_received_response_pending = 0x78

-- the sub-function is supported, but not in the active session
abbrev pub sub_function_not_supported_in_active_session : ℕ
sub_function_not_supported_in_active_session = 0x7E

-- the service is supported, but not in the active session
abbrev pub service_not_supported_in_active_session : ℕ
service_not_supported_in_active_session = 0x7F

-- RESPONSES: a positive one is the request's service identifier plus 0x40, then the service's own fields
abbrev pub positive : ℕ → List ℕ → List ℕ
positive sid fields = (sid + 0x40) ∷ fields

-- a negative one is 7F, the request's service identifier, a code
abbrev pub negative : ℕ → ℕ → List ℕ
negative sid code = 0x7F ∷ sid ∷ code ∷ []

-- the codes that are not sent after a functionally addressed request: every other code is
abbrev pub not_sent_functionally : List ℕ
not_sent_functionally =
    service_not_supported ∷ sub_function_not_supported ∷ request_out_of_range ∷ sub_function_not_supported_in_active_session ∷ service_not_supported_in_active_session ∷ []

-- what a service answers: nothing, its fields, or a code
pub data Response : Type 0 where
  no_response : Response
  positive_response : List ℕ → Response
  negative_response : ℕ → Response

-- a message unless a test holds, and one of two messages by a test
abbrev pub unless : Bool → List ℕ → List (List ℕ)
unless true m = []
unless false m = m ∷ []

abbrev pub fitting : Bool → List ℕ → List ℕ → List (List ℕ)
fitting true m n = m ∷ []
fitting false m n = n ∷ []

-- the messages that an answer sends: how the request was addressed, the longest message, the service
abbrev pub messages : Bool → ℕ → ℕ → Response → List (List ℕ)
messages functionally longest sid no_response = []
messages functionally longest sid (positive_response fields) = fitting (nat_le (length (positive sid fields)) longest) (positive sid fields) (negative sid response_too_long)
messages functionally longest sid (negative_response code) = unless (functionally && listed not_sent_functionally code) (negative sid code)

-- SUB-FUNCTION: bit 7 is suppressPosRspMsgIndicationBit, bits 6 to 0 are the value
abbrev pub suppress_pos_rsp_msg_indication_bit : ℕ → Bool
suppress_pos_rsp_msg_indication_bit byte = nat_eq (byte / 128) 1

abbrev pub sub_function_value : ℕ → ℕ
sub_function_value byte = byte % 128

-- the bit keeps a positive response from being sent, and no other
abbrev pub suppressing : Bool → List ℕ → Response
suppressing true fields = no_response
suppressing false fields = positive_response fields

abbrev pub unless_suppressed : ℕ → List ℕ → Response
unless_suppressed byte fields = suppressing (suppress_pos_rsp_msg_indication_bit byte) fields

-- REQUESTS: the shortest of each service, its identifier counted; a shorter one is incorrectMessageLengthOrInvalidFormat
pub record Shortest : Type 0 where
  pub service : ℕ
  pub bytes : ℕ

abbrev pub shortest : ℕ → ℕ → Shortest
shortest sid n = record { service = sid; bytes = n }

-- identifiers have two bytes; a written record, a control parameter, a memory address and size and a path have at least one
abbrev pub shortest_requests : List Shortest
shortest_requests =
    shortest diagnostic_session_control 2
    ∷ shortest ecu_reset 2
    ∷ shortest read_data_by_identifier 3
    ∷ shortest security_access 2
    ∷ shortest communication_control 3
    ∷ shortest read_data_by_periodic_identifier 2
    ∷ shortest write_data_by_identifier 4
    ∷ shortest input_output_control_by_identifier 4
    ∷ shortest routine_control 4
    ∷ shortest request_download 5
    ∷ shortest transfer_data 2
    ∷ shortest request_transfer_exit 1
    ∷ shortest request_file_transfer 5
    ∷ shortest tester_present 2
    ∷ []

-- FIELDS of the positive responses, after the response's identifier.
-- diagnosticSessionControl (9.2): the session, P2 in steps of 1 ms, P2* in steps of 10 ms, two bytes each
abbrev pub session_fields : ℕ → ℕ → ℕ → List ℕ
session_fields session p2 p2_star = session ∷ (two_bytes p2 ++ two_bytes p2_star)

-- ecuReset (9.3), communicationControl (9.5), testerPresent (9.6): the sub-function's value
abbrev pub value_fields : ℕ → List ℕ
value_fields value = value ∷ []

-- securityAccess (9.4): the access type, and after a request for a seed the seed
abbrev pub seed_fields : ℕ → List ℕ → List ℕ
seed_fields access_type seed = access_type ∷ seed

abbrev pub key_fields : ℕ → List ℕ
key_fields access_type = access_type ∷ []

-- readDataByIdentifier (10.2): of each identifier in the request its two bytes and its record. `Record x r` says that r is the record of x
pub data DataFields (Record : ℕ → List ℕ → Type 0) : List ℕ → List ℕ → Type 0 where
  no_more : DataFields Record [] []
  and_then : {h l : ℕ} {r ids fields : List ℕ} → Record (unsigned h l) r → DataFields Record ids fields → DataFields Record (h ∷ l ∷ ids) (h ∷ l ∷ (r ++ fields))

-- writeDataByIdentifier (10.7): the identifier
abbrev pub write_fields : ℕ → ℕ → List ℕ
write_fields h l = h ∷ l ∷ []

-- inputOutputControlByIdentifier (12.2): the identifier, then the control parameter and the state
abbrev pub control_fields : ℕ → ℕ → List ℕ → List ℕ
control_fields h l status = h ∷ l ∷ status

-- routineControl (13.2): the sub-function's value, the routine's identifier, its record
abbrev pub routine_fields : ℕ → ℕ → ℕ → List ℕ → List ℕ
routine_fields value h l record' = value ∷ h ∷ l ∷ record'

-- transferData (14.4): the block sequence counter, then data
abbrev pub transfer_fields : ℕ → List ℕ → List ℕ
transfer_fields counter data' = counter ∷ data'

-- requestDownload (14.2): in the high nibble of a byte how many bytes the longest block's length has, then that length
abbrev pub download_fields : List ℕ → List ℕ
download_fields block_length = (length block_length * 16) ∷ block_length

-- requestTransferExit (14.5): a record; requestFileTransfer (14.6): the mode of operation, and what the mode asks
abbrev pub exit_fields : List ℕ → List ℕ
exit_fields record' = record'

abbrev pub file_fields : ℕ → List ℕ → List ℕ
file_fields mode more = mode ∷ more

-- SECURITY ACCESS: an odd access type asks a seed, the next even one sends its key; 0 is reserved
abbrev pub requests_seed : ℕ → Type 0
requests_seed access_type = access_type % 2 ≡ 1

abbrev pub key_type_of : ℕ → ℕ
key_type_of seed_type = seed_type + 1

-- PERIODIC READING (10.5, annex C.4): transmission modes
abbrev pub send_at_slow_rate : ℕ
send_at_slow_rate = 0x01

abbrev pub send_at_medium_rate : ℕ
send_at_medium_rate = 0x02

abbrev pub send_at_fast_rate : ℕ
send_at_fast_rate = 0x03

abbrev pub stop_sending : ℕ
stop_sending = 0x04

-- a periodic identifier is the low byte of an identifier F2xx
abbrev pub periodic_identifier : ℕ → ℕ
periodic_identifier low = 0xF200 + low

-- a periodic message is the low byte, then the record, with no service identifier
abbrev pub periodic_message : ℕ → List ℕ → List ℕ
periodic_message low record' = low ∷ record'

-- S3: the server is in the default session again, and locked, when no request came for longer than S3
abbrev pub default_session : ℕ
default_session = 0x01

-- the level that is held when security is locked
abbrev pub locked_level : ℕ
locked_level = 0

abbrev pub S3Elapsed : ℕ → ℕ → ℕ → Type 0
S3Elapsed s3 last_request now = last_request + s3 < now

-- PENDING: a response pending message, after which the next one, or the final response, is due within P2*
abbrev pub pending_message : ℕ → List ℕ
pending_message sid = negative sid request_correctly_received_response_pending

abbrev pub next_due : ℕ → ℕ → ℕ
next_due p2_star now = now + p2_star

-- the final response is sent however the request was addressed
abbrev pub final_messages : ℕ → ℕ → Response → List (List ℕ)
final_messages longest sid r = messages false longest sid r
