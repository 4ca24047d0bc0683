-- Trace form: records one after the other, what each makes a fixed server do, and the lines that are printed.
use Rattle.std.specs.Prelude.{ℕ, zero, suc, ◌+◌, ◌-◌, ◌*◌, Bool, false, ◌&&◌, List, [], ◌∷◌, ◌++◌, length, take, drop, get_or, nat_eq, nat_le}
use Rattle.model.specs.Tests.{pick, change_first}
use Rattle.model.specs.Numbers.{max_frame}
use Rattle.model.specs.Values.{ValueRow, Table, is_value, Given}
use Rattle.model.specs.Frame.{Frame}
use Rattle.model.specs.State.{State, Step, fresh_state, with_queue}
use Rattle.model.specs.Request.{Request, request}
use Rattle.model.specs.Tick.{tick}
use Rattle.model.specs.Fixed.{fixed_config}
use Rattle.model.specs.Text.{upper, hex, decimal, blank, line_end}

-- every number of a record is little-endian
abbrev pub little : List ℕ → ℕ
little [] = 0
little (b ∷ bytes) = b + 256 * little bytes

-- n bytes of the input from a place on
abbrev pub slice : List ℕ → ℕ → ℕ → List ℕ
slice input at n = take n (drop at input)

abbrev pub number : List ℕ → ℕ → ℕ → ℕ
number input at n = little (slice input at n)

-- a record: how long its body is (u16), its kind (u16), and where its body begins
pub record Entry : Type 0 where
  pub len : ℕ
  pub kind : ℕ
  pub body : ℕ

abbrev pub entry_at : List ℕ → ℕ → Entry
entry_at input at = record { len = number input at 2; kind = number input (at + 2) 2; body = at + 4 }

-- the length suits the kind: 1 has 16 bytes or more, 2 has 8, 3 has 1 or more, 4 has 3 or more; there is no other kind
unfoldable pub suits : ℕ → ℕ → Bool
suits kind len =
    pick (nat_eq kind 1) (nat_le 16 len)
    (pick (nat_eq kind 2) (nat_eq len 8)
    (pick (nat_eq kind 3) (nat_le 1 len)
    (pick (nat_eq kind 4) (nat_le 3 len) false)))

-- a record is good where it is not cut and its length suits its kind
abbrev pub good : List ℕ → ℕ → Bool
good input at = nat_le (at + 4) (length input) && (nat_le (at + 4 + (entry_at input at).len) (length input) && suits (entry_at input at).kind (entry_at input at).len)

-- what a trace holds between records: the server, the outcome of the next request, and a row of values for each identifier
pub record Held : Type 0 where
  pub server : State
  pub given : Given
  pub rows : List ValueRow

-- without an outcome an act gets error 0x22
abbrev pub unanswered : Given
unanswered = record { err = 0x22; bytes = [] }

-- a row without bytes
abbrev pub empty_row : ℕ → ValueRow
empty_row x = record { identifier = x; err = 0; start = 0; len = 0 }

-- at first: a fresh server of the fixed configuration, no outcome, and an empty row for each of its two identifiers
abbrev pub begun : Held
begun = record { server = fresh_state fixed_config; given = unanswered; rows = empty_row 0xF190 ∷ empty_row 0xF201 ∷ [] }

-- the values lie in the input itself
abbrev pub values_of : List ℕ → Held → Table
values_of input h = record { rows = h.rows; pool = input }

-- kind 1: u64 time, u32 source, u32 destination, frame
abbrev pub request_at : List ℕ → Held → Entry → Request
request_at input h e = record {
  inbound = record { time = number input e.body 8; src = number input (e.body + 8) 4; dst = number input (e.body + 12) 4; frame = slice input (e.body + 16) (e.len - 16) };
  given = h.given;
  table = values_of input h;
}

-- kind 3: an error byte and bytes, the outcome of the next request
abbrev pub outcome_at : List ℕ → Entry → Given
outcome_at input e = record { err = get_or input e.body 0; bytes = slice input (e.body + 1) (e.len - 1) }

-- kind 4: u16 identifier, an error byte and bytes; it takes the place of the identifier's row, and is ignored where there is none
abbrev pub row_at : List ℕ → Entry → ValueRow
row_at input e = record { identifier = number input e.body 2; err = get_or input (e.body + 2) 0; start = e.body + 3; len = e.len - 3 }

abbrev pub replaced : ValueRow → List ValueRow → List ValueRow
replaced r rows = change_first (is_value r.identifier) (λ old. r) rows

-- what a record leaves, and the lines that it prints
pub record Printed : Type 0 where
  pub lines : List ℕ
  pub held : Held

-- a line of a call: kind, result, session, level
abbrev pub call_line : ℕ → Step → List ℕ
call_line kind p =
    decimal kind ++ (blank ∷ decimal p.result ++ (blank ∷ decimal p.state.session.session_type ++ (blank ∷ decimal p.state.session.level ++ (line_end ∷ []))))

-- a line of a drained frame: `>`, destination, frame
abbrev pub frame_line : Frame → List ℕ
frame_line f = 62 ∷ blank ∷ decimal f.dst ++ (blank ∷ hex upper f.bytes ++ (line_end ∷ []))

abbrev pub frame_lines : List Frame → List ℕ
frame_lines [] = []
frame_lines (f ∷ q) = frame_line f ++ frame_lines q

-- after each call the server is drained
abbrev pub called : ℕ → Step → Given → List ValueRow → Printed
called kind p g rows = record {
  lines = call_line kind p ++ frame_lines p.state.queue;
  held = record { server = with_queue p.state []; given = g; rows = rows };
}

abbrev pub quiet : Held → Printed
quiet h = record { lines = []; held = h }

-- a request uses the outcome up, also one that asks no act; a tick does not
unfoldable pub stepped : List ℕ → Held → Entry → Printed
stepped input h e =
    pick (nat_eq e.kind 1) (called 1 (request max_frame h.server (request_at input h e)).step unanswered h.rows)
    (pick (nat_eq e.kind 2) (called 2 (tick max_frame h.server (number input e.body 8) (values_of input h)).step h.given h.rows)
    (pick (nat_eq e.kind 3) (quiet (record { server = h.server; given = outcome_at input e; rows = h.rows }))
    (quiet (record { server = h.server; given = h.given; rows = replaced (row_at input e) h.rows }))))

-- `bad`, and a line end
abbrev pub bad : List ℕ
bad = 98 ∷ 97 ∷ 100 ∷ line_end ∷ []

-- the lines from a place on. A record has four bytes at least, so no more records are looked at than there are bytes
abbrev pub traced : ℕ → List ℕ → ℕ → Held → List ℕ
traced zero input at h = []
traced (suc most) input at h =
    pick (nat_le (length input) at) []
    (pick (good input at) ((stepped input h (entry_at input at)).lines ++ traced most input (at + 4 + (entry_at input at).len) (stepped input h (entry_at input at)).held) bad)

-- at most so many bytes are read
abbrev pub max_trace : ℕ
max_trace = 65536

-- the whole output of a whole input
abbrev pub trace : List ℕ → List ℕ
trace input = traced (length (take max_trace input)) (take max_trace input) 0 begun
