-- The line and status of each ending.
use Rattle.std.specs.Prelude.{◌≡◌, ℕ, List, [], Result, Ok, Err, IsOk}
use Rattle.edge_io.specs.Sink.{Puts}
use Rattle.edge_io.specs.State.{SinkState}
use Rattle.edge_io.specs.declared.sink.Put.{Put}
use Rattle.edge_io.specs.declared.sink.Put.TheVariants.{All, Failed, NoMemory as no_room}
use Rattle.program_frame.specs.Lines.{memory_line, network_unread_line, table_unread_line, traces_unread_line, certificate_unread_line, write_line}
use Rattle.program_frame.specs.declared.stop.File.{File}
use Rattle.program_frame.specs.declared.stop.File.TheVariants.{Network, Table, Traces, Certificate}
use Rattle.program_frame.specs.declared.stop.Refusal.{Refusal}
use Rattle.program_frame.specs.declared.stop.Refusal.TheVariants as refusals
use Rattle.program_frame.specs.declared.stop.Stop.{Stop}
use Rattle.program_frame.specs.declared.stop.Stop.TheVariants.{Refused, NoMemory, Unread, Unwritten}

abbrev pub unread_line : File → List ℕ
unread_line Network = network_unread_line
unread_line Table = table_unread_line
unread_line Traces = traces_unread_line
unread_line Certificate = certificate_unread_line

abbrev pub refusal_status : Refusal → ℕ
refusal_status refusals.Words = 2
refusal_status refusals.Network = 5
refusal_status refusals.Traces = 6
refusal_status refusals.Certificate = 7
refusal_status refusals.TooLong = 8
refusal_status refusals.Table = 9

abbrev pub stop_line : Stop → List ℕ
stop_line (Refused refusal line) = line
stop_line NoMemory = memory_line
stop_line (Unread file) = unread_line file
stop_line Unwritten = write_line

abbrev pub stop_status : Stop → ℕ
stop_status (Refused refusal line) = refusal_status refusal
stop_status NoMemory = 1
stop_status (Unread file) = 3
stop_status Unwritten = 4

-- the line that is put on err
abbrev pub line_of_result : Result (Unit {0}) Stop → List ℕ
line_of_result (Ok done) = []
line_of_result (Err stop) = stop_line stop

-- the status after the put of the line
abbrev pub stop_status_after : Stop → Put → ℕ
stop_status_after stop All = stop_status stop
stop_status_after stop Failed = 4
stop_status_after (Refused refusal line) no_room = 1
stop_status_after NoMemory no_room = 1
stop_status_after (Unread file) no_room = 1
stop_status_after Unwritten no_room = 4

abbrev pub status_after : Result (Unit {0}) Stop → Put → ℕ
status_after (Ok done) put = 0
status_after (Err stop) put = stop_status_after stop put

-- the line of an ending was put on err, and this is the status
pub record Reports (err err' : SinkState) (ended : Result (Unit {0}) Stop) (status : ℕ) : Type 0 where
  pub put : Put
  pub puts : Puts err err' (line_of_result ended) put
  pub quiet : IsOk ended → put ≡ All
  pub is : status ≡ status_after ended put

-- no work was begun for want of memory: its line was put on err, and this is the status
abbrev pub IsStarved : SinkState → SinkState → ℕ → Type 0
IsStarved err err' status = Reports err err' (Err NoMemory) status

-- this refusal with this line, or want of memory
abbrev pub IsRefusalOr : Refusal → List ℕ → Stop → Type 0
IsRefusalOr refusal line (Refused r l) = (r ≡ refusal) × (l ≡ line)
IsRefusalOr refusal line NoMemory = Unit {0}
IsRefusalOr refusal line (Unread file) = ⊥
IsRefusalOr refusal line Unwritten = ⊥

-- this refusal with this line of a fault that has one, or want of memory
abbrev pub RefusesFault : Refusal → (has_line : Type 0) → List ℕ → Stop → Type 0
RefusesFault refusal has_line line (Refused r l) = has_line × (r ≡ refusal) × (l ≡ line)
RefusesFault refusal has_line line NoMemory = Unit {0}
RefusesFault refusal has_line line (Unread file) = ⊥
RefusesFault refusal has_line line Unwritten = ⊥
