-- What a worker answers, and what its reader has learned.
use Rattle.std.specs.Prelude.{◌≡◌, ◌+◌, ◌<◌, ◌≤◌, ◌^◌, ◌↔◌, ◌⊎◌, ℕ, Bool, true, List, [], ◌∷◌, ◌++◌, map, length, slice_index_or, All}
use Rattle.std.specs.List.{list_any}
use Rattle.bounded_table.specs.Known.{Extends}
use Rattle.cost_model.specs.declared.params.Params.{Params}
use Rattle.grid_index.specs.GridOf.{GridOf}
use Rattle.match_text.specs.declared.matched.MatchedTrace.{MatchedTrace}
use Rattle.road_network.specs.Net.{Net}
use Rattle.row_store.specs.Store.{Reading, knows, rows_seen}
use Rattle.tickets.specs.Tickets.{Drawn, Opened, IsOpenTicket}
use Rattle.trace_match.specs.Ground.{IsGridFor}
use Rattle.trace_match.specs.Match.{asks, match_of}
use Rattle.trace_reader.specs.declared.trace.Trace.{Trace}
use Rattle.trace_reader.specs.Trace.{IsLawfulTrace}
use Rattle.match_pool.specs.declared.worker.Done.{Done}

-- what is matched: these traces, the first of which has this place in the file
pub record Job : Type 0 where
  pub network : Net
  pub params : Params
  pub first : ℕ
  pub traces : List Trace

abbrev pub job : Net → Params → ℕ → List Trace → Job
job n p first traces = record { network = n; params = p; first = first; traces = traces }

-- as many traces as a job may have, and the places that the first may have
pub record AreJobTraces (first : ℕ) (traces : List Trace) : Type 0 where
  pub first_place : first ≤ 2 ^ 63
  pub few : length traces ≤ 2 ^ 32
  pub lawful : All IsLawfulTrace traces

-- the ticket is one of these claims, on a number for each trace, and has not ended
pub record CanDraw (count : ℕ) (claims : Opened) (ticket : Drawn) : Type 0 where
  pub all : claims.count ≡ count
  pub own : ticket.claims ≡ claims.name
  pub opened : IsOpenTicket claims.count ticket

-- the reader is of a store for this network, and returns rows within the bound of these options
pub record IsReaderFor (n : Net) (p : Params) (reader : Reading) : Type 0 where
  pub network : reader.store.network ≡ n
  pub bound : reader.store.bound ≡ p.bound

-- the reader is of the same store, what it knew it knows, and a row that it saw in a slot it sees there
pub record StaysReader (before after : Reading) : Type 0 where
  pub store : after.store ≡ before.store
  pub known : (v : ℕ) → knows before v ≡ true → knows after v ≡ true
  pub held : Extends (rows_seen before) (rows_seen after)

-- whether some trace of the job asks for the row of node v
abbrev pub is_asked_in : Job → ℕ → Bool
is_asked_in j v = list_any (λ (t : Trace). asks j.network j.params t v) j.traces

-- what the reader knows it knew before, or a trace of the job asks for it
abbrev pub LearnsOnly : Job → Reading → Reading → Type 0
LearnsOnly j before after = (v : ℕ) → knows after v ≡ true → (knows before v ≡ true) ⊎ (is_asked_in j v ≡ true)

-- the reader is as `StaysReader` says, and knows nothing more but what the job's traces ask for
pub record ReadsWithin (j : Job) (before after : Reading) : Type 0 where
  pub stays : StaysReader before after
  pub only : LearnsOnly j before after

-- the reader is as `ReadsWithin` says, and the ticket is of the same claims
pub record KeepsClaims (j : Job) (before : Reading) (ticket : Drawn) (after : Reading) (ticket' : Drawn) : Type 0 where
  pub reader : ReadsWithin j before after
  pub claims : ticket'.claims ≡ ticket.claims

-- these traces can be matched on this network with this grid
pub record CanMatch (n : Net) (p : Params) (grid : GridOf) (first : ℕ) (batch : List Trace) : Type 0 where
  pub ground : IsGridFor n p grid
  pub traces : AreJobTraces first batch

-- the value for a trace past the end
abbrev pub no_trace : Trace
no_trace = record { id = 0; fixes = [] }

abbrev pub job_trace : Job → ℕ → Trace
job_trace j k = slice_index_or j.traces k no_trace

-- the match of the trace of this number
abbrev pub matched_at : Job → ℕ → MatchedTrace
matched_at j k = match_of j.network j.params (job_trace j k)

-- the answer for the trace of this number, where `matched` has the matches by number
abbrev pub done_by : ℕ → (ℕ → MatchedTrace) → ℕ → Done
done_by first matched k = record { place = first + k; matched = matched k }

-- whether the trace of this number asks for the row of node v
abbrev pub asks_at : Job → ℕ → ℕ → Bool
asks_at j v k = asks j.network j.params (job_trace j k) v

-- the reader knows what it knew, and what the traces of these numbers ask for
abbrev pub ReaderLearnsAsked : Job → List ℕ → Reading → Reading → Type 0
ReaderLearnsAsked j numbers before after =
    (v : ℕ) → (knows after v ≡ true) ↔ ((knows before v ≡ true) ⊎ (list_any (asks_at j v) numbers ≡ true))

-- The ticket drew some numbers, in this order, and then one too great. The answers are those of the
-- traces of these numbers, and what they ask for became known.
pub record Works (j : Job) (reader : Reading) (ticket : Drawn) (done : List Done) (reader' : Reading)
    (ticket' : Drawn) : Type 0 where
  pub numbers : List ℕ
  pub last : ℕ
  pub drawn : ticket'.numbers ≡ ticket.numbers ++ (numbers ++ last ∷ [])
  pub below : All (λ k. k < length j.traces) numbers
  pub above : length j.traces ≤ last
  pub answers : done ≡ map (done_by j.first (matched_at j)) numbers
  pub learns : ReaderLearnsAsked j numbers reader reader'
