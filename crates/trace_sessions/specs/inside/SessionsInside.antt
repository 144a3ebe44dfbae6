-- What many sessions are made of, and what is done to the session of one id.
use Rattle.std.specs.Prelude.{◌≡◌, ℕ, List, [], ◌∷◌, Some, nat_eq, unwrap_or}
use Rattle.std.specs.List.{IsDistinct}
use Rattle.std.specs.Map.{keys_of, lookup, remove_entry}
use Rattle.indexmap.specs.IndexMap.{insert_entry}
use Rattle.cost_model.specs.declared.params.Params.{Params}
use Rattle.road_network.specs.Net.{Net}
use Rattle.matching.specs.declared.parts.Layer.{Layer}
use Rattle.trace_match.specs.Ground.{IsGridFor}
use Rattle.online_commit.specs.declared.items.Item.{Item}
use Rattle.online_commit.specs.Session.{FeedsLayer, IsFinished, Session, no_points_of}
use Rattle.trace_sessions.specs.declared.sessions.Sessions.TheInside.{Inside}
use Rattle.trace_sessions.specs.Sessions.{SessionsState, IsSessionOf}
use Rattle.cost_model.specs.Options.{IsAccepted}
use Rattle.trace_reader.specs.Trace.{IsLawfulTrace}
use Rattle.trace_reader.specs.declared.trace.Fix.{Fix}
use Rattle.trace_sessions.specs.StreamText.{trace_of}

abbrev pub shown_sessions : Inside → SessionsState
shown_sessions a = record { network = a.net.now; params = a.params; sessions = a.sessions }

-- sessions of this network and these options
abbrev pub AreOf : Net → Params → List (ℕ × Session) → Type 0
AreOf n p [] = Unit {0}
AreOf n p (entry ∷ entries) = (entry.1.network ≡ n) × (entry.1.params ≡ p) × AreOf n p entries

pub record AreSessionsKept (a : Inside) : Type 0 where
  pub ground : IsGridFor a.net.now a.params a.grid.now
  pub are : AreOf a.net.now a.params a.sessions

-- the session of the id, or this one where it has none
abbrev pub session_at : List (ℕ × Session) → ℕ → Session → Session
session_at entries id opened = unwrap_or (lookup (nat_eq id) entries) opened

-- the session of the id, or a new one
abbrev pub session_in : SessionsState → ℕ → Session
session_in s id = session_at s.sessions id (no_points_of s.network s.params)

-- it took the layer and handed out these items; the ids differ
pub record FeedsAt (old : List (ℕ × Session)) (id : ℕ) (opened : Session) (l : Layer) (new : List (ℕ × Session))
    (items : List Item) : Type 0 where
  pub session : Session
  pub fed : FeedsLayer (session_at old id opened) l session items
  pub entries : new ≡ insert_entry nat_eq old id session
  pub different : IsDistinct nat_eq (keys_of new)

-- it was finished and taken out; the ids differ
pub record FinishesAt (old : List (ℕ × Session)) (id : ℕ) (new : List (ℕ × Session)) (items : List Item) : Type 0 where
  pub session : Session
  pub opened : Session
  pub was : lookup (nat_eq id) old ≡ Some session
  pub finished : IsFinished session opened items
  pub entries : new ≡ remove_entry (nat_eq id) old
  pub different : IsDistinct nat_eq (keys_of new)

-- a session of this network that represents the fixes of a lawful trace
pub record CanEnd (n : Net) (s : Session) (id : ℕ) : Type 0 where
  pub fixes : List Fix
  pub is : IsSessionOf n s.params s fixes
  pub lawful : IsLawfulTrace (trace_of (id, fixes))
  pub accepted : IsAccepted s.params
