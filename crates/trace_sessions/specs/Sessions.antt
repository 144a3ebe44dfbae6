-- Many sessions at once, one for each trace id, and the fixes that they represent.
use Rattle.std.specs.Prelude.{◌≡◌, ◌⊎◌, ℕ, ◌<◌, ◌≤◌, List, [], ◌∷◌, ◌++◌, Option, None, Result, OnOk, IsSome, Contains, length, map, nat_eq, unwrap_or}
use Rattle.std.specs.List.{IsDistinct}
use Rattle.std.specs.Map.{keys_of, lookup, remove_entry}
use Rattle.std.specs.Option.{option_map}
use Rattle.indexmap.specs.IndexMap.{insert_entry}
use Rattle.cost_model.specs.declared.params.Params.{Params}
use Rattle.road_network.specs.Net.{Net}
use Rattle.bounded_table.specs.Rows.{RowsState, AsksOnly, Keeps as KeepsRows}
use Rattle.trace_reader.specs.declared.trace.Fix.{Fix}
use Rattle.trace_match.specs.Match.{layer_of}
use Rattle.online_commit.specs.declared.items.Item.{Item}
use Rattle.online_commit.specs.Items.{handed, items_of}
use Rattle.online_commit.specs.Session.{AsksPoints, Session, RepresentsLayers}
use Rattle.trace_sessions.specs.FollowText.{handed_at, left_of}
use Rattle.trace_sessions.specs.declared.sessions.SessionFault.{SessionFault}
use Rattle.trace_sessions.specs.declared.sessions.SessionFault.TheVariants.{Memory, NotOpen, TooLong}

-- the network, the options, and the session of each id, in order of first appearance
pub record SessionsState : Type 0 where
  pub network : Net
  pub params : Params
  pub sessions : List (ℕ × Session)

-- ---- ids with their fixes so far, in order of first appearance

abbrev pub Pair : Type 0
Pair = ℕ × List Fix

-- the fixes of the id: none where it has no pair
abbrev pub fixes_of : List Pair → ℕ → List Fix
fixes_of pairs id = unwrap_or (lookup (nat_eq id) pairs) []

-- its fixes and one more
abbrev pub fixes_and : List Pair → ℕ → Fix → List Fix
fixes_and pairs id fix = fixes_of pairs id ++ fix ∷ []

-- the id has one fix more: in the place of its pair, or in a new pair at the end
abbrev pub with_fix : List Pair → ℕ → Fix → List Pair
with_fix pairs id fix = insert_entry nat_eq pairs id (fixes_and pairs id fix)

-- the pair of the id is gone, the others keep their order
abbrev pub without_pair : List Pair → ℕ → List Pair
without_pair pairs id = remove_entry (nat_eq id) pairs

abbrev pub HasPair : List Pair → ℕ → Type 0
HasPair pairs id = IsSome (lookup (nat_eq id) pairs)

abbrev pub HasNoPair : List Pair → ℕ → Type 0
HasNoPair pairs id = lookup (nat_eq id) pairs ≡ None

-- the id has as many fixes as it may have
abbrev pub IsFull : List Pair → ℕ → Type 0
IsFull pairs id = 100_000 ≤ length (fixes_of pairs id)

abbrev pub length_of : List Pair → ℕ → Option ℕ
length_of pairs id = option_map length (lookup (nat_eq id) pairs)

-- ---- what the sessions represent

-- a session of this network and these options that represents these fixes
pub record IsSessionOf (n : Net) (p : Params) (s : Session) (fixes : List Fix) : Type 0 where
  pub network : s.network ≡ n
  pub params : s.params ≡ p
  pub stands : RepresentsLayers s (map (layer_of n p) fixes)

-- the session of a pair
pub record IsPairOf (n : Net) (p : Params) (entry : ℕ × Session) (pair : Pair) : Type 0 where
  pub id : entry.0 ≡ pair.0
  pub session : IsSessionOf n p entry.1 pair.1
  pub some : 0 < length pair.1

-- of each pair, in its place
abbrev pub KeepsEach : Net → Params → List (ℕ × Session) → List Pair → Type 0
KeepsEach n p [] [] = Unit {0}
KeepsEach n p [] (pair ∷ pairs) = ⊥
KeepsEach n p (entry ∷ entries) [] = ⊥
KeepsEach n p (entry ∷ entries) (pair ∷ pairs) = IsPairOf n p entry pair × KeepsEach n p entries pairs

-- the sessions represent these pairs, which have different ids
pub record RepresentsPairs (s : SessionsState) (pairs : List Pair) : Type 0 where
  pub each : KeepsEach s.network s.params s.sessions pairs
  pub different : IsDistinct nat_eq (keys_of pairs)

-- ---- the calls

-- what is handed out of these fixes so far, and all that is told of them
abbrev pub handed_of : SessionsState → List Fix → List Item
handed_of s fixes = handed s.network s.params (map (layer_of s.network s.params) fixes)

abbrev pub all_of : SessionsState → List Fix → List Item
all_of s fixes = items_of s.network s.params (map (layer_of s.network s.params) fixes)

-- the match of these fixes asks for the row of node v
abbrev pub AsksFixes : SessionsState → List Fix → ℕ → Type 0
AsksFixes s fixes v = AsksPoints s.network s.params (map (layer_of s.network s.params) fixes) v

-- a call that is Ok
pub data Call : Type 0 where
  feeds : (id : ℕ) → Fix → Call
  closes : (id : ℕ) → Call

-- the items of the definition that it hands out
abbrev pub items_of_call : Net → Params → List Pair → Call → List Item
items_of_call n p pairs (feeds id fix) =
    handed_at n p (map (layer_of n p) (fixes_and pairs id fix)) (length (fixes_of pairs id))
items_of_call n p pairs (closes id) = left_of n p (map (layer_of n p) (fixes_of pairs id))

-- the id was not full and has the fix after its others, whose items stay; these are the new ones
pub record TakesFix (old : SessionsState) (id : ℕ) (fix : Fix) (new : SessionsState) (items : List Item) : Type 0 where
  pub network : new.network ≡ old.network
  pub params : new.params ≡ old.params
  pub room : (pairs : List Pair) → RepresentsPairs old pairs → length (fixes_of pairs id) < 100_000
  pub stands : (pairs : List Pair) → RepresentsPairs old pairs → RepresentsPairs new (with_fix pairs id fix)
  pub handed_on : (pairs : List Pair) → RepresentsPairs old pairs
      → handed_of old (fixes_and pairs id fix) ≡ handed_of old (fixes_of pairs id) ++ items
  pub are : (pairs : List Pair) → RepresentsPairs old pairs
      → items ≡ items_of_call old.network old.params pairs (feeds id fix)

-- the id had a pair, which is gone, and these are the items that were left of it
pub record ClosesSession (old : SessionsState) (id : ℕ) (new : SessionsState) (items : List Item) : Type 0 where
  pub network : new.network ≡ old.network
  pub params : new.params ≡ old.params
  pub was_open : (pairs : List Pair) → RepresentsPairs old pairs → HasPair pairs id
  pub stands : (pairs : List Pair) → RepresentsPairs old pairs → RepresentsPairs new (without_pair pairs id)
  pub rest : (pairs : List Pair) → RepresentsPairs old pairs
      → all_of old (fixes_of pairs id) ≡ handed_of old (fixes_of pairs id) ++ items
  pub are : (pairs : List Pair) → RepresentsPairs old pairs
      → items ≡ items_of_call old.network old.params pairs (closes id)

-- why a fix was not taken, and why an id was not closed
abbrev pub IsFeedFault : SessionsState → ℕ → SessionFault → Type 0
IsFeedFault s id fault =
    (fault ≡ Memory) ⊎ ((fault ≡ TooLong id) × ((pairs : List Pair) → RepresentsPairs s pairs → IsFull pairs id))

abbrev pub IsCloseFault : SessionsState → ℕ → SessionFault → Type 0
IsCloseFault s id fault =
    (fault ≡ Memory) ⊎ ((fault ≡ NotOpen id) × ((pairs : List Pair) → RepresentsPairs s pairs → HasNoPair pairs id))

-- it was not taken for this reason, and the sessions are as before
pub record RefusesFix (old : SessionsState) (id : ℕ) (new : SessionsState) (fault : SessionFault) : Type 0 where
  pub why : IsFeedFault old id fault
  pub unchanged : new ≡ old

-- what feeding a fix leaves of the rows: nothing became known but what the id's fixes with the new one ask
-- for, and after Ok all that they ask for is known and the fixes before did not
pub record AsksFedTo {A E : Type 0} (old : SessionsState) (id : ℕ) (fix : Fix) (rows : RowsState) (result : Result A E)
    (new : RowsState) : Type 0 where
  pub keeps : KeepsRows rows new
  pub only : (pairs : List Pair) → RepresentsPairs old pairs → AsksOnly rows new (AsksFixes old (fixes_and pairs id fix))
  pub all : OnOk result ((pairs : List Pair) (v : ℕ) → RepresentsPairs old pairs → AsksFixes old (fixes_and pairs id fix) v
      → AsksFixes old (fixes_of pairs id) v ⊎ Contains new.known v)

-- nothing became known but what the id's fixes ask for
pub record AsksClosed (old : SessionsState) (id : ℕ) (rows new : RowsState) : Type 0 where
  pub keeps : KeepsRows rows new
  pub only : (pairs : List Pair) → RepresentsPairs old pairs → AsksOnly rows new (AsksFixes old (fixes_of pairs id))
