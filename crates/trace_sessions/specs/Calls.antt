-- What lists of calls on sessions hand out.
use Rattle.std.specs.Prelude.{◌≡◌, ℕ, List, [], ◌∷◌, nat_eq}
use Rattle.std.specs.List.{filter}
use Rattle.cost_model.specs.declared.params.Params.{Params}
use Rattle.road_network.specs.Net.{Net}
use Rattle.online_commit.specs.declared.items.Item.{Item}
use Rattle.trace_sessions.specs.Sessions.{Call, ClosesSession, RepresentsPairs, SessionsState, TakesFix}
use Rattle.trace_sessions.specs.Sessions.Call.{closes, feeds}

abbrev pub id_of : Call → ℕ
id_of (feeds id fix) = id
id_of (closes id) = id

-- what a call does to the sessions, with these items
abbrev pub CallGives : SessionsState → Call → SessionsState → List Item → Type 0
CallGives old (feeds id fix) new items = TakesFix old id fix new items
CallGives old (closes id) new items = ClosesSession old id new items

-- these calls, one after the other, give these answers
abbrev pub CallsGive : SessionsState → List Call → List (ℕ × List Item) → Type 0
CallsGive s [] [] = Unit {0}
CallsGive s [] (answer ∷ given) = ⊥
CallsGive s (call ∷ calls) [] = ⊥
CallsGive s (call ∷ calls) (answer ∷ given) =
    (new : SessionsState) × (answer.0 ≡ id_of call) × CallGives s call new answer.1 × CallsGive new calls given

-- sessions without positions
pub record IsEmpty (n : Net) (p : Params) (s : SessionsState) : Type 0 where
  pub network : s.network ≡ n
  pub params : s.params ≡ p
  pub none : RepresentsPairs s []

-- the calls of an id give the same answers among others and alone
abbrev pub IdsAreAnsweredAlone : Type 0
IdsAreAnsweredAlone =
    (n : Net) (p : Params) (s t : SessionsState) (id : ℕ) (calls : List Call)
    (given alone : List (ℕ × List Item)) → IsEmpty n p s → IsEmpty n p t → CallsGive s calls given
    → CallsGive t (filter (λ call. nat_eq id (id_of call)) calls) alone
    → filter (λ answer. nat_eq id answer.0) given ≡ alone
