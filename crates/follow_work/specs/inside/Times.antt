-- The newest times of open drives, by id, and the queue of their places.
use Rattle.std.specs.Prelude.{◌≡◌, ℕ, ◌+◌, ◌≤◌, Bool, ◌&&◌, cond, false, List, [], ◌∷◌, ◌++◌, Option, None, Some, map, max, nat_eq, nat_lt, true, unwrap_or}
use Rattle.std.specs.BTreeMap.{BTreeMap, IsFromIterResult, is_at}
use Rattle.std.specs.BTreeSet.{BTreeSet, contains, keys_between}
use Rattle.std.specs.List.{IsDistinct, filter}
use Rattle.std.specs.Map.{keys_of, lookup}
use Rattle.std.specs.Ordering.{nat_cmp, ordering_then}
use Rattle.std.specs.declared.cmp.Ordering.{Ordering}
use Rattle.std.specs.declared.ops.Bound.TheVariants.{Excluded, Unbounded}
use Rattle.follow_work.specs.declared.times.Drive.{Drive}
use Rattle.follow_work.specs.declared.times.Times.TheInside.{Inside}

-- the newest time of each drive by its id
abbrev pub times_in : List (ℕ × Drive) → List (ℕ × ℕ)
times_in drives = map (λ e. (e.0, e.1.newest)) drives

abbrev pub shown_times : Inside → List (ℕ × ℕ)
shown_times a = times_in a.drives

-- the place of a drive in the queue: its newest time, its number, and its id
abbrev pub Place : Type 0
Place = ℕ × ℕ × ℕ

abbrev pub place_cmp : Place → Place → Ordering
place_cmp p q = ordering_then (ordering_then (nat_cmp p.0 q.0) (nat_cmp p.1 q.1)) (nat_cmp p.2 q.2)

-- whether a drive has this place
abbrev pub is_placed : Option Drive → Place → Bool
is_placed None q = false
is_placed (Some drive) q = nat_eq drive.newest q.0 && nat_eq drive.number q.1

abbrev pub has_place : List (ℕ × Drive) → Place → Bool
has_place drives q = is_placed (lookup (nat_eq q.2) drives) q

-- the numbers rise from the first of these to below the second
abbrev pub RisesBetween : (low high : ℕ) → List (ℕ × Drive) → Type 0
RisesBetween low high [] = low ≤ high
RisesBetween low high (e ∷ drives) = (low ≤ e.1.number) × RisesBetween (e.1.number + 1) high drives

-- the queue has the places of the drives and no others
abbrev pub AreQueued : List (ℕ × Drive) → BTreeSet Place → Type 0
AreQueued drives queue = (q : Place) → contains place_cmp queue q ≡ has_place drives q

pub record AreKept (a : Inside) : Type 0 where
  pub different : IsDistinct nat_eq (keys_of a.drives)
  pub rises : RisesBetween 0 a.begun a.drives
  pub queued : AreQueued a.drives a.queue

-- whether there is this place, after one was put into the queue or taken from it
abbrev pub put : (Place → Bool) → Place → (there : Bool) → Place → Bool
put has p there q = cond (is_at (place_cmp p) q) there (has q)

-- after a place was put in the stead of another
abbrev pub Moves : (old new : BTreeSet Place) → (before after : Place) → Type 0
Moves old new before after =
    (q : Place) → contains place_cmp new q ≡ put (put (contains place_cmp old) after true) before false q

-- the number and the id of each place
abbrev pub numbered : List Place → List (ℕ × ℕ)
numbered places = map (λ q. (q.1, q.2)) places

-- the places of times before this one
abbrev pub places_before : (limit : ℕ) → BTreeSet Place → List Place
places_before limit queue = keys_between place_cmp Unbounded (Excluded (limit, 0, 0)) queue

-- some of the places have been noted by their numbers, and these are left
pub record HasNoted (places left : List Place) (noted : BTreeMap ℕ ℕ) : Type 0 where
  pub taken : List Place
  pub parts : places ≡ taken ++ left
  pub are : IsFromIterResult nat_cmp (numbered taken) noted

-- the ids whose newest time is more than this many seconds before the clock
abbrev pub idle_ids : (idle clock : ℕ) → List (ℕ × ℕ) → List ℕ
idle_ids idle clock times = keys_of (filter (λ entry. nat_lt (entry.1 + idle) clock) times)

-- the newest time of an id after one more position
abbrev pub time_with : List (ℕ × ℕ) → (id time : ℕ) → ℕ
time_with times id time = max (unwrap_or (lookup (nat_eq id) times) 0) time
