-- The newest times of drives beside the drives.
use Rattle.std.proofs.Common.{◌≡◌, ℕ, ◌+◌, Bool, true, false, cond, if◌then◌else◌, nat_lt, List, [], ◌∷◌, ◌++◌, Some, refl, sym, ap, ◌∙◌, arith, max, nat_eq, unwrap_or}
use Rattle.std.specs.List.{filter}
use Rattle.std.specs.Map.{keys_of, lookup, remove_entry}
use Rattle.indexmap.specs.IndexMap.{insert_entry}
use Rattle.trace_reader.specs.declared.trace.Fix.{Fix}
use Rattle.trace_sessions.specs.Drives.{is_idle, newest}
use Rattle.trace_sessions.specs.Sessions.{Pair, fixes_and, fixes_of, with_fix, without_pair}
use Rattle.follow_work.specs.inside.DrivesDone.{times_of}
use Rattle.follow_work.specs.inside.Times.{idle_ids, time_with}

max-none : (t : ℕ) → max t 0 ≡ max 0 t
max-none t = grind arith

max-assoc : (a b c : ℕ) → max a (max b c) ≡ max (max a b) c
max-assoc a b c = grind arith

newest-with : (fixes : List Fix) (fix : Fix) → newest (fixes ++ fix ∷ []) ≡ max (newest fixes) fix.time
newest-with [] fix = max-none fix.time
newest-with (f ∷ fixes) fix = ap (max f.time) (newest-with fixes fix) ∙ max-assoc f.time (newest fixes) fix.time

times-insert : (id : ℕ) (fixes : List Fix) (drives : List Pair) → insert_entry nat_eq (times_of drives) id (newest fixes) ≡ times_of (insert_entry nat_eq drives id fixes)
times-insert id fixes [] = refl
times-insert id fixes (e ∷ drives) = step (nat_eq id e.0) (times-insert id fixes drives)
  where
    step : (b : Bool) → insert_entry nat_eq (times_of drives) id (newest fixes) ≡ times_of (insert_entry nat_eq drives id fixes)
        → (if b then (e.0, newest fixes) ∷ times_of drives else (e.0, newest e.1) ∷ insert_entry nat_eq (times_of drives) id (newest fixes))
        ≡ times_of (if b then (e.0, fixes) ∷ drives else e ∷ insert_entry nat_eq drives id fixes)
    step true later = refl
    step false later = ap (λ (ts : List (ℕ × ℕ)). (e.0, newest e.1) ∷ ts) later

pub times-without : (id : ℕ) (drives : List Pair) → remove_entry (nat_eq id) (times_of drives) ≡ times_of (without_pair drives id)
times-without id [] = refl
times-without id (e ∷ drives) = step (nat_eq id e.0) (times-without id drives)
  where
    step : (b : Bool) → remove_entry (nat_eq id) (times_of drives) ≡ times_of (without_pair drives id)
        → cond b (times_of drives) ((e.0, newest e.1) ∷ remove_entry (nat_eq id) (times_of drives)) ≡ times_of (cond b drives (e ∷ without_pair drives id))
    step true later = refl
    step false later = ap (λ (ts : List (ℕ × ℕ)). (e.0, newest e.1) ∷ ts) later

time-at : (id : ℕ) (drives : List Pair) → unwrap_or (lookup (nat_eq id) (times_of drives)) 0 ≡ newest (fixes_of drives id)
time-at id [] = refl
time-at id (e ∷ drives) = step (nat_eq id e.0) (time-at id drives)
  where
    step : (b : Bool) → unwrap_or (lookup (nat_eq id) (times_of drives)) 0 ≡ newest (fixes_of drives id)
        → unwrap_or (cond b (Some (newest e.1)) (lookup (nat_eq id) (times_of drives))) 0 ≡ newest (unwrap_or (cond b (Some e.1) (lookup (nat_eq id) drives)) [])
    step true later = refl
    step false later = later

-- a drive has one more position
pub times-with : (times : List (ℕ × ℕ)) (id : ℕ) (fix : Fix) (drives : List Pair) → times ≡ times_of drives → insert_entry nat_eq times id (time_with times id fix.time) ≡ times_of (with_fix drives id fix)
times-with times id fix drives are =
    ap (λ (ts : List (ℕ × ℕ)). insert_entry nat_eq ts id (time_with ts id fix.time)) are
    ∙ ap (λ t. insert_entry nat_eq (times_of drives) id t) (ap (λ t. max t fix.time) (time-at id drives) ∙ sym (newest-with (fixes_of drives id) fix))
    ∙ times-insert id (fixes_and drives id fix) drives

-- the ids of the drives that are idle
idle-are : (idle clock : ℕ) (drives : List Pair) → idle_ids idle clock (times_of drives) ≡ keys_of (filter (is_idle idle clock) drives)
idle-are idle clock [] = refl
idle-are idle clock (e ∷ drives) = step (nat_lt (newest e.1 + idle) clock) (idle-are idle clock drives)
  where
    step : (b : Bool) → idle_ids idle clock (times_of drives) ≡ keys_of (filter (is_idle idle clock) drives)
        → keys_of (cond b ((e.0, newest e.1) ∷ filter (λ (entry : ℕ × ℕ). nat_lt (entry.1 + idle) clock) (times_of drives)) (filter (λ (entry : ℕ × ℕ). nat_lt (entry.1 + idle) clock) (times_of drives)))
        ≡ keys_of (cond b (e ∷ filter (is_idle idle clock) drives) (filter (is_idle idle clock) drives))
    step true later = ap (λ (ids : List ℕ). e.0 ∷ ids) later
    step false later = later

pub idle-found : (idle clock : ℕ) (times : List (ℕ × ℕ)) (drives : List Pair) → times ≡ times_of drives → idle_ids idle clock times ≡ keys_of (filter (is_idle idle clock) drives)
idle-found idle clock times drives are = ap (idle_ids idle clock) are ∙ idle-are idle clock drives
