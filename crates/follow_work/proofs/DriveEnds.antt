-- The drives that pass a test end one after the other.
use Rattle.std.proofs.Common.{◌≡◌, ℕ, ◌+◌, ◌<◌, ◌≤◌, Bool, List, [], ◌∷◌, ◌++◌, Option, Some, None, refl, sym, ap, ◌∙◌, subst, arith, drop, get_or, length, nat_eq, unwrap_or}
use Rattle.std.specs.Prelude.{IsSome, is_some}
use Rattle.std.specs.List.{IsDistinct, concat, filter}
use Rattle.std.specs.Map.{keys_of, lookup}
use Rattle.std.specs.Option.{option_map}
use Rattle.std.proofs.lemmas.List.{append_assoc, append-nil, drop_all, drop_more}
use Rattle.std.proofs.lemmas.List.Folds.{concat-append}
use Rattle.program_frame.specs.declared.total.Tally.{Tally}
use Rattle.trace_match.specs.Setting.{Setting}
use Rattle.trace_reader.specs.declared.trace.Fix.{Fix}
use Rattle.trace_sessions.specs.Drives.{is_full_of, is_idle}
use Rattle.trace_sessions.specs.Sessions.{HasPair, Pair, fixes_of, length_of, without_pair}
use Rattle.trace_sessions.specs.StreamText.{closing_lines, lines_at_end}
use Rattle.follow_work.specs.declared.drives.Drives.{Drives}
use Rattle.follow_work.specs.inside.DrivesDone.{AreAny, Drove, EndsAll, EndsDrive, HasDrives, HaveDriveOf, KeepsClock, times_of}
use Rattle.follow_work.specs.inside.Times.{idle_ids}
use Rattle.follow_work.proofs.DriveLists.{full-few, full-none, full-one, none-out, others, out-first}
use Rattle.follow_work.proofs.DriveTimes.{idle-found}

stays-still : (d : Drives) → KeepsClock d d
stays-still d = record { clock = refl; points = refl }

pub stays-then : (d0 d1 d2 : Drives) → KeepsClock d0 d1 → KeepsClock d1 d2 → KeepsClock d0 d2
stays-then d0 d1 d2 one two = record { clock = two.clock ∙ one.clock; points = two.points ∙ one.points }

-- ---- the loop

-- of the drives that pass, those with these ids are left
pub record EndsSome (on : Setting) (ended drives : List Pair) (test : Pair → Bool) (left : List ℕ) (d0 d : Drives) (t0 t : List ℕ) : Type 0 where
  pub now : List Pair
  pub open_drives : List Pair
  pub drove : Drove on d now open_drives
  pub stays : KeepsClock d0 d
  pub all : now ++ filter test open_drives ≡ ended ++ filter test drives
  pub kept : others test open_drives ≡ others test drives
  pub left_are : keys_of (filter test open_drives) ≡ left
  pub written : t ++ concat (closing_lines on.network on.params (filter test open_drives)) ≡ t0 ++ concat (closing_lines on.network on.params (filter test drives))

abbrev pub HasEnded : (idle : ℕ) → List ℕ → (d0 d : Drives) → (t0 t : List ℕ) → Type 0
HasEnded idle left d0 d t0 t = (on : Setting) (ended drives : List Pair) → Drove on d0 ended drives → EndsSome on ended drives (is_idle idle d0.clock) left d0 d t0 t

pub none-ended : (idle : ℕ) (ids : List ℕ) (d : Drives) (t : List ℕ) → ids ≡ idle_ids idle d.clock d.times → HasEnded idle (drop 0 ids) d d t t
none-ended idle ids d t are on ended drives has = record {
  now = ended;
  open_drives = drives;
  drove = has;
  stays = stays-still d;
  all = refl;
  kept = refl;
  left_are = sym (are ∙ idle-found idle d.clock d.times drives has.times_are);
  written = refl;
}

-- the next of them
record NextOut (test : Pair → Bool) (drives : List Pair) (id : ℕ) (left : List ℕ) : Type 0 where
  x : Pair
  rest : List Pair
  is : filter test drives ≡ x ∷ rest
  id_is : x.0 ≡ id
  left_are : keys_of rest ≡ left

next-out : (test : Pair → Bool) (drives passed : List Pair) (id : ℕ) (left : List ℕ) → filter test drives ≡ passed → keys_of passed ≡ id ∷ left → NextOut test drives id left
next-out test drives [] id left is keys = absurd (cc keys)
next-out test drives (x ∷ rest) id left is keys = record { x = x; rest = rest; is = is; id_is = cc keys; left_are = cc keys }

left-more : (ids : List ℕ) (i id e : ℕ) → i < length ids → id ≡ get_or ids i e → drop i ids ≡ id ∷ drop (i + 1) ids
left-more ids i id e low is = drop_more ids i e low ∙ ap (λ k. k ∷ drop (i + 1) ids) (sym is)

is-some : (o : Option (List Fix)) (fixes : List Fix) → o ≡ Some fixes → IsSome o
is-some o fixes is = ap is_some is

pub next-open : (idle : ℕ) (ids : List ℕ) (i id e : ℕ) (d0 d : Drives) (t0 t : List ℕ) → i < length ids → id ≡ get_or ids i e → HasDrives d0 AreAny → HasEnded idle (drop i ids) d0 d t0 t → HasDrives d (HaveDriveOf id)
next-open idle ids i id e d0 d t0 t low at some ended =
    let before = ended some.on some.ended some.drives some.drove in
    let test = is_idle idle d0.clock in
    let next = next-out test before.open_drives (filter test before.open_drives) id (drop (i + 1) ids) refl (before.left_are ∙ left-more ids i id e low at) in
    let out = out-first test before.open_drives next.x next.rest before.drove.stands.different next.is in
    record {
      on = some.on;
      ended = before.now;
      drives = before.open_drives;
      drove = before.drove;
      has = subst (HasPair before.open_drives) next.id_is (is-some (lookup (nat_eq next.x.0) before.open_drives) next.x.1 out.found);
    }

one-more : (n-lines : Pair → List (List ℕ)) (t0 t1 t2 : List ℕ) (x : Pair) (rest : List (List ℕ)) (all : List ℕ)
    → t1 ++ concat (n-lines x ++ rest) ≡ all → t2 ≡ t1 ++ concat (n-lines x) → t2 ++ concat rest ≡ all
one-more n-lines t0 t1 t2 x rest all before written =
    ap (λ t. t ++ concat rest) written
    ∙ append_assoc t1 (concat (n-lines x)) (concat rest)
    ∙ ap (λ t. t1 ++ t) (sym (concat-append (n-lines x) rest))
    ∙ before

pub next-ended : (idle : ℕ) (ids : List ℕ) (i id e : ℕ) (d0 d1 d2 : Drives) (t0 t1 t2 : List ℕ) → i < length ids → id ≡ get_or ids i e → HasEnded idle (drop i ids) d0 d1 t0 t1
    → ((on : Setting) (ended drives : List Pair) → Drove on d1 ended drives → EndsDrive on ended drives id d1 d2 t1 t2)
    → HasEnded idle (drop (i + 1) ids) d0 d2 t0 t2
next-ended idle ids i id e d0 d1 d2 t0 t1 t2 low at has ends on ended drives drove =
    let before = has on ended drives drove in
    let test = is_idle idle d0.clock in
    let open_drives = before.open_drives in
    let n = on.network in
    let p = on.params in
    let next = next-out test open_drives (filter test open_drives) id (drop (i + 1) ids) refl (before.left_are ∙ left-more ids i id e low at) in
    let x = next.x in
    let out = out-first test open_drives x next.rest before.drove.stands.different next.is in
    let own : fixes_of open_drives x.0 ≡ x.1 = ap (λ o. unwrap_or o []) out.found in
    let one = subst (λ k. EndsDrive on before.now open_drives k d1 d2 t1 t2) (sym next.id_is) (ends on before.now open_drives before.drove) in
    let before_it : Pair = (x.0, fixes_of open_drives x.0) in
    let same : before_it ≡ x = ap (λ fs. let q : Pair = (x.0, fs) in q) own in
    let passed = out.passed in
    record {
      now = before.now ++ (x.0, fixes_of open_drives x.0) ∷ [];
      open_drives = without_pair open_drives x.0;
      drove = one.drove;
      stays = stays-then d0 d1 d2 before.stays one.stays;
      all =
          ap (λ ds. (before.now ++ (x.0, fixes_of open_drives x.0) ∷ []) ++ ds) passed
          ∙ append_assoc before.now ((x.0, fixes_of open_drives x.0) ∷ []) next.rest
          ∙ ap (λ q. before.now ++ q ∷ next.rest) same
          ∙ ap (λ ds. before.now ++ ds) (sym next.is)
          ∙ before.all;
      kept = out.kept ∙ before.kept;
      left_are = ap keys_of passed ∙ next.left_are;
      written =
          ap (λ ds. t2 ++ concat (closing_lines n p ds)) passed
          ∙ one-more (lines_at_end n p) t0 t1 t2 x (closing_lines n p next.rest) (t0 ++ concat (closing_lines n p (filter test drives)))
          (ap (λ ds. t1 ++ concat (closing_lines n p ds)) (sym next.is) ∙ before.written)
          (one.written ∙ ap (λ q. t1 ++ concat (lines_at_end n p q)) same);
    }

none-of : (pairs : List Pair) → keys_of pairs ≡ [] → pairs ≡ []
none-of [] none = refl
none-of (x ∷ pairs) none = absurd (cc none)

pub all-ended : (idle : ℕ) (ids : List ℕ) (i : ℕ) (d0 d : Drives) (t0 t : List ℕ) → length ids ≤ i → HasEnded idle (drop i ids) d0 d t0 t
    → (on : Setting) (ended drives : List Pair) → Drove on d0 ended drives → EndsAll on ended drives (is_idle idle d0.clock) d0 d t0 t
all-ended idle ids i d0 d t0 t high has on ended drives drove =
    let after = has on ended drives drove in
    let test = is_idle idle d0.clock in
    let n = on.network in
    let p = on.params in
    let none : filter test after.open_drives ≡ [] = none-of (filter test after.open_drives) (after.left_are ∙ drop_all i ids high) in
    let now : after.now ≡ ended ++ filter test drives = sym (append-nil after.now) ∙ ap (λ ds. after.now ++ ds) (sym none) ∙ after.all in
    let left : after.open_drives ≡ others test drives = sym (none-out test after.open_drives none) ∙ after.kept in
    record {
      drove = subst (λ ds. Drove on d ds (others test drives)) now (subst (Drove on d after.now) left after.drove);
      stays = after.stays;
      written = sym (append-nil t) ∙ ap (λ ds. t ++ concat (closing_lines n p ds)) (sym none) ∙ after.written;
    }

-- ---- the full drive of an id

-- by the number of positions that the sessions have of it
pub full-absent : (id : ℕ) (drives : List Pair) (count : Option ℕ) → count ≡ None → count ≡ length_of drives id → filter (is_full_of id) drives ≡ []
full-absent id drives count none is = full-none id drives (no-count (lookup (nat_eq id) drives) (sym is ∙ none))
  where
    no-count : (o : Option (List Fix)) → option_map length o ≡ None → o ≡ None
    no-count None is = refl
    no-count (Some fixes) is = absurd (cc is)

record Counted (id : ℕ) (drives : List Pair) (count : ℕ) : Type 0 where
  fixes : List Fix
  found : lookup (nat_eq id) drives ≡ Some fixes
  long : length fixes ≡ count

counted-of : (id : ℕ) (drives : List Pair) (told : Option ℕ) (count : ℕ) → told ≡ Some count → told ≡ length_of drives id → Counted id drives count
counted-of id drives told count some is = step (lookup (nat_eq id) drives) refl (sym is ∙ some)
  where
    step : (o : Option (List Fix)) → lookup (nat_eq id) drives ≡ o → option_map length o ≡ Some count → Counted id drives count
    step None found is = absurd (cc is)
    step (Some fixes) found is = record { fixes = fixes; found = found; long = cc is }

pub few-found : (id : ℕ) (drives : List Pair) (told : Option ℕ) (count : ℕ) → IsDistinct nat_eq (keys_of drives) → told ≡ Some count → told ≡ length_of drives id → count < 100_000 → filter (is_full_of id) drives ≡ []
few-found id drives told count different some is low =
    let c = counted-of id drives told count some is in
    let long = c.long in
    full-few id c.fixes drives different c.found (omega (arith, long, low))

-- where none passes, nothing is done
pub none-full : (on : Setting) (ended drives : List Pair) (test : Pair → Bool) (d : Drives) (t : List ℕ) → Drove on d ended drives → filter test drives ≡ [] → EndsAll on ended drives test d d t t
none-full on ended drives test d t drove none = record {
  drove = subst (λ ds. Drove on d ds (others test drives)) (sym (append-nil ended) ∙ ap (λ ds. ended ++ ds) (sym none)) (subst (Drove on d ended) (sym (none-out test drives none)) drove);
  stays = stays-still d;
  written = sym (append-nil t) ∙ ap (λ ds. t ++ concat (closing_lines on.network on.params ds)) (sym none);
}

full-ended : (on : Setting) (ended drives : List Pair) (id : ℕ) (fixes : List Fix) (d d' : Drives) (t t' : List ℕ) → Drove on d ended drives → lookup (nat_eq id) drives ≡ Some fixes → 100_000 ≤ length fixes
    → EndsDrive on ended drives id d d' t t' → EndsAll on ended drives (is_full_of id) d d' t t'
full-ended on ended drives id fixes d d' t t' drove found full ends =
    let test = is_full_of id in
    let n = on.network in
    let p = on.params in
    let own : fixes_of drives id ≡ fixes = ap (λ o. unwrap_or o []) found in
    let one : filter test drives ≡ (id, fixes_of drives id) ∷ [] = full-one id fixes drives drove.stands.different found full ∙ ap (λ fs. (id, fs) ∷ []) (sym own) in
    let out = out-first test drives (id, fixes_of drives id) [] drove.stands.different one in
    let left : without_pair drives id ≡ others test drives = sym (none-out test (without_pair drives id) out.passed) ∙ out.kept in
    record {
      drove = subst (λ ds. Drove on d' ds (others test drives)) (ap (λ ds. ended ++ ds) (sym one)) (subst (Drove on d' (ended ++ (id, fixes_of drives id) ∷ [])) left ends.drove);
      stays = ends.stays;
      written = ends.written ∙ ap (λ ls. t ++ concat ls) (sym (append-nil (lines_at_end n p (id, fixes_of drives id)))) ∙ ap (λ ds. t ++ concat (closing_lines n p ds)) (sym one);
    }

pub full-found : (on : Setting) (ended drives : List Pair) (id : ℕ) (told : Option ℕ) (count : ℕ) (d d' : Drives) (t t' : List ℕ) → Drove on d ended drives → told ≡ Some count → told ≡ length_of drives id → 100_000 ≤ count
    → EndsDrive on ended drives id d d' t t' → EndsAll on ended drives (is_full_of id) d d' t t'
full-found on ended drives id told count d d' t t' drove some is high ends =
    let c = counted-of id drives told count some is in
    let long = c.long in
    full-ended on ended drives id c.fixes d d' t t' drove c.found (omega (arith, long, high)) ends
