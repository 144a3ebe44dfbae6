-- The sessions of ids beside the pairs for which they stand.
use Rattle.std.proofs.Common.{◌≡◌, ℕ, suc, ◌<◌, Bool, true, false, cond, if◌then◌else◌, List, [], ◌∷◌, Option, Some, None, Result, Ok, Err, IfOk, OnErr, refl, sym, ap, subst, ◌∙◌, length, nat_eq, unwrap_or}
use Rattle.std.specs.Prelude.{IfSome}
use Rattle.std.specs.Map.{keys_of, lookup, remove_entry, set_value}
use Rattle.indexmap.specs.IndexMap.{insert_entry}
use Rattle.bounded_table.specs.Rows.{RowsState, AreRowsOf}
use Rattle.cost_model.specs.declared.params.Params.{Params}
use Rattle.road_network.specs.Net.{Net}
use Rattle.trace_reader.specs.declared.trace.Fix.{Fix}
use Rattle.online_commit.specs.declared.items.Item.{Item}
use Rattle.online_commit.specs.Session.{Session}
use Rattle.trace_sessions.specs.Sessions.{IsPairOf, IsSessionOf, KeepsEach, Pair}
use Rattle.trace_sessions.specs.inside.SessionsInside.{AreOf, FinishesAt, session_at}

-- a session that stands for the fixes, or neither
abbrev pub Both : Net → Params → Option Session → Option (List Fix) → Type 0
Both n p None None = Unit {0}
Both n p None (Some fixes) = ⊥
Both n p (Some s) None = ⊥
Both n p (Some s) (Some fixes) = IsSessionOf n p s fixes × (0 < length fixes)

look : (n : Net) (p : Params) (b : Bool) (e : ℕ × Session) (x : Pair) (s : Option Session) (f : Option (List Fix))
    → IsPairOf n p e x → Both n p s f → Both n p (cond b (Some e.1) s) (cond b (Some x.1) f)
look n p true e x s f is rest = (is.session, is.some)
look n p false e x s f is rest = rest

pub kept-lookup : (n : Net) (p : Params) (id : ℕ) (es : List (ℕ × Session)) (xs : List Pair) → KeepsEach n p es xs
    → Both n p (lookup (nat_eq id) es) (lookup (nat_eq id) xs)
kept-lookup n p id [] [] h = tt
kept-lookup n p id [] (x ∷ xs) h = absurd h
kept-lookup n p id (e ∷ es) [] h = absurd h
kept-lookup n p id (e ∷ es) (x ∷ xs) h =
    subst (λ (k : ℕ). Both n p (lookup (nat_eq id) (e ∷ es)) (cond (nat_eq id k) (Some x.1) (lookup (nat_eq id) xs))) h.0.id
    (look n p (nat_eq id e.0) e x (lookup (nat_eq id) es) (lookup (nat_eq id) xs) h.0 (kept-lookup n p id es xs h.1))

put : (n : Net) (p : Params) (b : Bool) (e : ℕ × Session) (x : Pair) (es es' : List (ℕ × Session)) (xs xs' : List Pair) (s : Session) (f : List Fix)
    → IsPairOf n p e x → KeepsEach n p es xs → KeepsEach n p es' xs' → IsSessionOf n p s f → 0 < length f
    → KeepsEach n p (if b then (e.0, s) ∷ es else e ∷ es') (if b then (x.0, f) ∷ xs else x ∷ xs')
put n p true e x es es' xs xs' s f is rest more own some = (record { id = is.id; session = own; some = some }, rest)
put n p false e x es es' xs xs' s f is rest more own some = (is, more)

-- the session of an id is replaced beside its fixes
pub kept-insert : (n : Net) (p : Params) (id : ℕ) (es : List (ℕ × Session)) (xs : List Pair) (s : Session) (f : List Fix) → KeepsEach n p es xs
    → IsSessionOf n p s f → 0 < length f → KeepsEach n p (insert_entry nat_eq es id s) (insert_entry nat_eq xs id f)
kept-insert n p id [] [] s f h own some = (record { id = refl; session = own; some = some }, tt)
kept-insert n p id [] (x ∷ xs) s f h own some = absurd h
kept-insert n p id (e ∷ es) [] s f h own some = absurd h
kept-insert n p id (e ∷ es) (x ∷ xs) s f h own some =
    subst (λ (k : ℕ). KeepsEach n p (insert_entry nat_eq (e ∷ es) id s) (if nat_eq id k then (x.0, f) ∷ xs else x ∷ insert_entry nat_eq xs id f)) h.0.id
    (put n p (nat_eq id e.0) e x es (insert_entry nat_eq es id s) xs (insert_entry nat_eq xs id f) s f h.0 h.1 (kept-insert n p id es xs s f h.1 own some) own some)

cut : (n : Net) (p : Params) (b : Bool) (e : ℕ × Session) (x : Pair) (es es' : List (ℕ × Session)) (xs xs' : List Pair)
    → IsPairOf n p e x → KeepsEach n p es xs → KeepsEach n p es' xs' → KeepsEach n p (cond b es (e ∷ es')) (cond b xs (x ∷ xs'))
cut n p true e x es es' xs xs' is rest more = rest
cut n p false e x es es' xs xs' is rest more = (is, more)

pub kept-remove : (n : Net) (p : Params) (id : ℕ) (es : List (ℕ × Session)) (xs : List Pair) → KeepsEach n p es xs
    → KeepsEach n p (remove_entry (nat_eq id) es) (remove_entry (nat_eq id) xs)
kept-remove n p id [] [] h = tt
kept-remove n p id [] (x ∷ xs) h = absurd h
kept-remove n p id (e ∷ es) [] h = absurd h
kept-remove n p id (e ∷ es) (x ∷ xs) h =
    subst (λ (k : ℕ). KeepsEach n p (remove_entry (nat_eq id) (e ∷ es)) (cond (nat_eq id k) xs (x ∷ remove_entry (nat_eq id) xs))) h.0.id
    (cut n p (nat_eq id e.0) e x es (remove_entry (nat_eq id) es) xs (remove_entry (nat_eq id) xs) h.0 h.1 (kept-remove n p id es xs h.1))

-- the ids are the same
pub kept-keys : (n : Net) (p : Params) (es : List (ℕ × Session)) (xs : List Pair) → KeepsEach n p es xs → keys_of es ≡ keys_of xs
kept-keys n p [] [] h = refl
kept-keys n p [] (x ∷ xs) h = absurd h
kept-keys n p (e ∷ es) [] h = absurd h
kept-keys n p (e ∷ es) (x ∷ xs) h = ap (λ (k : ℕ). k ∷ keys_of es) h.0.id ∙ ap (λ (ks : List ℕ). x.0 ∷ ks) (kept-keys n p es xs h.1)

pub kept-length : (n : Net) (p : Params) (es : List (ℕ × Session)) (xs : List Pair) → KeepsEach n p es xs → length es ≡ length xs
kept-length n p [] [] h = refl
kept-length n p [] (x ∷ xs) h = absurd h
kept-length n p (e ∷ es) [] h = absurd h
kept-length n p (e ∷ es) (x ∷ xs) h = ap suc (kept-length n p es xs h.1)

-- ---- entries alone

insert_step : (b : Bool) (e : ℕ × Session) (es set new : List (ℕ × Session)) (o : Option Session) (s was : Session) → (o ≡ Some was → set ≡ new)
    → cond b (Some e.1) o ≡ Some was → cond b ((e.0, s) ∷ es) (e ∷ set) ≡ (if b then (e.0, s) ∷ es else e ∷ new)
insert_step true e es set new o s was more found = refl
insert_step false e es set new o s was more found = ap (λ (l : List (ℕ × Session)). e ∷ l) (more found)

-- where the id has a session, writing to it is inserting it
pub set-inserts : (id : ℕ) (es : List (ℕ × Session)) (s was : Session) → lookup (nat_eq id) es ≡ Some was → set_value (nat_eq id) es s ≡ insert_entry nat_eq es id s
set-inserts id [] s was found = absurd (cc)
set-inserts id (e ∷ es) s was found =
    insert_step (nat_eq id e.0) e es (set_value (nat_eq id) es s) (insert_entry nat_eq es id s) (lookup (nat_eq id) es) s was (set-inserts id es s was) found

remove_step : (t : ℕ → Bool) (e : ℕ × Session) (es : List (ℕ × Session)) (s : Session) (b : Bool) → t e.0 ≡ b → remove_entry t (set_value t es s) ≡ remove_entry t es
    → remove_entry t (cond b ((e.0, s) ∷ es) (e ∷ set_value t es s)) ≡ cond b es (e ∷ remove_entry t es)
remove_step t e es s true is more = ap (λ (c : Bool). cond c es ((e.0, s) ∷ remove_entry t es)) is
remove_step t e es s false is more =
    ap (λ (c : Bool). cond c (set_value t es s) (e ∷ remove_entry t (set_value t es s))) is ∙ ap (λ (l : List (ℕ × Session)). e ∷ l) more

-- what was written to a session goes with it
pub remove-set : (t : ℕ → Bool) (es : List (ℕ × Session)) (s : Session) → remove_entry t (set_value t es s) ≡ remove_entry t es
remove-set t [] s = refl
remove-set t (e ∷ es) s = remove_step t e es s (t e.0) refl (remove-set t es s)

none_step : (t : ℕ → Bool) (e : ℕ × Session) (es : List (ℕ × Session)) (b : Bool) → cond b (Some e.1) (lookup t es) ≡ None → (lookup t es ≡ None → remove_entry t es ≡ es)
    → cond b es (e ∷ remove_entry t es) ≡ e ∷ es
none_step t e es true none rest = absurd cc
none_step t e es false none rest = ap (λ (l : List (ℕ × Session)). e ∷ l) (rest none)

-- an id that is not there leaves all
pub remove-none : (t : ℕ → Bool) (es : List (ℕ × Session)) → lookup t es ≡ None → remove_entry t es ≡ es
remove-none t [] none = refl
remove-none t (e ∷ es) none = none_step t e es (t e.0) none (remove-none t es)

-- ---- sessions of one network and options

are_if : (n : Net) (p : Params) (b : Bool) (xs ys : List (ℕ × Session)) → AreOf n p xs → AreOf n p ys → AreOf n p (cond b xs ys)
are_if n p true xs ys hx hy = hx
are_if n p false xs ys hx hy = hy

pub are-insert : (n : Net) (p : Params) (id : ℕ) (es : List (ℕ × Session)) (s : Session) → AreOf n p es → s.network ≡ n → s.params ≡ p → AreOf n p (insert_entry nat_eq es id s)
are-insert n p id [] s h net par = (net, par, tt)
are-insert n p id (e ∷ es) s h net par =
    are_if n p (nat_eq id e.0) ((e.0, s) ∷ es) (e ∷ insert_entry nat_eq es id s) (net, par, h.2) (h.0, h.1, are-insert n p id es s h.2 net par)

pub are-remove : (n : Net) (p : Params) (id : ℕ) (es : List (ℕ × Session)) → AreOf n p es → AreOf n p (remove_entry (nat_eq id) es)
are-remove n p id [] h = tt
are-remove n p id (e ∷ es) h =
    are_if n p (nat_eq id e.0) es (e ∷ remove_entry (nat_eq id) es) h.2 (h.0, h.1, are-remove n p id es h.2)

at_step : (n : Net) (p : Params) (b : Bool) (s d : Session) (o : Option Session) → (s.network ≡ n) × (s.params ≡ p) → ((unwrap_or o d).network ≡ n) × ((unwrap_or o d).params ≡ p)
    → ((unwrap_or (cond b (Some s) o) d).network ≡ n) × ((unwrap_or (cond b (Some s) o) d).params ≡ p)
at_step n p true s d o own rest = own
at_step n p false s d o own rest = rest

pub are-at : (n : Net) (p : Params) (id : ℕ) (es : List (ℕ × Session)) (d : Session) → AreOf n p es → d.network ≡ n → d.params ≡ p
    → ((session_at es id d).network ≡ n) × ((session_at es id d).params ≡ p)
are-at n p id [] d h net par = (net, par)
are-at n p id (e ∷ es) d h net par = at_step n p (nat_eq id e.0) e.1 d (lookup (nat_eq id) es) (h.0, h.1) (are-at n p id es d h.2 net par)

rows_step : (rows : RowsState) (b : Bool) (s : Session) (o : Option Session) → AreRowsOf rows s.network s.params.bound → IfSome o (λ (x : Session). AreRowsOf rows x.network x.params.bound)
    → IfSome (cond b (Some s) o) (λ (x : Session). AreRowsOf rows x.network x.params.bound)
rows_step rows true s o own rest = own
rows_step rows false s o own rest = rest

pub rows-at : (rows : RowsState) (n : Net) (p : Params) (id : ℕ) (es : List (ℕ × Session)) → AreOf n p es → AreRowsOf rows n p.bound
    → IfSome (lookup (nat_eq id) es) (λ (s : Session). AreRowsOf rows s.network s.params.bound)
rows-at rows n p id [] h are = tt
rows-at rows n p id (e ∷ es) h are =
    rows_step rows (nat_eq id e.0) e.1 (lookup (nat_eq id) es)
    (subst (λ (m : Net). AreRowsOf rows m e.1.params.bound) (sym h.0) (subst (λ (q : Params). AreRowsOf rows n q.bound) (sym h.1) are))
    (rows-at rows n p id es h.2 are)

pub are-finished : {E : Type 0} (n : Net) (p : Params) (id : ℕ) (es new : List (ℕ × Session)) (result : Result (List Item) E) → AreOf n p es
    → IfOk result (FinishesAt es id new) → OnErr result (new ≡ es) → AreOf n p new
are-finished n p id es new (Ok items) h finished same = subst (AreOf n p) (sym finished.entries) (are-remove n p id es h)
are-finished n p id es new (Err e) h finished same = subst (AreOf n p) (sym same) h
