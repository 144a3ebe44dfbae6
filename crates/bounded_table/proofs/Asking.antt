-- What is left by asking for rows, in several steps.
use Rattle.std.proofs.Common.{◌≡◌, ◌⊎◌, ℕ, List, Contains, refl, sym, ◌∙◌, inl, inr, subst, ⊎_elim}
use Rattle.std.specs.Prelude.{Result, Ok, Err, IsErr, OnOk}
use Rattle.road_network.specs.Net.{Net}
use Rattle.bounded_table.specs.Known.{Adds}
use Rattle.bounded_table.specs.Rows.{RowsState, AreRowsOf, AsksOnly, AsksAll, AsksFor, Keeps, KnowsAll}

pub still_of : {old new : RowsState} {n : Net} {b : ℕ} → Keeps old new → AreRowsOf old n b → AreRowsOf new n b
still_of keeps of = record { network = keeps.network ∙ of.network; bound = keeps.bound ∙ of.bound }

-- nothing happens
pub keeps_itself : (state : RowsState) → Keeps state state
keeps_itself state = record {
  network = refl;
  bound = refl;
  source = refl;
  held = λ k row e. e;
  known = λ v k. k;
}

pub keeps_then : {s0 s1 s2 : RowsState} → Keeps s0 s1 → Keeps s1 s2 → Keeps s0 s2
keeps_then one two = record {
  network = two.network ∙ one.network;
  bound = two.bound ∙ one.bound;
  source = two.source ∙ one.source;
  held = λ k row e. two.held k row (one.held k row e);
  known = λ v k. two.known v (one.known v k);
}

-- nothing is asked for
pub asks_nothing : (state : RowsState) (asked : ℕ → Type 0) → AsksOnly state state asked
asks_nothing state asked = record { keeps = keeps_itself state; nothing_else = λ v k. inl k }

-- all that are asked for are known
pub asks_known : {state : RowsState} {asked : ℕ → Type 0} → KnowsAll state asked → AsksAll state state asked
asks_known {state} {asked} all = record { only = asks_nothing state asked; all = all }

-- one step after another
pub only_then : {s0 s1 s2 : RowsState} {a b c : ℕ → Type 0} → AsksOnly s0 s1 a → AsksOnly s1 s2 b → ((v : ℕ) → a v ⊎ b v → c v) → AsksOnly s0 s2 c
only_then one two joins = record {
  keeps = keeps_then one.keeps two.keeps;
  nothing_else = λ v k. ⊎_elim
      (λ now. ⊎_elim (λ old. inl old) (λ asked. inr (joins v (inl asked))) (one.nothing_else v now))
      (λ asked. inr (joins v (inr asked))) (two.nothing_else v k);
}

on_ok : {A E : Type 0} {P Q : Type 0} (r : Result A E) → (P → Q) → OnOk r P → OnOk r Q
on_ok (Ok x) f h = f h
on_ok (Err e) f h = tt

pub asks_then : {A E : Type 0} {s0 s1 s2 : RowsState} {a b c : ℕ → Type 0} {result : Result A E}
    → AsksAll s0 s1 a → AsksFor s1 b result s2 → ((v : ℕ) → a v ⊎ b v → c v) → ((v : ℕ) → c v → a v ⊎ b v) → AsksFor s0 c result s2
asks_then {result = result} one two joins splits = record {
  only = only_then one.only two.only joins;
  all = on_ok result (λ all v asked. ⊎_elim (λ first. two.only.keeps.known v (one.all v first)) (λ next. all v next) (splits v asked)) two.all;
}

pub all_then : {s0 s1 s2 : RowsState} {a b c : ℕ → Type 0}
    → AsksAll s0 s1 a → AsksAll s1 s2 b → ((v : ℕ) → a v ⊎ b v → c v) → ((v : ℕ) → c v → a v ⊎ b v) → AsksAll s0 s2 c
all_then one two joins splits = record {
  only = only_then one.only two.only joins;
  all = λ v asked. ⊎_elim (λ first. two.only.keeps.known v (one.all v first)) (λ next. two.all v next) (splits v asked);
}

-- the same nodes, said in another way
pub only_by : {s0 s1 : RowsState} {a c : ℕ → Type 0} → AsksOnly s0 s1 a → ((v : ℕ) → a v → c v) → AsksOnly s0 s1 c
only_by {s1 = s1} {c = c} only from_a = only_then only (asks_nothing s1 c) (λ v h. ⊎_elim (λ asked. from_a v asked) (λ asked. asked) h)

pub all_by : {s0 s1 : RowsState} {a c : ℕ → Type 0} → AsksAll s0 s1 a → ((v : ℕ) → a v → c v) → ((v : ℕ) → c v → a v) → AsksAll s0 s1 c
all_by asks to back = record { only = only_by asks.only to; all = λ v asked. asks.all v (back v asked) }

pub asks_by : {A E : Type 0} {s0 s1 : RowsState} {a c : ℕ → Type 0} {result : Result A E}
    → AsksFor s0 a result s1 → ((v : ℕ) → a v → c v) → ((v : ℕ) → c v → a v) → AsksFor s0 c result s1
asks_by {result = result} asks to back = record { only = only_by asks.only to; all = on_ok result (λ all v asked. all v (back v asked)) asks.all }

on_err : {A E : Type 0} (P : Type 0) (r : Result A E) → IsErr r → OnOk r P
on_err P (Ok x) h = absurd (cc)
on_err P (Err e) h = tt

-- an Err that stands for an earlier one
pub asks_err : {A E : Type 0} {s0 s1 : RowsState} {asked : ℕ → Type 0} {result : Result A E} → AsksOnly s0 s1 asked → IsErr result → AsksFor s0 asked result s1
asks_err {s1 = s1} {asked = asked} {result = result} only err = record { only = only; all = on_err (KnowsAll s1 asked) result err }

pub asks_ok : {A E : Type 0} {s0 s1 : RowsState} {asked : ℕ → Type 0} {result : Result A E} {x : A} → AsksFor s0 asked result s1 → result ≡ Ok x → AsksAll s0 s1 asked
asks_ok {s1 = s1} {asked = asked} asks is = record { only = asks.only; all = subst (λ r. OnOk r (KnowsAll s1 asked)) is asks.all }

on_any : {A E : Type 0} {P : Type 0} (r : Result A E) → P → OnOk r P
on_any (Ok x) h = h
on_any (Err e) h = tt

pub asks_done : {A E : Type 0} {s0 s1 : RowsState} {asked : ℕ → Type 0} {result : Result A E} → AsksAll s0 s1 asked → AsksFor s0 asked result s1
asks_done {result = result} asks = record { only = asks.only; all = on_any result asks.all }

-- one node is asked for, and is known already
pub asks_one_known : (state : RowsState) (n : ℕ) → Contains state.known n → AsksAll state state (λ v. v ≡ n)
asks_one_known state n known = asks_known (λ v e. subst (Contains state.known) (sym e) known)

-- one node became known, and else nothing changed
pub asks_one : (old : RowsState) (n : ℕ) (known : List ℕ) → Adds old.known n known → AsksAll old (record old { known = known }) (λ v. v ≡ n)
asks_one old n known adds = record {
  only = record {
    keeps = record {
      network = refl;
      bound = refl;
      source = refl;
      held = λ k row e. e;
      known = λ v k. (adds v).1 (inr k);
    };
    nothing_else = λ v k. ⊎_elim (λ same. inr same) (λ before. inl before) ((adds v).0 k);
  };
  all = λ v e. (adds v).1 (inl e);
}

-- the node under another name
pub one_named : {A E : Type 0} {old new : RowsState} {result : Result A E} (n m : ℕ) → n ≡ m → AsksFor old (λ v. v ≡ n) result new → AsksFor old (λ v. v ≡ m) result new
one_named {old = old} {new = new} {result = result} n m same asks = subst (λ k. AsksFor old (λ v. v ≡ k) result new) same asks

-- one node is asked for twice
pub asks_twice : {A E : Type 0} {s0 s1 s2 : RowsState} {result : Result A E} (n : ℕ) → AsksAll s0 s1 (λ v. v ≡ n) → AsksFor s1 (λ v. v ≡ n) result s2 → AsksFor s0 (λ v. v ≡ n) result s2
asks_twice n one two = asks_then one two (λ v h. ⊎_elim (λ x. x) (λ x. x) h) (λ v h. inl h)
