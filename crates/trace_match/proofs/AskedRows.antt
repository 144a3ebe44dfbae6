-- What traces make known, one after the other.
use Rattle.std.proofs.Common.{◌≡◌, ℕ, ◌+◌, ◌<◌, Bool, true, false, ◌||◌, List, [], ◌∷◌, ◌++◌, length, take, get_or, refl, sym, ◌∙◌, subst, inl, inr, ⊎_elim}
use Rattle.std.proofs.lemmas.Bool.{or_left}
use Rattle.bounded_table.specs.Rows.{AreRowsOf, AsksAll, Keeps, RowsState}
use Rattle.trace_match.specs.Match.{asks}
use Rattle.trace_reader.specs.declared.trace.Trace.{Trace}
use Rattle.trace_match.specs.inside.Asked.{AsksTraces, LearnsAsked}
use Rattle.trace_match.specs.Setting.{Setting}
use Rattle.trace_match.proofs.Asking.{asked_parts}
use Rattle.trace_match.proofs.Traces.{next_trace}

-- what more traces make known is added
learns_then : (on : Setting) (front back : List Trace) (k0 k1 k2 : List ℕ) → LearnsAsked on front k0 k1 → LearnsAsked on back k1 k2 → LearnsAsked on (front ++ back) k0 k2
learns_then on front back k0 k1 k2 one two v =
    let parts = asked_parts on front back v in (
      λ has.
          ⊎_elim (λ now. ⊎_elim (λ old. inl old) (λ is. inr (parts.1 (inl is))) ((one v).0 now))
          (λ is. inr (parts.1 (inr is))) ((two v).0 has),
      λ either.
          ⊎_elim (λ old. (two v).1 (inl ((one v).1 (inl old))))
          (λ is. ⊎_elim (λ front_is. (two v).1 (inl ((one v).1 (inr front_is)))) (λ back_is. (two v).1 (inr back_is)) (parts.0 is)) either,
    )

-- the next of some traces
learns_more : (on : Setting) (traces : List Trace) (i : ℕ) (trace : Trace) (k0 k1 k2 : List ℕ) → i < length traces → trace ≡ get_or traces i trace → LearnsAsked on (take i traces) k0 k1 → LearnsAsked on (trace ∷ []) k1 k2 → LearnsAsked on (take (i + 1) traces) k0 k2
learns_more on traces i trace k0 k1 k2 low is before one =
    subst (λ t. LearnsAsked on t k0 k2) (sym (next_trace traces i trace low is)) (learns_then on (take i traces) (trace ∷ []) k0 k1 k2 before one)

-- the rows after they were asked are those of the same network and bound
rows_kept : (on : Setting) (old new : RowsState) → AreRowsOf old on.network on.params.bound → Keeps old new → AreRowsOf new on.network on.params.bound
rows_kept on old new are keeps = record { network = keeps.network ∙ are.network; bound = keeps.bound ∙ are.bound }

only_first : (b : Bool) → (b || false) ≡ true → b ≡ true
only_first true is = refl
only_first false is = is

-- what one trace asks for became known
learns_one : (on : Setting) (trace : Trace) (old new : RowsState) → AsksAll old new (λ v. asks on.network on.params trace v ≡ true) → LearnsAsked on (trace ∷ []) old.known new.known
learns_one on trace old new asked v =
    let one = asks on.network on.params trace v in (
      λ has. ⊎_elim (λ known. inl known) (λ is. inr (or_left one false is)) (asked.only.nothing_else v has),
      λ either. ⊎_elim (asked.only.keeps.known v) (λ is. asked.all v (only_first one is)) either,
    )

-- before the first trace
pub asks_none : (on : Setting) (rows : RowsState) → AreRowsOf rows on.network on.params.bound → AsksTraces on [] rows rows
asks_none on rows are = record { rows = are; learns = λ v. (λ has. inl has, λ either. ⊎_elim (λ has. has) (λ (is : false ≡ true). absurd (cc is)) either) }

-- the next of some traces was matched
pub asks_next : (on : Setting) (traces : List Trace) (i : ℕ) (trace : Trace) (first old new : RowsState) → i < length traces → trace ≡ get_or traces i trace → AsksTraces on (take i traces) first old → AsksAll old new (λ v. asks on.network on.params trace v ≡ true) → AsksTraces on (take (i + 1) traces) first new
asks_next on traces i trace first old new low is before asked = record {
  rows = rows_kept on old new before.rows asked.only.keeps;
  learns = learns_more on traces i trace first.known old.known new.known low is before.learns (learns_one on trace old new asked);
}
