-- The test of the three rules of a row decides them.
use Rattle.std.proofs.Common.{◌≡◌, ℕ, ◌+◌, Bool, true, false, eqb, eq-eqb, ◌&&◌, ◌||◌, List, [], ◌∷◌, Option, Some, None, refl, sym, ◌∙◌, rules}
use Rattle.std.specs.Prelude.{nat_le, is_none, is_some}
use Rattle.std.specs.List.{All, list_all}
use Rattle.std.specs.Option.{IsSome}
use Rattle.std.proofs.lemmas.Bool.{eqb-true, false≢true, ne_eqb}
use Rattle.std.proofs.lemmas.List.Elements.{All-cons, All-head, All-nil, All-tail}
use Rattle.bounded_table.specs.Closed.{origin_label}
use Rattle.bounded_table.specs.RowRules.{IsRowEntry, MeetsRowRules}
use Rattle.bounded_table.specs.Table.{RisesFrom, TableRow, label_in}
use Rattle.bounded_table.specs.declared.table_row.Entry.{Entry}
use Rattle.bounded_table.specs.declared.table_row.Label.{Label}
use Rattle.road_network.specs.declared.EdgeId.{EdgeId}
use Rattle.row_text.specs.Reading.{is_origin_label, is_row_entry, meets_row_rules, rises_from}

both : (a b : Bool) → a && b ≡ true → (a ≡ true) × (b ≡ true)
both true b h = (refl, h)
both false b h = absurd cc

-- ---- the nodes rise

rises : (b : ℕ) (entries : List Entry) → rises_from b entries ≡ true → RisesFrom b entries
rises b [] h = tt
rises b (x ∷ entries) h =
    let parts = both (nat_le b x.node.0) (rises_from (x.node.0 + 1) entries) h in
    (search (rules, parts.0), rises (x.node.0 + 1) entries parts.1)

rises_again : (b : ℕ) (entries : List Entry) → RisesFrom b entries → rises_from b entries ≡ true
rises_again b [] h = refl
rises_again b (x ∷ entries) h =
    let first : nat_le b x.node.0 ≡ true = search (rules, h.0) in
    rw first (rises_again (x.node.0 + 1) entries h.1)

-- ---- the origin

no_last : (last : Option EdgeId) → is_none last ≡ true → last ≡ None
no_last None h = refl
no_last (Some e) h = absurd cc

is_origin : (label : Option Label) → is_origin_label label ≡ true → label ≡ Some origin_label
is_origin None h = absurd cc
is_origin (Some l) h =
    let parts = both (eqb l.distance 0) (is_none l.last) h in
    let distance = eqb-true l.distance 0 parts.0 in
    let last = no_last l.last parts.1 in
    λ i. Some (record { distance = distance i; last = last i })

is_origin_again : (label : Option Label) → label ≡ Some origin_label → is_origin_label label ≡ true
is_origin_again label e = rw e refl

-- ---- the other entries

some_last : (last : Option EdgeId) → is_some last ≡ true → IsSome last
some_last None h = absurd cc
some_last (Some e) h = search rules

some_last_again : (last : Option EdgeId) → IsSome last → is_some last ≡ true
some_last_again None h = search (rules, h)
some_last_again (Some e) h = refl

entry_rule : (s : ℕ) (x : Entry) → is_row_entry s x ≡ true → IsRowEntry s x
entry_rule s x h other =
    let test : (nat_le 1 x.distance && is_some x.last) ≡ true = rw (ne_eqb x.node.0 s other) at h in
    let parts = both (nat_le 1 x.distance) (is_some x.last) test in
    (search (rules, parts.0), some_last x.last parts.1)

entry_rule_again : (s : ℕ) (x : Entry) → IsRowEntry s x → is_row_entry s x ≡ true
entry_rule_again s x h = by_node (eqb x.node.0 s) refl
  where
    by_node : (same : Bool) → eqb x.node.0 s ≡ same → same || (nat_le 1 x.distance && is_some x.last) ≡ true
    by_node true is = refl
    by_node false is =
        let rule = h (λ e. false≢true (sym is ∙ eq-eqb x.node.0 s e)) in
        let far : nat_le 1 x.distance ≡ true = search (rules, rule.0) in
        rw far (some_last_again x.last rule.1)

others_met : (s : ℕ) (entries : List Entry) → list_all (is_row_entry s) entries ≡ true → All (IsRowEntry s) entries
others_met s [] h = All-nil (IsRowEntry s)
others_met s (x ∷ entries) h =
    let parts = both (is_row_entry s x) (list_all (is_row_entry s) entries) h in
    All-cons (IsRowEntry s) x entries (entry_rule s x parts.0) (others_met s entries parts.1)

others_test : (s : ℕ) (entries : List Entry) → All (IsRowEntry s) entries → list_all (is_row_entry s) entries ≡ true
others_test s [] h = refl
others_test s (x ∷ entries) h =
    rw (entry_rule_again s x (All-head (IsRowEntry s) x entries h)) (others_test s entries (All-tail (IsRowEntry s) x entries h))

-- ---- all three

pub rules_met : (row : TableRow) → meets_row_rules row ≡ true → MeetsRowRules row
rules_met row h =
    let origin = is_origin_label (label_in row.entries row.origin) in
    let others = list_all (is_row_entry row.origin) row.entries in
    let first = both (rises_from 0 row.entries && origin) others h in
    let second = both (rises_from 0 row.entries) origin first.0 in
    record {
      rising = rises 0 row.entries second.0;
      origin = is_origin (label_in row.entries row.origin) second.1;
      others = others_met row.origin row.entries first.1;
    }

pub rules_test : (row : TableRow) → MeetsRowRules row → meets_row_rules row ≡ true
rules_test row h =
    rw (rises_again 0 row.entries h.rising, is_origin_again (label_in row.entries row.origin) h.origin) (others_test row.origin row.entries h.others)
