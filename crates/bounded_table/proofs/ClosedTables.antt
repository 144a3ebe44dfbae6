-- A closed table is the table, and the table is closed.
use Rattle.std.proofs.Common.{◌≡◌, ℕ, zero, suc, ◌+◌, ◌<◌, ◌≤◌, ◌≢◌, inl, inr, List, [], ◌∷◌, Option, Some, None, refl, sym, ap, subst, ◌∙◌, arith}
use Rattle.std.proofs.lemmas.Bool.Decides.{eqb_tells}
use Rattle.std.proofs.lemmas.Bool.{cases_lt}
use Rattle.std.proofs.lemmas.Option.{same_Some}
use Rattle.std.specs.Option.{IsSome}
use Rattle.road_network.specs.Net.{Net, HasEdge, IsLawful, source, target, span}
use Rattle.road_network.specs.Walk.{IsWalk, IsLeastWalk, IsAtMost, walk_length}
use Rattle.road_network.specs.declared.EdgeId.{EdgeId}
use Rattle.bounded_table.specs.declared.table_row.Label.{Label}
use Rattle.bounded_table.specs.Table.{IsTable, IsLabelOf, last_edge}
use Rattle.bounded_table.specs.Closed.{IsClosed, IsReached, IsRelaxed, IsNoWorse, origin_label}

-- at the end of each walk within the bound there is a label, no longer than the walk
pub record IsCovered (n : Net) (table : ℕ → Option Label) (v : ℕ) (d : ℕ) : Type 0 where
  pub label : Label
  pub listed : table v ≡ Some label
  pub short : label.distance ≤ d

pub covered : (n : Net) (bound s : ℕ) (table : ℕ → Option Label) → IsClosed n bound s table → (w : List ℕ) (v : ℕ) → IsWalk n s w v → walk_length n w ≤ bound → IsCovered n table v (walk_length n w)
covered n bound s table closed [] v walk short = record { label = origin_label; listed = ap table (sym walk) ∙ closed.origin; short = omega arith }
covered n bound s table closed (e ∷ w) v walk short =
    let front : IsCovered n table (source n e) (walk_length n w) = covered n bound s table closed w (source n e) walk.2 (omega arith) in
    let r : IsRelaxed n table e (front.label.distance + span n e) = (closed.closed (source n e) front.label front.listed).relaxed e walk.0 refl (omega (arith, front.short)) in
    record {
      label = r.label;
      listed = ap table (sym walk.1) ∙ r.listed;
      short = elim r.no_worse [ inl h ↦ omega (arith, front.short) | inr h ↦ omega (arith, front.short, h.1) ];
    }

-- the empty walk is before every other
empty_first : (n : Net) (x : List ℕ) → IsAtMost n [] x
empty_first n x = elim (cases_lt 0 (walk_length n x)) [ inl h ↦ inl h | inr h ↦ inr (omega arith, tt) ]

-- where a label comes by an edge after the least walk, that walk and the edge are the least walk
extended : (n : Net) (bound s : ℕ) (table : ℕ → Option Label) → IsClosed n bound s table → (v : ℕ) (l : Label) → table v ≡ Some l → v ≢ s → (en : IsReached n table v l) → (pre : IsLabelOf n bound s (source n en.edge) en.before) → (x : List ℕ) → IsWalk n s x v → IsAtMost n (en.edge ∷ pre.walk) x
extended n bound s table closed v l h apart en pre [] hx = absurd (apart (sym hx))
extended n bound s table closed v l h apart en pre (f ∷ y) hx =
    elim (cases_lt l.distance (walk_length n (f ∷ y))) [
      | inl longer ↦ inl (omega (arith, pre.distance, en.distance))
      | inr short ↦
          let limit : l.distance ≤ bound = (closed.closed v l h).within in
          let cov : IsCovered n table (source n f) (walk_length n y) = covered n bound s table closed y (source n f) hx.2 (omega arith) in
          let r : IsRelaxed n table f (cov.label.distance + span n f) = (closed.closed (source n f) cov.label cov.listed).relaxed f hx.0 refl (omega (arith, cov.short)) in
          let same : r.label ≡ l = same_Some r.label l (sym r.listed ∙ (ap table hx.1 ∙ h)) in
          let same_distance : r.label.distance ≡ l.distance = ap (λ (k : Label). k.distance) same in
          elim r.no_worse [
            | inl lt ↦ absurd (omega (arith, cov.short))
            | inr w ↦
                let edge_up : en.edge ≤ f =
                let e : w.0 ≡ record { 0 = en.edge } = same_Some w.0 (record { 0 = en.edge }) (sym w.2 ∙ (ap (λ (k : Label). k.last) same ∙ en.last)) in
                let e2 : w.0.0 ≡ en.edge = ap (λ (k : EdgeId). k.0) e in
                omega (arith, w.3) in
                let lengths : walk_length n (en.edge ∷ pre.walk) ≡ walk_length n (f ∷ y) = omega (arith, pre.distance, en.distance, w.1, cov.short) in
                elim (cases_lt en.edge f) [
                  | inl lt ↦ inr (lengths, inl lt)
                  | inr ge ↦
                      let e : f ≡ en.edge = omega arith in
                      let rest : IsAtMost n pre.walk y = pre.least.least y (subst (λ k. IsWalk n s y (source n k)) e hx.2) in
                      let spans : span n f ≡ span n en.edge = ap (span n) e in
                      elim rest [
                        | inl lt ↦ absurd (omega (arith, lengths))
                        | inr p ↦ inr (lengths, inr (sym e, p.1))
                      ]
                ]
          ]
    ]

least_of : (n : Net) (bound s : ℕ) (table : ℕ → Option Label) → IsLawful n → IsClosed n bound s table → (k : ℕ) (v : ℕ) (l : Label) → table v ≡ Some l → l.distance < k → IsLabelOf n bound s v l
least_of n bound s table lawful closed zero v l h lt = absurd (omega arith)
least_of n bound s table lawful closed (suc k) v l h lt =
    elim (eqb_tells v s) [
      | inl e ↦
          let same : l ≡ origin_label = same_Some l origin_label (sym h ∙ (ap table e.1 ∙ closed.origin)) in
          record {
            walk = [];
            least = record { walk = sym e.1; least = λ x hx. empty_first n x };
            distance = ap (λ (k : Label). k.distance) same;
            last = ap (λ (k : Label). k.last) same;
            within = (closed.closed v l h).within;
          }
      | inr e ↦
          let en : IsReached n table v l = (closed.closed v l h).reached e.1 in
          let pre : IsLabelOf n bound s (source n en.edge) en.before = least_of n bound s table lawful closed k (source n en.edge) en.before en.listed (omega (arith, en.distance, lawful.not_empty en.edge en.has)) in
          record {
            walk = en.edge ∷ pre.walk;
            least = record { walk = (en.has, en.ends, pre.least.walk); least = extended n bound s table closed v l h e.1 en pre };
            distance = omega (arith, en.distance, pre.distance);
            last = en.last;
            within = (closed.closed v l h).within;
          }
    ]

pub some_there : {A : Type 0} (o : Option A) (x : A) → o ≡ Some x → IsSome o
some_there o x h = subst (λ (k : Option _). IsSome k) (sym h) refl

-- a closed table is the table
pub table_of_closed : (n : Net) (bound s : ℕ) (table : ℕ → Option Label) → IsLawful n → IsClosed n bound s table → IsTable n bound s table
table_of_closed n bound s table lawful closed = record {
  reached = λ v w walk short. let c : IsCovered n table v (walk_length n w) = covered n bound s table closed w v walk short in some_there (table v) c.label c.listed;
  listed = λ v l h. least_of n bound s table lawful closed (suc l.distance) v l h (omega arith);
}

pub none_some : {A : Type 0} {o : Option A} {x : A} → o ≡ None → o ≡ Some x → ⊥
none_some a b = cc

-- what a test for Some gives
pub record Found (table : ℕ → Option Label) (v : ℕ) : Type 0 where
  pub label : Label
  pub listed : table v ≡ Some label

pub found : (table : ℕ → Option Label) (v : ℕ) (o : Option Label) → table v ≡ o → IsSome o → Found table v
found table v None e h = cc
found table v (Some l) e h = record { label = l; listed = e }

no_longer : (n : Net) (x y : List ℕ) → IsAtMost n x y → walk_length n x ≤ walk_length n y
no_longer n x y h = elim h [ inl lt ↦ omega arith | inr p ↦ omega (arith, p.0) ]

-- nothing but the empty walk is as small as the empty walk
at_most_empty : (n : Net) (w : List ℕ) → IsAtMost n w [] → w ≡ []
at_most_empty n [] h = refl
at_most_empty n (e ∷ w) h = elim h [ inl lt ↦ absurd (omega arith) | inr p ↦ absurd p.1 ]

pub same_label : (a b : Label) → a.distance ≡ b.distance → a.last ≡ b.last → a ≡ b
same_label a b d l =
    ap (λ (k : ℕ). record { distance = k; last = a.last }) d ∙ ap (λ (k : Option EdgeId). record { distance = b.distance; last = k }) l

starts : (n : Net) (bound s : ℕ) (table : ℕ → Option Label) → IsTable n bound s table → table s ≡ Some origin_label
starts n bound s table is =
    let f : Found table s = found table s (table s) refl (is.reached s [] refl (omega arith)) in
    let t : IsLabelOf n bound s s f.label = is.listed s f.label f.listed in
    let e : t.walk ≡ [] = at_most_empty n t.walk (t.least.least [] refl) in
    let d : f.label.distance ≡ 0 = t.distance ∙ ap (walk_length n) e in
    f.listed ∙ ap Some (same_label f.label origin_label d (t.last ∙ ap last_edge e))

ended_by : (n : Net) (bound s : ℕ) (table : ℕ → Option Label) → IsLawful n → IsTable n bound s table → (v : ℕ) (l : Label) (w : List ℕ) → IsLeastWalk n s w v → l.distance ≡ walk_length n w → l.last ≡ last_edge w → l.distance ≤ bound → v ≢ s → IsReached n table v l
ended_by n bound s table lawful is v l [] least d last short apart = absurd (apart (sym least.walk))
ended_by n bound s table lawful is v l (e ∷ y) least d last short apart =
    let walk : IsWalk n s (e ∷ y) v = least.walk in
    let f : Found table (source n e) = found table (source n e) (table (source n e)) refl (is.reached (source n e) y walk.2 (omega arith)) in
    let t : IsLabelOf n bound s (source n e) f.label = is.listed (source n e) f.label f.listed in
    let up : walk_length n t.walk ≤ walk_length n y = no_longer n t.walk y (t.least.least y walk.2) in
    let down : walk_length n (e ∷ y) ≤ walk_length n (e ∷ t.walk) = no_longer n (e ∷ y) (e ∷ t.walk) (least.least (e ∷ t.walk) (walk.0, walk.1, t.least.walk)) in
    record {
      edge = e;
      has = walk.0;
      ends = walk.1;
      before = f.label;
      listed = f.listed;
      distance = omega (arith, t.distance);
      last = last;
    }

no_worse_by : (n : Net) (s : ℕ) → IsLawful n → (l : Label) (x w : List ℕ) (e : ℕ) → HasEdge n e → l.distance ≡ walk_length n x → l.last ≡ last_edge x → IsAtMost n x (e ∷ w) → IsNoWorse l (walk_length n w + span n e) e
no_worse_by n s lawful l [] w e has d last h =
    inl (omega (arith, lawful.not_empty e has))
no_worse_by n s lawful l (f ∷ y) w e has d last h =
    elim h [
      | inl lt ↦ inl (omega arith)
      | inr p ↦ inr (record { 0 = f }, omega (arith, p.0), last, elim p.1 [ inl lt ↦ omega arith | inr q ↦ omega (arith, q.0) ])
    ]

-- the table is closed
pub closed_of_table : (n : Net) (bound s : ℕ) (table : ℕ → Option Label) → IsLawful n → IsTable n bound s table → IsClosed n bound s table
closed_of_table n bound s table lawful is = record {
  origin = starts n bound s table is;
  closed = λ v l h.
      let t : IsLabelOf n bound s v l = is.listed v l h in
      record {
        within = t.within;
        reached = λ apart. ended_by n bound s table lawful is v l t.walk t.least t.distance t.last t.within apart;
        relaxed = λ e has from short.
            let at : IsWalk n s t.walk (source n e) = subst (λ (k : ℕ). IsWalk n s t.walk k) (sym from) t.least.walk in
            let long : walk_length n (e ∷ t.walk) ≡ l.distance + span n e = omega (arith, t.distance) in
            let f : Found table (target n e) = found table (target n e) (table (target n e)) refl (is.reached (target n e) (e ∷ t.walk) (has, refl, at) (omega arith)) in
            let u : IsLabelOf n bound s (target n e) f.label = is.listed (target n e) f.label f.listed in
            record {
              label = f.label;
              listed = f.listed;
              no_worse = subst (λ (d : ℕ). IsNoWorse f.label d e) long (no_worse_by n s lawful f.label u.walk t.walk e has u.distance u.last (u.least.least (e ∷ t.walk) (has, refl, at)));
            };
      };
}
