-- The same network, or the same fault, within larger limits.
use Rattle.std.proofs.Common.{◌≡◌, ℕ, ◌+◌, ◌≤◌, ◌++◌, Bool, true, false, cond, ltb, List, [], ◌∷◌, None, Some, Option, Result, Ok, Err, inl, inr, refl, sym, ap, ◌∙◌, arith, length}
use Rattle.std.proofs.lemmas.Bool.{cases_lt}
use Rattle.std.specs.Prelude.{IfErr, IfSome}
use Rattle.csv.specs.Reading.{default_config, records, strip_bom}
use Rattle.road_network.specs.declared.fault.NetworkFault.{NetworkFault}
use Rattle.road_network.specs.declared.fault.NetworkFault.TheVariants as fault
use Rattle.road_network.specs.declared.limits.NetworkLimits.TheVariants.{Standard, Large}
use Rattle.road_network.specs.LimitLaws.{LimitsAgree, is_limit_fault}
use Rattle.road_network.specs.Net.{Net, point_count}
use Rattle.road_network.specs.NetworkFile.{Row, add_record, add_records, add_row, first_fault, has_name, is_header, limit_faults, line_faults, network_of_records, next, no_net, row_of, unless, when, with_row}
use Rattle.road_network.proofs.Adding.{file-long, file-short}
use Rattle.road_network.proofs.Growing.{not-below}
use Rattle.road_network.proofs.Places.{lt-false}

-- the second is the first, unless the first passes a limit
abbrev AreSameFaults : Option NetworkFault → Option NetworkFault → Type 0
AreSameFaults a b = IfSome a (λ e. is_limit_fault e ≡ false) → b ≡ a

abbrev AreSame : {A : Type 0} → Result A NetworkFault → Result A NetworkFault → Type 0
AreSame a b = IfErr a (λ e. is_limit_fault e ≡ false) → b ≡ a

-- the faults of the limits, by what each limit says
abbrev four-faults : ℕ → Bool → Bool → Bool → Bool → List (Option NetworkFault)
four-faults rec a b c d = when a (fault.TooManyEdges rec) ∷ when b (fault.TooManyNodes rec) ∷ when c (fault.TooManyPoints rec) ∷ when d (fault.TooManyPoints rec) ∷ []

four-same : (rec : ℕ) (a b c d p q r : Bool) → (a ≡ false → p ≡ false) → (b ≡ false → q ≡ false) → (c ≡ false → r ≡ false)
    → AreSameFaults (first_fault (four-faults rec a b c d)) (first_fault (four-faults rec p q r d))
four-same rec true b c d p q r f g h = λ no. absurd (let wrong : true ≡ false = no in cc)
four-same rec false true c d p q r f g h = λ no. absurd (let wrong : true ≡ false = no in cc)
four-same rec false false true d p q r f g h = λ no. absurd (let wrong : true ≡ false = no in cc)
four-same rec false false false true p q r f g h = λ no. absurd (let wrong : true ≡ false = no in cc)
four-same rec false false false false p q r f g h = λ keeps. rw (f refl, g refl, h refl) refl

below-more : (a b n : ℕ) → a ≤ b → ltb a n ≡ false → ltb b n ≡ false
below-more a b n le few = lt-false b n (omega (arith, le, not-below a n few))

limits-same : (rec edges nodes points line : ℕ) → AreSameFaults (first_fault (limit_faults Standard rec edges nodes points line)) (first_fault (limit_faults Large rec edges nodes points line))
limits-same rec edges nodes points line =
    four-same rec (ltb 150_000 edges) (ltb 60_000 nodes) (ltb 1_000_000 points) (ltb 1_000_000 line) (ltb 1_000_000_000 edges) (ltb 1_000_000_000 nodes) (ltb 4_000_000_000 points)
    (below-more 150_000 1_000_000_000 edges (omega arith)) (below-more 60_000 1_000_000_000 nodes (omega arith)) (below-more 1_000_000 4_000_000_000 points (omega arith))

-- the same faults before them change nothing
after-same : (xs ys zs : List (Option NetworkFault)) → AreSameFaults (first_fault ys) (first_fault zs) → AreSameFaults (first_fault (xs ++ ys)) (first_fault (xs ++ zs))
after-same [] ys zs h = h
after-same (None ∷ xs) ys zs h = after-same xs ys zs h
after-same (Some x ∷ xs) ys zs h = λ keeps. refl

unless-same : {A : Type 0} (a b : Option NetworkFault) (value : A) → AreSameFaults a b → AreSame (unless a value) (unless b value)
unless-same None b value h = λ keeps. ap (λ o. unless o value) (h tt)
unless-same (Some e) b value h = λ keeps. ap (λ o. unless o value) (h keeps)

next-same : {A B : Type 0} (a b : Result A NetworkFault) (f g : A → Result B NetworkFault) → AreSame a b → ((x : A) → AreSame (f x) (g x)) → AreSame (next a f) (next b g)
next-same (Ok x) b f g h k = λ keeps. ap (λ o. next o g) (h tt) ∙ k x keeps
next-same (Err e) b f g h k = λ keeps. ap (λ o. next o g) (h keeps)

row-same : (n : Net) (r : Row) → AreSame (add_row Standard n r) (add_row Large n r)
unfolding add_row
row-same n r =
    let rec : ℕ = length n.edges + 1 in
    let m : Net = with_row n r in
    let earlier : List (Option NetworkFault) = when (has_name n r.name) (fault.DuplicateEdge rec) ∷ line_faults rec r.line in
    let small : List (Option NetworkFault) = limit_faults Standard rec (length m.edges) (length m.nodes) (point_count m.edges) (length r.line) in
    let large : List (Option NetworkFault) = limit_faults Large rec (length m.edges) (length m.nodes) (point_count m.edges) (length r.line) in
    unless-same (first_fault (earlier ++ small)) (first_fault (earlier ++ large)) m
    (after-same earlier small large (limits-same rec (length m.edges) (length m.nodes) (point_count m.edges) (length r.line)))

record-same : (n : Net) (fields : List (List ℕ)) → AreSame (add_record Standard n fields) (add_record Large n fields)
unfolding add_record
record-same n fields =
    let row = row_of (length n.edges + 1) fields in
    next-same row row (add_row Standard n) (add_row Large n) (λ keeps. refl) (row-same n)

records-same : (n : Net) (rows : List (List (List ℕ))) → AreSame (add_records Standard n rows) (add_records Large n rows)
unfolding add_records
records-same n [] = λ keeps. refl
records-same n (fields ∷ rows) =
    next-same (add_record Standard n fields) (add_record Large n fields) (λ m. add_records Standard m rows) (λ m. add_records Large m rows)
    (record-same n fields) (λ m. records-same m rows)

headed-same : (b : Bool) (rows : List (List (List ℕ))) → AreSame (cond b (add_records Standard no_net rows) (Err fault.BadHeader)) (cond b (add_records Large no_net rows) (Err fault.BadHeader))
headed-same true rows = records-same no_net rows
headed-same false rows = λ keeps. refl

rows-same : (rows : List (List (List ℕ))) → AreSame (network_of_records Standard rows) (network_of_records Large rows)
unfolding network_of_records
rows-same [] = λ keeps. refl
rows-same (names ∷ rows) = headed-same (is_header names) rows

pub limits-agree : LimitsAgree
limits-agree bytes keeps =
    elim (cases_lt 134_217_728 (length bytes)) [
      | inl long ↦
          let too_long = file-long Standard bytes long in
          let no : true ≡ false = rw too_long at keeps in
          cc
      | inr few ↦
          let small = file-short Standard bytes few in
          let large = file-short Large bytes (omega (arith, few)) in
          large ∙ rows-same (records default_config (strip_bom bytes)) (rw small at keeps) ∙ sym small
    ]
