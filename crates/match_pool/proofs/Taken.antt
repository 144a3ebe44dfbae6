-- What a worker has after a turn at a partition.
use Rattle.std.proofs.Common.{◌≡◌, inr, ℕ, suc, ◌<◌, ◌≤◌, List, [], ◌∷◌, ◌++◌, map, length, All, Any, Contains, refl, sym, ap, ◌∙◌, subst, ⊎_elim, append_assoc, arith}
use Rattle.std.proofs.lemmas.List.{get_or-map, length-map}
use Rattle.std.proofs.lemmas.List.Elements.{All-map, All-weaker, Contains-push_cases}
use Rattle.std.proofs.lemmas.List.Folds.{list_any_at}
use Rattle.row_store.specs.Store.{Reading}
use Rattle.tickets.specs.Tickets.{Drawn, fresh_ticket}
use Rattle.match_pool.specs.declared.turn.Partition.{Partition}
use Rattle.match_pool.specs.declared.turn.Turn.{Turn}
use Rattle.match_pool.specs.declared.worker.Done.{Done}
use Rattle.match_pool.specs.Drawing.{WorksOn, number_of_rank}
use Rattle.match_pool.specs.inside.Turns.{IsOver, IsPartitionOf, Learns}
use Rattle.match_pool.specs.Working.{Job, asks_at}
use Rattle.match_pool.proofs.Lists.{default_same}

late_last : (n last : ℕ) (xs : List ℕ) → n ≤ last → Any (λ x. n ≤ x) (xs ++ last ∷ [])
late_last n last [] late = (0, last, omega arith, refl, late)
late_last n last (x ∷ xs) late = let rest = late_last n last xs late in (suc rest.0, rest.1, (let lt = rest.2 in omega arith), rest.3, rest.4)

contains_map : {A B : Type 0} (f : A → B) (xs : List A) (x : A) → Contains xs x → Contains (map f xs) (f x)
contains_map f xs x c = (c.0, (let lt = c.1 in let same = length-map xs f in omega arith), get_or-map f xs c.0 x (f x) c.1 ∙ ap f c.2)

-- the ranks that a ticket drew which had drawn nothing before
drawn-is_ranked : (j : Job) (partition : List ℕ) (reader : Reading) (ticket : Drawn) (done : List Done) (reader' : Reading) (ticket' : Drawn) (w : WorksOn j partition reader ticket done reader' ticket') → ticket.numbers ≡ [] → (k : ℕ) → k < length partition → Contains ticket'.numbers k → Contains w.ranks k
drawn-is_ranked j partition reader ticket done reader' ticket' w fresh k low c =
    let whole : ticket'.numbers ≡ w.ranks ++ w.last ∷ [] = w.drawn ∙ ap (λ (l : List ℕ). l ++ (w.ranks ++ w.last ∷ [])) fresh in
    let here : Contains (w.ranks ++ w.last ∷ []) k = subst (λ (l : List ℕ). Contains l k) whole c in
    ⊎_elim (λ inside. inside) (λ (same : w.last ≡ k). let above = w.above in absurd (omega (arith, same))) (Contains-push_cases w.ranks w.last k here)

numbers_inside : (partition ranks : List ℕ) → All (λ k. k < length partition) ranks → All (Contains partition) (map (number_of_rank partition) ranks)
numbers_inside partition ranks below =
    All-map (Contains partition) (number_of_rank partition) ranks
    (All-weaker (λ k. k < length partition) (λ k. Contains partition (number_of_rank partition k))
    (λ k low. (k, low, default_same partition k (number_of_rank partition k) 0 low)) ranks below)

pub turn_over : (j : Job) (partition : Partition) (reader : Reading) (ticket : Drawn) (turn : Turn) (reader' : Reading) → IsPartitionOf j partition → ticket ≡ fresh_ticket partition.claims.name → turn.ticket.claims ≡ ticket.claims
    → WorksOn j partition.numbers reader ticket turn.done reader' turn.ticket → IsOver j partition turn
turn_over j partition reader ticket turn reader' is fresh claims w =
    let none : ticket.numbers ≡ [] = ap (λ (t : Drawn). t.numbers) fresh in
    let whole : turn.ticket.numbers ≡ (ticket.numbers ++ w.ranks) ++ w.last ∷ [] = w.drawn ∙ sym (append_assoc ticket.numbers w.ranks (w.last ∷ [])) in
    record {
      own = claims ∙ ap (λ (t : Drawn). t.claims) fresh;
      ended = subst (λ (l : List ℕ). Any (λ x. partition.claims.count ≤ x) l) (sym whole)
          (late_last partition.claims.count w.last (ticket.numbers ++ w.ranks) (let above = w.above in omega (arith, is.all)));
      answers = record {
        numbers = map (number_of_rank partition.numbers) w.ranks;
        are = w.answers;
        inside = numbers_inside partition.numbers w.ranks w.below;
        all = λ rank low c. contains_map (number_of_rank partition.numbers) w.ranks rank (drawn-is_ranked j partition.numbers reader ticket turn.done reader' turn.ticket w none rank low c);
      };
    }

pub turn_learns : (j : Job) (partition : Partition) (reader : Reading) (ticket : Drawn) (turn : Turn) (reader' : Reading) → ticket ≡ fresh_ticket partition.claims.name
    → WorksOn j partition.numbers reader ticket turn.done reader' turn.ticket → Learns j partition turn reader'
turn_learns j partition reader ticket turn reader' fresh w rank v low c asked =
    let none : ticket.numbers ≡ [] = ap (λ (t : Drawn). t.numbers) fresh in
    let at = number_of_rank partition.numbers in
    let inside : Contains (map at w.ranks) (at rank) = contains_map at w.ranks rank (drawn-is_ranked j partition.numbers reader ticket turn.done reader' turn.ticket w none rank low c) in
    (w.learns v).1 (inr (list_any_at (asks_at j v) (map at w.ranks) inside.0 (at rank) inside.1 (ap (asks_at j v) inside.2 ∙ asked)))
