-- What positions leave of the drives, from what those at the front leave.
use Rattle.std.proofs.Common.{ℕ, List, [], ◌∷◌, ◌≡◌, ◌++◌, refl, sym, ◌∙◌, ap}
use Rattle.trace_sessions.specs.Drives.{Fleet, ended_among, ended_at, fleet_after, fleet_after_all}
use Rattle.trace_sessions.specs.StreamText.{Point}
use Rattle.std.proofs.lemmas.List.{append_assoc}

pub rows-append : (idle : ℕ) (fleet : Fleet) (front back : List Point) → fleet_after_all idle fleet (front ++ back) ≡ fleet_after_all idle (fleet_after_all idle fleet front) back
rows-append idle fleet [] back = refl
rows-append idle fleet (x ∷ front) back = rows-append idle (fleet_after idle fleet x) front back

pub ended-append : (idle : ℕ) (fleet : Fleet) (front back : List Point)
    → ended_among idle fleet (front ++ back) ≡ ended_among idle fleet front ++ ended_among idle (fleet_after_all idle fleet front) back
ended-append idle fleet [] back = refl
ended-append idle fleet (x ∷ front) back =
    let next = fleet_after idle fleet x in
    ap (λ ds. ended_at idle fleet x ++ ds) (ended-append idle next front back)
    ∙ sym (append_assoc (ended_at idle fleet x) (ended_among idle next front) (ended_among idle (fleet_after_all idle next front) back))
