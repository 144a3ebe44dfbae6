-- What the conditions say of the pieces that end with a point.
use Rattle.std.proofs.Common.{◌≡◌, ◌<◌, ℕ, ◌+◌, ◌-◌, ◌==◌, Bool, List, length, map, Option, Some, None, refl, subst}
use Rattle.std.specs.Prelude.{◌||◌, not}
use Rattle.std.specs.Bool.{Decides}
use Rattle.std.specs.Option.{option_eq}
use Rattle.std.proofs.lemmas.Bool.{false≢true}
use Rattle.std.proofs.lemmas.Bool.Decides.{Decides-and, Decides-eqb}
use Rattle.std.proofs.lemmas.Slice.Eq.{slice_eq-Decides}
use Rattle.road_network.specs.Net.{edge_name}
use Rattle.matching.specs.declared.parts.Cell.{Cell}
use Rattle.match_text.specs.declared.matched.Routed.{Routed}
use Rattle.route_rebuild.specs.Routes.{route_of}
use Rattle.cert_checker.specs.Case.{Case, rank, table}
use Rattle.cert_checker.specs.Cells.{is_least_rank, pointer_of}
use Rattle.cert_checker.specs.Verdicts.{follows_pointers, has_route, is_chosen, each_ended, piece_without_route}
use Rattle.cert_checker.proofs.ListTests.{each_below_n, each_element, implied, same_options}
use Rattle.cert_checker.proofs.CellTests.{IsLeastRank, is_least, least_rank}
use Rattle.cert_checker.proofs.PieceTests.{no_piece, piece_no}

-- ---- the end of a piece

-- the chosen rank of the last point is the least rank of least cost, and the others are those of the pointers
pub record IsChosenFor (c : Case) (q : Routed) : Type 0 where
  pub chosen : ℕ
  pub chosen-is : rank c q.last ≡ Some chosen
  pub least : IsLeastRank (table c q.last) chosen q.cost
  pub follows : (k : ℕ) → k < q.last - q.first → rank c (q.first + k) ≡ pointer_of (table c (q.first + k + 1)) (rank c (q.first + k + 1))

follows_told : (c : Case) (q : Routed) → Decides (follows_pointers c q)
    ((k : ℕ) → k < q.last - q.first → rank c (q.first + k) ≡ pointer_of (table c (q.first + k + 1)) (rank c (q.first + k + 1)))
follows_told c q =
    let next = λ (k : ℕ). pointer_of (table c (q.first + k + 1)) (rank c (q.first + k + 1)) in
    each_below_n (λ k. rank c (q.first + k) ≡ next k) (λ k. option_eq (λ (a b : ℕ). a == b) (rank c (q.first + k)) (next k)) (q.last - q.first)
    (λ k. same_options (rank c (q.first + k)) (next k))

-- a rank that is the least
abbrev IsLeastSome : List Cell → Option ℕ → ℕ → Type 0
IsLeastSome cells o c = (r : ℕ) × (o ≡ Some r) × IsLeastRank cells r c

least_some : (cells : List Cell) (o : Option ℕ) (c : ℕ) → Decides (is_least_rank cells o c) (IsLeastSome cells o c)
least_some cells None c = (λ e. absurd (false≢true e), λ h. absurd (let e = h.1 in cc))
least_some cells (Some r) c =
    (λ e. (r, refl, least_rank cells r c e), λ h. let e = h.1 in let same : h.0 ≡ r = cc in is_least cells r c (subst (λ v. IsLeastRank cells v c) same h.2))

pub chosen : (c : Case) (q : Routed) → Decides (is_chosen c q) (IsChosenFor c q)
chosen c q =
    let d = Decides-and (is_least_rank (table c q.last) (rank c q.last) q.cost) (follows_pointers c q)
    (least_some (table c q.last) (rank c q.last) q.cost) (follows_told c q) in (
      λ e. let h = d.0 e in record { chosen = h.0.0; chosen-is = h.0.1; least = h.0.2; follows = h.1 },
      λ h. d.1 ((h.chosen, h.chosen-is, h.least), h.follows),
    )

-- the route is that of the piece
abbrev pub HasItsRoute : Case → Routed → Type 0
HasItsRoute c q = q.route ≡ map (edge_name c.net) (route_of c.net c.params c.layers c.proof.ranks (piece_without_route q))

pub routed : (c : Case) (q : Routed) → Decides (has_route c q) (HasItsRoute c q)
routed c q =
    slice_eq-Decides (λ a b. Decides-eqb a b) q.route (map (edge_name c.net) (route_of c.net c.params c.layers c.proof.ranks (piece_without_route q))) (has_route c q) refl

-- a test of each piece that ends with point i
abbrev pub EachEnded : (Routed → Type 0) → Case → ℕ → Type 0
EachEnded P c i = (k : ℕ) → k < length c.proof.pieces → (piece_no c.proof.pieces k).last ≡ i → P (piece_no c.proof.pieces k)

pub ended : (P : Routed → Type 0) (test : Routed → Bool) (c : Case) (i : ℕ) → ((q : Routed) → Decides (test q) (P q)) → Decides (each_ended test c i) (EachEnded P c i)
ended P test c i each =
    each_element (λ q. q.last ≡ i → P q) (λ q. not (q.last == i) || test q) no_piece c.proof.pieces
    (λ q. implied (q.last == i) (test q) (Decides-eqb q.last i) (each q))
