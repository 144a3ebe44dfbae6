-- What a way costs, by what a link tells.
use Rattle.std.proofs.Common.{◌≡◌, ℕ, Option, Some, None, MatchOption, refl, sym, ◌∙◌, ap, subst}
use Rattle.std.specs.Option.{option_map}
use Rattle.polyline_geometry.specs.Plane.{straight}
use Rattle.cost_model.specs.declared.params.Params.{Params}
use Rattle.cost_model.specs.Costs.{transition}
use Rattle.road_network.specs.declared.Candidate.{Candidate}
use Rattle.road_network.specs.Net.{Net, target}
use Rattle.bounded_table.specs.Table.{IsRow, TableRow}
use Rattle.matching.specs.declared.parts.Layer.{Layer}
use Rattle.matching.specs.Layers.{candidate_of_rank, end_of, trellis}
use Rattle.matching.specs.Routes.{HasNoRoute}
use Rattle.trellis.specs.declared.parts.Link.{Link}
use Rattle.trellis.specs.Links.{IsLinkOf, TellsRoute}
use Rattle.trellis.proofs.RouteOfRow.{link_length}
use Rattle.trellis.proofs.Ways.{IsMove}

-- what a route costs that a link tells of
abbrev pub link_cost : Params → ℕ → Option Link → Option ℕ
link_cost p apart link = option_map (λ (k : Link). transition p k.length apart) link

mapped : (p : Params) (apart : ℕ) (link : Option Link) → option_map (λ k. transition p k apart) (option_map (λ (k : Link). k.length) link) ≡ link_cost p apart link
mapped p apart None = refl
mapped p apart (Some k) = refl

told_of : {m l : Layer} {a j apart : ℕ} {x y : Candidate} (n : Net) (p : Params) (row : TableRow) (link : Option Link) → IsMove n m l a j apart x y
    → IsRow n p.bound (end_of n m a) row → TellsRoute n p.back x y row link
    → MatchOption link (HasNoRoute n p.bound p.back (candidate_of_rank m a) (candidate_of_rank l j)) (IsLinkOf n p.bound p.back (candidate_of_rank m a) (candidate_of_rank l j))
told_of {m = m} {l = l} {a = a} {j = j} {x = x} {y = y} n p row link move is tells =
    let Told : Candidate → Candidate → Type 0 = λ v w. MatchOption link (HasNoRoute n p.bound p.back v w) (IsLinkOf n p.bound p.back v w) in
    let row_is : IsRow n p.bound (target n x.edge.0) row = subst (λ (v : Candidate). IsRow n p.bound (target n v.edge.0) row) (sym move.x-is) is in
    subst (λ v. Told v (candidate_of_rank l j)) move.x-is (subst (λ w. Told x w) move.y-is (tells p.bound row_is))

-- what it costs to come from one candidate to another, by the link that a row tells
pub link_tells : {m l : Layer} {a j apart : ℕ} {x y : Candidate} (n : Net) (p : Params) (row : TableRow) (link : Option Link) → IsMove n m l a j apart x y
    → IsRow n p.bound (end_of n m a) row → TellsRoute n p.back x y row link → (trellis n p).transition m a l j ≡ link_cost p apart link
link_tells {m = m} {l = l} {a = a} {j = j} n p row link move is tells =
    ap (λ (len : Option ℕ). option_map (λ k. transition p k (straight m.point l.point)) len)
    (link_length n p.bound p.back (candidate_of_rank m a) (candidate_of_rank l j) link move.lawful (told_of n p row link move is tells))
    ∙ mapped p (straight m.point l.point) link
    ∙ ap (λ (d : ℕ). link_cost p d link) (sym move.apart_is)
