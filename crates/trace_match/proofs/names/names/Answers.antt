use Rattle.std.proofs.Common.{◌≡◌, ◌+◌, ◌<◌, [], ◌∷◌, ◌++◌, ℕ, List, get_or, length, map, take, sym, ap, ◌∙◌}
use Rattle.std.proofs.lemmas.List.{map-append, map_more, take_all}
use Rattle.road_network.specs.declared.EdgeId.{EdgeId}
use Rattle.road_network.specs.Net.{edge_name}
use Rattle.route_rebuild.specs.Numbers.{numbers}
use Rattle.trace_match.proofs.names.names.Goals as goal

abbrev none : EdgeId
none = record { 0 = 0 }

-- one more edge
one_more : (name : ℕ → ℕ) (edges : List EdgeId) (i : ℕ) (before after : List ℕ) (last : ℕ) → before ≡ map name (numbers (take i edges)) → i < length edges → after ≡ before ++ last ∷ [] → last ≡ name (get_or edges i none).0
    → after ≡ map name (numbers (take (i + 1) edges))
one_more name edges i before after last was low pushed is =
    let number : EdgeId → ℕ = λ e. e.0 in
    let edge = get_or edges i none in
    pushed
    ∙ ap (λ (x : ℕ). before ++ x ∷ []) is
    ∙ ap (λ (l : List ℕ). l ++ name edge.0 ∷ []) was
    ∙ sym (map-append name (numbers (take i edges)) (edge.0 ∷ []))
    ∙ ap (map name) (sym (map_more number edges i none low))

pub loop-edge-init : goal.loop-edge-init
loop-edge-init c = c.in_ok-names.ensures.items

pub loop-edge-preserved : goal.loop-edge-preserved
loop-edge-preserved c =
    one_more (edge_name c.args.net.now) c.args.edges.now c.loop-edge.edge-index c.loop-edge.names.items c.push.new.self.items c.name.result c.loop-edge.invariant c.loop-edge-test.true c.in_ok-push.ensures.items c.name.ensures

pub name-requires : goal.name-requires
name-requires c = c.requires c.loop-edge.edge-index none c.loop-edge-test.true

pub returns : goal.returns
returns c = c.from_vec.ensures ∙ c.loop-edge.invariant ∙ ap (λ (es : List EdgeId). map (edge_name c.args.net.now) (numbers es)) (take_all c.loop-edge.edge-index c.args.edges.now c.loop-edge-test.false)
