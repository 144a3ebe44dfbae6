use Rattle.std.proofs.Common.{◌+◌, ◌∷◌, [], ◌++◌, None, Some, List, take, drop, get_or, refl, sym, subst, option_copied}
use Rattle.std.proofs.lemmas.List.{take_all}
use Rattle.road_network.specs.declared.EdgeId.{EdgeId}
use Rattle.route_rebuild.specs.Numbers.{numbers}
use Rattle.cert_checker.specs.inside.Legs.{IsLeftAfter}
use Rattle.cert_checker.proofs.Legs.{after_more, after_none, numbers_more, numbers_split}
use Rattle.cert_checker.proofs.routes.after_edges.Goals as goal

pub loop-edge-init : goal.loop-edge-init
loop-edge-init c = λ rest. refl

pub loop-edge-preserved : goal.loop-edge-preserved
loop-edge-preserved c =
    let n = c.args.net.now in
    let names = c.args.names.now in
    let edges = c.args.edges.now in
    let i = c.loop-edge.edge-index in
    let d : EdgeId = record { 0 = 0 } in
    subst (λ es. IsLeftAfter n names es (Some c.in_ok-left.left.now)) (sym (numbers_more edges i d c.loop-edge-test.true))
    (after_more n names c.loop-edge.left.now (numbers (take i edges)) ((get_or edges i d).0 ∷ []) (Some c.in_ok-left.left.now) c.loop-edge.invariant c.in_ok-left.ensures)

pub returns-in_err-left : goal.returns-in_err-left
returns-in_err-left c =
    let n = c.args.net.now in
    let names = c.args.names.now in
    let edges = c.args.edges.now in
    let i = c.loop-edge.edge-index in
    let d : EdgeId = record { 0 = 0 } in
    let first = after_more n names c.loop-edge.left.now (numbers (take i edges)) ((get_or edges i d).0 ∷ []) None c.loop-edge.invariant c.in_err-left.ensures in
    subst (λ o. IsLeftAfter n names (numbers edges) (option_copied o)) (sym c.from_residual.ensures)
    (subst (λ es. IsLeftAfter n names es None) (sym (numbers_split edges i d c.loop-edge-test.true))
    (after_none n names (numbers (take i edges) ++ (get_or edges i d).0 ∷ []) (numbers (drop (i + 1) edges)) first))

pub returns : goal.returns
returns c =
    let edges = c.args.edges.now in
    subst (λ (es : List EdgeId). IsLeftAfter c.args.net.now c.args.names.now (numbers es) (Some c.loop-edge.left.now)) (take_all c.loop-edge.edge-index edges c.loop-edge-test.false) c.loop-edge.invariant
