use Rattle.std.proofs.Common.{◌≡◌, ◌++◌, OnOk, subst, codes, ap, ◌∙◌}
use Rattle.town.specs.Corners.{node_id}
use Rattle.town.specs.Network.{place_text}
use Rattle.decimal_text.specs.Number.{decimal}
use Rattle.town.proofs.Lines.{edge_joined}
use Rattle.town.proofs.network.append_edge.Goals as goal

pub returns : goal.returns
returns c =
    subst (λ t. OnOk c.append_place-2.result (c.append_place-2.new.into ≡ t))
    (edge_joined c.args.into.now (decimal c.args.edge) (decimal (node_id c.args.n c.args.from)) (decimal (node_id c.args.n c.args.to)) (place_text c.args.from) (place_text c.args.to) (codes ",") (codes ";") (codes "\n") _ _ _ _ c.in_ok-append_number.ensures (c.in_ok-append_number-2.ensures ∙ ap (λ v. c.append_number.new.into ++ decimal v ++ codes ",") c.node_id.ensures) (c.in_ok-append_number-3.ensures ∙ ap (λ v. c.append_number-2.new.into ++ decimal v ++ codes ",") c.node_id-2.ensures) c.in_ok-append_place.ensures)
    c.append_place-2.ensures
