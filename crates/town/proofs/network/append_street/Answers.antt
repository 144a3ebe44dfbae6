use Rattle.std.proofs.Common.{◌++◌, ◌+◌, ◌∙◌, ap, sym}
use Rattle.town.specs.Network.{edge_line}
use Rattle.town.proofs.Lines.{no_street, one_street}
use Rattle.town.proofs.network.append_street.Goals as goal

pub returns-then-is_border-clause-text : goal.returns-then-is_border-clause-text
returns-then-is_border-clause-text c = no_street c.args.n c.args.edge c.args.corner c.args.way c.args.into.now (sym c.is_border.ensures ∙ c.if-is_border.true)

pub returns-clause-text : goal.returns-clause-text
returns-clause-text c =
    one_street c.args.n c.args.edge c.args.corner c.args.way c.args.into.now c.append_edge.new.into c.append_edge-2.new.into (sym c.is_border.ensures ∙ c.if-is_border.false)
    (c.in_ok-append_edge.ensures ∙ ap (λ o. c.args.into.now ++ edge_line c.args.n c.args.edge c.args.corner o) c.next-other.ensures.corner)
    (c.in_ok-append_edge-2.ensures ∙ ap (λ o. c.append_edge.new.into ++ edge_line c.args.n (c.args.edge + 1) o c.args.corner) c.next-other.ensures.corner)
