use Rattle.std.proofs.Common.{◌≡◌, ◌<◌, ℕ, Bool, List, length, get_or, sym, ap, ◌∙◌, arith, refl, true≢false}
use Rattle.std.proofs.lemmas.List.{take_all}
use Rattle.std.proofs.lemmas.List.Elements.{All-more}
use Rattle.std.proofs.lemmas.List.Sums.{count_by_more_no, count_by_more_yes}
use Rattle.std.specs.List.{All, count_by}
use Rattle.road_network.specs.Net.{leaving}
use Rattle.road_network.specs.declared.Arc.{Arc}
use Rattle.bounded_table.specs.inside.Given.{IsArcRelaxed, arc_gives}
use Rattle.bounded_table.specs.Table.{label_in}
use Rattle.bounded_table.proofs.Arcs.{arcs_are, count_arcs, no_arc}
use Rattle.bounded_table.proofs.row_check.count_given.Goals.{then-branch, else-branch}
use Rattle.bounded_table.proofs.row_check.count_given.Goals as goal

pub loop-arc-preserved : goal.loop-arc-preserved
loop-arc-preserved c =
    let table = label_in c.args.row.now.entries in
    let distance = c.args.x.now.distance in
    let arcs : List Arc = c.arcs-arc-items.result.now in
    let i : ℕ = c.loop-arc.arc-index in
    let lt : i < length arcs = omega arith in
    let p : Arc → Bool = arc_gives c.args.bound table distance in
    let is : c.in_ok-try_arc.field-0 ≡ p (get_or arcs i no_arc) = c.in_ok-try_arc.ensures.given in
    record {
      relaxed = All-more (IsArcRelaxed c.args.bound table distance) arcs i no_arc lt c.loop-arc.invariant.relaxed (c.in_ok-try_arc.ensures.some.0 refl);
      counted = elim c.if-branch.branch [
        | then-branch w ↦
            let more = count_by_more_yes p arcs i no_arc lt (sym is ∙ w.if-branch.true) in
            omega (arith, w.count-is, c.loop-arc.invariant.counted, more)
        | else-branch w ↦
            let same = count_by_more_no p arcs i no_arc lt (sym is ∙ w.if-branch.false) in
            omega (arith, w.count-is, c.loop-arc.invariant.counted, same)
      ];
    }

pub returns-in_err-try_arc-clause-some : goal.returns-in_err-try_arc-clause-some
returns-in_err-try_arc-clause-some c =
    let n = c.args.net.now in
    let table = label_in c.args.row.now.entries in
    let P : Arc → Type 0 = IsArcRelaxed c.args.bound table c.args.x.now.distance in
    let are = arcs_are n c.args.x.now.node.0 P in
    let none : P (get_or c.arcs-arc-items.result.now c.loop-arc.arc-index no_arc) → ⊥ = λ at. true≢false (sym (c.in_err-try_arc.ensures.some.1 at)) in (
      λ some. absurd (true≢false (sym (rw c.from_residual.ensures at some))),
      λ relaxed.
          let all : All P c.arcs-arc-items.result.now = rw c.arcs-arc-items.ensures (are.1 relaxed) in
          absurd (none (all c.loop-arc.arc-index no_arc c.loop-arc-test.true)),
    )

pub returns-clause-some : goal.returns-clause-some
returns-clause-some c =
    let n = c.args.net.now in
    let table = label_in c.args.row.now.entries in
    let P : Arc → Type 0 = IsArcRelaxed c.args.bound table c.args.x.now.distance in
    let are = arcs_are n c.args.x.now.node.0 P in
    let arcs : List Arc = c.arcs-arc-items.result.now in
    let all : All P arcs = rw (take_all c.loop-arc.arc-index arcs (omega arith)) at c.loop-arc.invariant.relaxed in (
      λ some. are.0 (rw c.arcs-arc-items.ensures at all),
      λ relaxed. refl,
    )

pub returns-in_err-try_arc-clause-count : goal.returns-in_err-try_arc-clause-count
returns-in_err-try_arc-clause-count c = rw c.from_residual.ensures tt

pub arcs-arc-items-requires : goal.arcs-arc-items-requires
arcs-arc-items-requires c = c.requires

pub loop-arc-init : goal.loop-arc-init
loop-arc-init c = record { relaxed = λ k d lt. absurd (omega arith); counted = refl }

pub returns-clause-count : goal.returns-clause-count
returns-clause-count c =
    let n = c.args.net.now in
    let arcs : List Arc = c.arcs-arc-items.result.now in
    let p : Arc → Bool = arc_gives c.args.bound (label_in c.args.row.now.entries) c.args.x.now.distance in
    let counted = rw (take_all c.loop-arc.arc-index arcs c.loop-arc-test.false) at c.loop-arc.invariant.counted in
    counted ∙ (ap (count_by p) c.arcs-arc-items.ensures ∙ count_arcs n p (leaving n c.args.x.now.node.0))
