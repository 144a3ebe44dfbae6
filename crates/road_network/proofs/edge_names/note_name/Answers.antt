use Rattle.std.proofs.lemmas.Result.{err_from_is_err_and}
use Rattle.std.proofs.Common.{refl}
use Rattle.std.proofs.Common.{◌∙◌, Some, not, sym, ap}
use Rattle.road_network.specs.inside.EdgeNames.{HasNames, names_of}
use Rattle.road_network.proofs.KeptNames.{kept-none, kept-set, more-names, next-is-new, next-is-last}
use Rattle.road_network.proofs.edge_names.note_name.Goals as goal
use Rattle.road_network.proofs.edge_names.note_name.Goals.{in-Some, in-None+else-is_next+in_ok-set-in-None}

pub returns-then-is_next-clause-new : goal.returns-then-is_next-clause-new
returns-then-is_next-clause-new c =
    let names = names_of c.args.edges.now in
    let above = kept-none c.args.names.now names (sym c.take.ensures.value ∙ c.in-None.is) c.requires in
    ap not (sym (next-is-new names c.args.name above (sym c.is_next.ensures ∙ c.if-is_next.true)))

pub returns-clause-names : goal.returns-clause-names
returns-clause-names c =
    let names = names_of c.args.edges.now in
    let set : HasNames c.match-take.set.keys names = elim c.match-take.branch [
      | in-Some w ↦ kept-set c.args.names.now c.match-take.set names (sym c.take.ensures.value ∙ w.in-Some.is ∙ ap (λ k. Some k) (sym w.set-is)) c.requires
      | in-None+else-is_next+in_ok-set-in-None w ↦ rw w.set-is w.in_ok-set-in-None.ensures.set
    ] in
    rw c.in_ok-is_new.ensures.keys (more-names c.match-take.set.keys names c.args.name set)

pub returns-in_err-set-in-None-clause-new : goal.returns-in_err-set-in-None-clause-new
returns-in_err-set-in-None-clause-new c = let p = err_from_is_err_and c.from_residual.result c.from_residual.ensures.1 in rw p.1 tt

pub returns-in_err-set-in-None-clause-names : goal.returns-in_err-set-in-None-clause-names
returns-in_err-set-in-None-clause-names c = let p = err_from_is_err_and c.from_residual.result c.from_residual.ensures.1 in rw p.1 tt

pub returns-in_err-set-in-None-clause-memory : goal.returns-in_err-set-in-None-clause-memory
returns-in_err-set-in-None-clause-memory c = let p = err_from_is_err_and c.from_residual.result c.from_residual.ensures.1 in rw (p.1, p.2) c.in_err-set-in-None.ensures.memory

pub returns-in_err-is_new-clause-new : goal.returns-in_err-is_new-clause-new
returns-in_err-is_new-clause-new c = let p = err_from_is_err_and c.from_residual-in_err-is_new.result c.from_residual-in_err-is_new.ensures.1 in rw p.1 tt

pub returns-in_err-is_new-clause-names : goal.returns-in_err-is_new-clause-names
returns-in_err-is_new-clause-names c = let p = err_from_is_err_and c.from_residual-in_err-is_new.result c.from_residual-in_err-is_new.ensures.1 in rw p.1 tt

pub returns-in_err-is_new-clause-memory : goal.returns-in_err-is_new-clause-memory
returns-in_err-is_new-clause-memory c = let p = err_from_is_err_and c.from_residual-in_err-is_new.result c.from_residual-in_err-is_new.ensures.1 in rw (p.1, p.2) refl

pub returns-then-is_next-clause-memory : goal.returns-then-is_next-clause-memory
returns-then-is_next-clause-memory c = tt

pub returns-clause-memory : goal.returns-clause-memory
returns-clause-memory c = tt

pub returns-then-is_next-clause-names : goal.returns-then-is_next-clause-names
returns-then-is_next-clause-names c =
    let names = names_of c.args.edges.now in
    let above = kept-none c.args.names.now names (sym c.take.ensures.value ∙ c.in-None.is) c.requires in
    rw c.take.ensures.after (next-is-last names c.args.name above (sym c.is_next.ensures ∙ c.if-is_next.true))
