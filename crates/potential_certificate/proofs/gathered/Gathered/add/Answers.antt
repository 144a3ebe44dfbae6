use Rattle.std.proofs.Common.{◌++◌, List, refl, rules, ap, ◌∙◌}
use Rattle.std.proofs.lemmas.Result.{on_ok_weaker}
use Rattle.bounded_table.specs.Table.{TableRow}
use Rattle.potential_certificate.specs.inside.Gathering.{GoesOn}
use Rattle.potential_certificate.specs.declared.proof.TraceProof.{TraceProof}
use Rattle.potential_certificate.proofs.Gatherings.{added, extended}
use Rattle.potential_certificate.proofs.gathered.Gathered.add.Goals as goal

pub returns : goal.returns
returns c =
    let old = c.args.self.now in
    let read = c.args.read in
    let on : GoesOn old read = c.goes_on.ensures (search (rules, c.if-not-goes_on.false)) in
    on_ok_weaker c.extend_from_slice-2.result (λ e. added old _ c.requires.so_far read c.requires.read on refl
    (c.in_ok-append.ensures.items ∙ ap (λ (l : List TraceProof). old.proofs.items ++ l) c.into_vec.ensures)
    (c.in_ok-append-2.ensures.items ∙ ap (λ (l : List TableRow). old.rows.items ++ l) c.into_vec-2.ensures) e)
    (extended c.extend_from_slice-2.result c.extend_from_slice-2.new.self.items old.behind.items read.left.now c.extend_from_slice-2.ensures.items)
