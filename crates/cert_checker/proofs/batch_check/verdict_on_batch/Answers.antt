use Rattle.std.proofs.Common.{◌≡◌, ◌<◌, ◌+◌, List, All, drop, get_or, length, map, take, sym, ap, subst, ◌∙◌, arith}
use Rattle.std.specs.List.{flat_map}
use Rattle.trace_reader.specs.declared.trace.Fix.{Fix}
use Rattle.trace_reader.specs.declared.trace.Trace.{Trace}
use Rattle.trace_reader.specs.Trace.{IsLawfulTrace, point_of_fix}
use Rattle.potential_certificate.specs.declared.proof.TraceProof.{TraceProof}
use Rattle.std.proofs.lemmas.List.{get_or_default, length-map}
use Rattle.polyline_geometry.specs.Plane.{InRange}
use Rattle.matching.specs.declared.parts.Layer.{Layer}
use Rattle.trace_match.specs.Match.{layer_of, layers_of}
use Rattle.cert_checker.specs.inside.CaseSeen.{IsCheckable}
use Rattle.cert_checker.specs.Verdicts.{case_of, trace_verdict}
use Rattle.cert_checker.specs.Whole.{verdict_from}
use Rattle.cert_checker.proofs.BatchLists.{batch_part, fixes_few, fixes_in_range}
use Rattle.cert_checker.proofs.WholeVerdicts.{case_checkable, proved_here, refused_here}
use Rattle.cert_checker.proofs.batch_check.verdict_on_batch.Goals as goal

pub plain_layers-requires-clause-places : goal.plain_layers-requires-clause-places
plain_layers-requires-clause-places c =
    subst (λ (fixes : List Fix). All (λ fix. InRange (point_of_fix fix)) fixes) (sym (c.as_slice.ensures ∙ c.in_ok-fixes.ensures)) (fixes_in_range c.args.batch.now.traces.now c.args.batch.now.lawful)

pub plain_layers-requires-clause-few : goal.plain_layers-requires-clause-few
plain_layers-requires-clause-few c =
    let b = c.args.batch.now in
    let all = fixes_few b.traces.now b.lawful in
    let count = ap (λ (l : List Fix). length l) (c.as_slice.ensures ∙ c.in_ok-fixes.ensures) in
    let few = b.few in
    omega (arith, all, count, few)

pub part-requires : goal.part-requires
part-requires c =
    let n = c.args.ground.now.net.now in
    let p = c.args.ground.now.params.now in
    let rows = c.args.ground.now.rows.now in
    let b = c.args.batch.now in
    let i = c.loop-place.place in
    let first = c.loop-place.first in
    let t : Trace = c.index-batch-place.result in
    let are : c.in_ok-layers.layers ≡ map (layer_of n p) (flat_map (λ (u : Trace). u.fixes) b.traces.now) = c.in_ok-layers.ensures ∙ ap (map (layer_of n p)) (c.as_slice.ensures ∙ c.in_ok-fixes.ensures) in
    let count : c.len-count.result ≡ length t.fixes = c.len-count.ensures ∙ ap (λ (u : Trace). length u.fixes) (sym c.index-batch-place.is) in
    let own = batch_part n p b.traces.now i first t c.in_ok-layers.layers b.lawful c.loop-place.invariant.behind c.loop-place-test.true c.index-batch-place.is are in
    let long = ap (λ (l : List Layer). length l) c.as_slice-in-loop-place.ensures in
    let within = own.within in
    omega (arith, within, count, long)

pub overflow_add-first : goal.overflow_add-first
overflow_add-first c =
    let n = c.args.ground.now.net.now in
    let p = c.args.ground.now.params.now in
    let rows = c.args.ground.now.rows.now in
    let b = c.args.batch.now in
    let i = c.loop-place.place in
    let first = c.loop-place.first in
    let t : Trace = c.index-batch-place.result in
    let are : c.in_ok-layers.layers ≡ map (layer_of n p) (flat_map (λ (u : Trace). u.fixes) b.traces.now) = c.in_ok-layers.ensures ∙ ap (map (layer_of n p)) (c.as_slice.ensures ∙ c.in_ok-fixes.ensures) in
    let count : c.len-count.result ≡ length t.fixes = c.len-count.ensures ∙ ap (λ (u : Trace). length u.fixes) (sym c.index-batch-place.is) in
    let own = batch_part n p b.traces.now i first t c.in_ok-layers.layers b.lawful c.loop-place.invariant.behind c.loop-place-test.true c.index-batch-place.is are in
    let within = own.within in
    let few = own.few in
    let traces = b.few in
    omega (arith, within, few, traces, count)

pub trace_verdict-requires-clause-checkable : goal.trace_verdict-requires-clause-checkable
trace_verdict-requires-clause-checkable c =
    let n = c.args.ground.now.net.now in
    let p = c.args.ground.now.params.now in
    let rows = c.args.ground.now.rows.now in
    let b = c.args.batch.now in
    let i = c.loop-place.place in
    let first = c.loop-place.first in
    let t : Trace = c.index-batch-place.result in
    let are : c.in_ok-layers.layers ≡ map (layer_of n p) (flat_map (λ (u : Trace). u.fixes) b.traces.now) = c.in_ok-layers.ensures ∙ ap (map (layer_of n p)) (c.as_slice.ensures ∙ c.in_ok-fixes.ensures) in
    let count : c.len-count.result ≡ length t.fixes = c.len-count.ensures ∙ ap (λ (u : Trace). length u.fixes) (sym c.index-batch-place.is) in
    let own = batch_part n p b.traces.now i first t c.in_ok-layers.layers b.lawful c.loop-place.invariant.behind c.loop-place-test.true c.index-batch-place.is are in
    let proof : TraceProof = get_or b.proofs.now i c.index-batch-place-in-loop-place.result in
    let layers : c.part.result.now ≡ layers_of n p t =
    c.part.ensures ∙ ap (λ k. take k (drop first c.as_slice-in-loop-place.result.now)) count ∙ ap (λ (l : List Layer). take (length t.fixes) (drop first l)) c.as_slice-in-loop-place.ensures ∙ own.own in
    let lawful : IsLawfulTrace t = subst IsLawfulTrace (sym c.index-batch-place.is) (b.lawful i t c.loop-place-test.true) in
    subst (λ (l : List Layer). IsCheckable (record { net = n; params = p; rows = rows; layers = l; proof = proof })) (sym layers)
    (case_checkable n p rows t proof c.args.ground.now.accepted lawful c.args.ground.now.right)

pub trace_verdict-requires-clause-some : goal.trace_verdict-requires-clause-some
trace_verdict-requires-clause-some c =
    let n = c.args.ground.now.net.now in
    let p = c.args.ground.now.params.now in
    let rows = c.args.ground.now.rows.now in
    let b = c.args.batch.now in
    let i = c.loop-place.place in
    let first = c.loop-place.first in
    let t : Trace = c.index-batch-place.result in
    let are : c.in_ok-layers.layers ≡ map (layer_of n p) (flat_map (λ (u : Trace). u.fixes) b.traces.now) = c.in_ok-layers.ensures ∙ ap (map (layer_of n p)) (c.as_slice.ensures ∙ c.in_ok-fixes.ensures) in
    let count : c.len-count.result ≡ length t.fixes = c.len-count.ensures ∙ ap (λ (u : Trace). length u.fixes) (sym c.index-batch-place.is) in
    let own = batch_part n p b.traces.now i first t c.in_ok-layers.layers b.lawful c.loop-place.invariant.behind c.loop-place-test.true c.index-batch-place.is are in
    let proof : TraceProof = get_or b.proofs.now i c.index-batch-place-in-loop-place.result in
    let layers : c.part.result.now ≡ layers_of n p t =
    c.part.ensures ∙ ap (λ k. take k (drop first c.as_slice-in-loop-place.result.now)) count ∙ ap (λ (l : List Layer). take (length t.fixes) (drop first l)) c.as_slice-in-loop-place.ensures ∙ own.own in
    let lawful : IsLawfulTrace t = subst IsLawfulTrace (sym c.index-batch-place.is) (b.lawful i t c.loop-place-test.true) in
    let long = ap (λ (l : List Layer). length l) layers ∙ length-map t.fixes (layer_of n p) in
    let some = lawful.some in
    omega (arith, long, some)

pub returns-in-Refused : goal.returns-in-Refused
returns-in-Refused c =
    let n = c.args.ground.now.net.now in
    let p = c.args.ground.now.params.now in
    let rows = c.args.ground.now.rows.now in
    let b = c.args.batch.now in
    let i = c.loop-place.place in
    let first = c.loop-place.first in
    let t : Trace = c.index-batch-place.result in
    let are : c.in_ok-layers.layers ≡ map (layer_of n p) (flat_map (λ (u : Trace). u.fixes) b.traces.now) = c.in_ok-layers.ensures ∙ ap (map (layer_of n p)) (c.as_slice.ensures ∙ c.in_ok-fixes.ensures) in
    let count : c.len-count.result ≡ length t.fixes = c.len-count.ensures ∙ ap (λ (u : Trace). length u.fixes) (sym c.index-batch-place.is) in
    let own = batch_part n p b.traces.now i first t c.in_ok-layers.layers b.lawful c.loop-place.invariant.behind c.loop-place-test.true c.index-batch-place.is are in
    let proof : TraceProof = get_or b.proofs.now i c.index-batch-place-in-loop-place.result in
    let layers : c.part.result.now ≡ layers_of n p t =
    c.part.ensures ∙ ap (λ k. take k (drop first c.as_slice-in-loop-place.result.now)) count ∙ ap (λ (l : List Layer). take (length t.fixes) (drop first l)) c.as_slice-in-loop-place.ensures ∙ own.own in
    let lawful : IsLawfulTrace t = subst IsLawfulTrace (sym c.index-batch-place.is) (b.lawful i t c.loop-place-test.true) in
    let is : c.in_ok-verdict.verdict ≡ trace_verdict (b.first + i) (case_of n p rows t proof) =
    c.in_ok-verdict.ensures ∙ ap (λ (l : List Layer). trace_verdict (b.first + i) (record { net = n; params = p; rows = rows; layers = l; proof = proof })) layers in
    let same = b.same in
    let inside : i < length b.proofs.now = omega (arith, same) in
    let its : proof ≡ get_or b.proofs.now i proof = get_or_default b.proofs.now i c.index-batch-place-in-loop-place.result proof inside in
    refused_here n p rows (b.first + i) i b.traces.now b.proofs.now t proof c.in_ok-verdict.verdict c.in-Refused.condition c.in-Refused.trace c.in-Refused.place
    c.loop-place-test.true inside c.index-batch-place.is its is c.in-Refused.is ∙ c.loop-place.invariant.rest

pub loop-place-preserved : goal.loop-place-preserved
loop-place-preserved c =
    let n = c.args.ground.now.net.now in
    let p = c.args.ground.now.params.now in
    let rows = c.args.ground.now.rows.now in
    let b = c.args.batch.now in
    let i = c.loop-place.place in
    let first = c.loop-place.first in
    let t : Trace = c.index-batch-place.result in
    let are : c.in_ok-layers.layers ≡ map (layer_of n p) (flat_map (λ (u : Trace). u.fixes) b.traces.now) = c.in_ok-layers.ensures ∙ ap (map (layer_of n p)) (c.as_slice.ensures ∙ c.in_ok-fixes.ensures) in
    let count : c.len-count.result ≡ length t.fixes = c.len-count.ensures ∙ ap (λ (u : Trace). length u.fixes) (sym c.index-batch-place.is) in
    let own = batch_part n p b.traces.now i first t c.in_ok-layers.layers b.lawful c.loop-place.invariant.behind c.loop-place-test.true c.index-batch-place.is are in
    let proof : TraceProof = get_or b.proofs.now i c.index-batch-place-in-loop-place.result in
    let layers : c.part.result.now ≡ layers_of n p t =
    c.part.ensures ∙ ap (λ k. take k (drop first c.as_slice-in-loop-place.result.now)) count ∙ ap (λ (l : List Layer). take (length t.fixes) (drop first l)) c.as_slice-in-loop-place.ensures ∙ own.own in
    let lawful : IsLawfulTrace t = subst IsLawfulTrace (sym c.index-batch-place.is) (b.lawful i t c.loop-place-test.true) in
    let is : c.in_ok-verdict.verdict ≡ trace_verdict (b.first + i) (case_of n p rows t proof) =
    c.in_ok-verdict.ensures ∙ ap (λ (l : List Layer). trace_verdict (b.first + i) (record { net = n; params = p; rows = rows; layers = l; proof = proof })) layers in
    let same = b.same in
    let inside : i < length b.proofs.now = omega (arith, same) in
    let its : proof ≡ get_or b.proofs.now i proof = get_or_default b.proofs.now i c.index-batch-place-in-loop-place.result proof inside in
    let next : b.first + (i + 1) ≡ b.first + i + 1 = omega arith in
    record {
      behind = ap (λ k. first + k) count ∙ own.next;
      rest = ap (λ number. verdict_from n p rows number (drop (i + 1) b.traces.now) (drop (i + 1) b.proofs.now)) next
          ∙ proved_here n p rows (b.first + i) i b.traces.now b.proofs.now t proof c.in_ok-verdict.verdict
          c.loop-place-test.true inside c.index-batch-place.is its is c.in-Proved.is ∙ c.loop-place.invariant.rest;
    }
