-- The traces of parts, and their bounds.
use Rattle.std.proofs.Common.{◌≡◌, List, [], ◌∷◌, ◌++◌, refl, sym, ◌∙◌, ap, subst, arith, append-nil}
use Rattle.std.proofs.lemmas.List.Concat.{flat_map-append}
use Rattle.program_frame.specs.Jobs.{IsBounded}
use Rattle.program_frame.proofs.Bounds.{bounded_closed, bounded_front}
use Rattle.trace_reader.specs.declared.trace.Trace.{Trace}
use Rattle.trace_reader.proofs.Laws.{closed-none}
use Rattle.live_pipeline.specs.Order.{AreBounded, MayFollow}
use Rattle.live_pipeline.specs.Pieces.{parts_of, traces_in_part, traces_in}
use Rattle.live_pipeline.specs.declared.part.Part.{Part}
use Rattle.live_pipeline.specs.declared.part.Part.TheVariants as parts

pub bounded_none : AreBounded []
bounded_none = subst IsBounded closed-none (bounded_closed [] (omega arith))

pub traces_in-append : (front back : List Part) → traces_in (front ++ back) ≡ traces_in front ++ traces_in back
traces_in-append front back = flat_map-append traces_in_part front back

-- what was taken is bounded as what was put
pub bounded_taken : (put taken rest : List Part) → put ≡ taken ++ rest → AreBounded put → AreBounded taken
bounded_taken put taken rest is bounded =
    bounded_front (traces_in taken) (traces_in rest) (subst IsBounded (ap traces_in is ∙ traces_in-append taken rest) bounded)

pub traces_in-parts_of : (traces : List Trace) → traces_in (parts_of traces) ≡ traces
traces_in-parts_of [] = refl
traces_in-parts_of (trace ∷ traces) = ap (λ ts. trace ∷ ts) (traces_in-parts_of traces)

-- a last part is no trace
bounded_last : (put : List Part) (x : Part) → traces_in_part x ≡ [] → AreBounded put → AreBounded (put ++ x ∷ [])
bounded_last put x none bounded =
    let one : traces_in (x ∷ []) ≡ [] = append-nil (traces_in_part x) ∙ none in
    subst IsBounded (sym (traces_in-append put (x ∷ []) ∙ ap (λ ts. traces_in put ++ ts) one ∙ append-nil (traces_in put))) bounded

-- what may follow leaves them bounded
pub bounded_more : (put : List Part) (x : Part) → MayFollow put x → AreBounded put → AreBounded (put ++ x ∷ [])
bounded_more put (parts.Trace trace) may bounded = may
bounded_more put parts.End may bounded = bounded_last put parts.End refl bounded
bounded_more put (parts.Fault fault) may bounded = bounded_last put (parts.Fault fault) refl bounded
bounded_more put parts.ReadFailed may bounded = bounded_last put parts.ReadFailed refl bounded
bounded_more put parts.NoMemory may bounded = bounded_last put parts.NoMemory refl bounded
