-- Traces that are put one by one.
use Rattle.std.proofs.Common.{◌≡◌, List, [], ◌∷◌, ◌++◌, sym, ap, subst, ◌∙◌, append_assoc}
use Rattle.program_frame.specs.Jobs.{IsBounded}
use Rattle.trace_reader.specs.declared.trace.Trace.{Trace}
use Rattle.live_pipeline.specs.Order.{AreBounded}
use Rattle.live_pipeline.specs.Pieces.{part_of, parts_of, traces_in}
use Rattle.live_pipeline.specs.declared.part.Part.{Part}
use Rattle.live_pipeline.proofs.Bounded.{bounded_taken, traces_in-parts_of}
use Rattle.live_pipeline.proofs.Wholes.{parts_of-append}

-- the next trace of a list may be put behind those before
pub next_bounded : (first now : List Part) (yielded left rest all traces : List Trace) (trace : Trace) → AreBounded (first ++ parts_of traces) → all ≡ traces → yielded ++ left ≡ all → left ≡ trace ∷ rest → now ≡ first ++ parts_of yielded → AreBounded (now ++ part_of trace ∷ [])
next_bounded first now yielded left rest all traces trace bounded whole is step put =
    let together : (now ++ part_of trace ∷ []) ++ parts_of rest ≡ first ++ parts_of traces =
    append_assoc now (part_of trace ∷ []) (parts_of rest)
    ∙ ap (λ (l : List Part). l ++ parts_of (trace ∷ rest)) put
    ∙ append_assoc first (parts_of yielded) (parts_of (trace ∷ rest))
    ∙ ap (λ (l : List Part). first ++ l) (sym (parts_of-append yielded (trace ∷ rest)) ∙ ap parts_of (ap (λ (l : List Trace). yielded ++ l) (sym step) ∙ is ∙ whole)) in
    bounded_taken (first ++ parts_of traces) (now ++ part_of trace ∷ []) (parts_of rest) (sym together) bounded

-- parts that are these traces
pub bounded_parts : (put : List Part) (traces : List Trace) → put ≡ parts_of traces → IsBounded traces → AreBounded put
bounded_parts put traces is bounded = subst IsBounded (sym (ap traces_in is ∙ traces_in-parts_of traces)) bounded

pub put_more : (put now : List Part) (traces more : List Trace) → put ≡ parts_of traces → now ≡ put ++ parts_of more → now ≡ parts_of (traces ++ more)
put_more put now traces more is grown = grown ∙ ap (λ (l : List Part). l ++ parts_of more) is ∙ sym (parts_of-append traces more)
