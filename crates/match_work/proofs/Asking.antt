-- What traces that are matched make known.
use Rattle.std.proofs.Common.{List, ◌++◌, inl, inr, ⊎_elim}
use Rattle.trace_match.proofs.Asking.{asked_parts}
use Rattle.match_pool.specs.Learning.{LearnAsked}
use Rattle.row_store.specs.Store.{Reading}
use Rattle.trace_reader.specs.declared.trace.Trace.{Trace}
use Rattle.trace_match.specs.Setting.{Setting}
use Rattle.match_work.specs.inside.MatchesDone.{KnowAsked}

-- what more traces make known, behind those that made known what is
pub asked_more : (on : Setting) (matched more : List Trace) (before after : List Reading) → KnowAsked on matched before → LearnAsked on.network on.params more before after → KnowAsked on (matched ++ more) after
asked_more on matched more before after know learn v =
    let parts = asked_parts on matched more v in (
      λ has. ⊎_elim (λ old. parts.1 (inl ((know v).0 old))) (λ is. parts.1 (inr is)) ((learn v).0 has),
      λ is. ⊎_elim (λ old. (learn v).1 (inl ((know v).1 old))) (λ new. (learn v).1 (inr new)) (parts.0 is),
    )
