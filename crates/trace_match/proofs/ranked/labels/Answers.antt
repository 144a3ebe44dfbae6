use Rattle.std.proofs.Common.{◌++◌, ◌∷◌, [], None, sym, ap, ◌∙◌, arith, take, get_or}
use Rattle.match_text.specs.declared.matched.Label.{Label}
use Rattle.matching.specs.Layers.{no_candidate}
use Rattle.trace_match.specs.Match.{label_of_rank, label_on, labels_of}
use Rattle.trace_match.proofs.LabelLists.{labels_more}
use Rattle.trace_match.proofs.ranked.labels.Goals as goal
use Rattle.trace_match.proofs.ranked.labels.Goals.{in-Some+in_ok-push-in-Some, in-None+in_ok-push-in-None}

pub loop-i-preserved : goal.loop-i-preserved
loop-i-preserved c =
    let n = c.args.net.now in
    let layers = c.args.layers.now in
    let ranks = c.args.ranks.now in
    let i = c.loop-i.i in
    let layer = c.index-layers-i.result in
    let more = labels_more n layers ranks i layer (record { below = omega arith; is = c.index-layers-i.is }) (omega (arith, c.requires.count)) in
    let was = c.loop-i.invariant in
    elim c.match-ranks-i.branch [
      | in-Some+in_ok-push-in-Some w ↦
          ap (λ v. v.items) w.labels-is
          ∙ w.in_ok-push-in-Some.ensures.items
          ∙ ap (λ ls. ls ++ w.label_on.result ∷ []) was
          ∙ ap (λ (x : Label). labels_of n (take i layers) (take i ranks) ++ x ∷ []) (w.label_on.ensures ∙ ap (λ cs. label_on n (get_or cs w.in-Some.rank no_candidate)) w.as_slice.ensures ∙ ap (label_of_rank n layer) (sym w.in-Some.is))
          ∙ sym more
      | in-None+in_ok-push-in-None w ↦
          ap (λ v. v.items) w.labels-is
          ∙ w.in_ok-push-in-None.ensures.items
          ∙ ap (λ ls. ls ++ label_of_rank n layer None ∷ []) was
          ∙ ap (λ (x : Label). labels_of n (take i layers) (take i ranks) ++ x ∷ []) (ap (label_of_rank n layer) (sym w.in-None.is))
          ∙ sym more
    ]
