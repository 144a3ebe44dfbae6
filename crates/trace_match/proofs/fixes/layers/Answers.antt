use Rattle.std.proofs.Common.{◌≡◌, ◌+◌, ◌<◌, [], ◌∷◌, ◌++◌, ℕ, List, get_or, length, map, take, sym, ap, ◌∙◌}
use Rattle.std.specs.Prelude.{pos}
use Rattle.std.proofs.lemmas.List.{map_more, take_all}
use Rattle.matching.specs.declared.parts.Layer.{Layer}
use Rattle.trace_match.specs.Match.{layer_of}
use Rattle.trace_reader.specs.declared.trace.Fix.{Fix}
use Rattle.trace_match.proofs.fixes.layers.Goals as goal

abbrev none : Fix
none = record { x = pos 0; y = pos 0; time = 0 }

-- one more fix
one_more : (of : Fix → Layer) (fixes : List Fix) (i : ℕ) (before after : List Layer) (last : Layer) → before ≡ map of (take i fixes) → i < length fixes → after ≡ before ++ last ∷ [] → last ≡ of (get_or fixes i none)
    → after ≡ map of (take (i + 1) fixes)
one_more of fixes i before after last was low pushed is =
    pushed
    ∙ ap (λ (x : Layer). before ++ x ∷ []) is
    ∙ ap (λ (l : List Layer). l ++ of (get_or fixes i none) ∷ []) was
    ∙ sym (map_more of fixes i none low)

pub loop-fix-init : goal.loop-fix-init
loop-fix-init c = c.in_ok-found.ensures.items

pub loop-fix-preserved : goal.loop-fix-preserved
loop-fix-preserved c =
    one_more (layer_of c.args.net.now c.args.p.now) c.args.fixes.now c.loop-fix.fix-index c.loop-fix.found.items c.push.new.self.items c.in_ok-layer_by.field-0 c.loop-fix.invariant c.loop-fix-test.true c.in_ok-push.ensures.items c.in_ok-layer_by.ensures

pub returns : goal.returns
returns c = c.from_vec.ensures ∙ c.loop-fix.invariant ∙ ap (map (layer_of c.args.net.now c.args.p.now)) (take_all c.loop-fix.fix-index c.args.fixes.now c.loop-fix-test.false)
