use Rattle.std.proofs.Common.{◌≡◌, ◌++◌, ◌∙◌, ◌∷◌, [], ap}
use Rattle.road_network.specs.FaultLine.{fault_line, fault_text}
use Rattle.road_network.proofs.fault.NetworkFault.write_line.Goals as goal

pub returns-clause-ok : goal.returns-clause-ok
unfolding fault_line
returns-clause-ok c =
    let text : c.write_text.new.line ≡ fault_text c.args.self.now = c.in_ok-write_text.ensures ∙ ap (λ k. k ++ fault_text c.args.self.now) c.new-line.ensures in
    let line : c.as_slice.result.now ≡ fault_text c.args.self.now ++ 10 ∷ [] = c.as_slice.ensures ∙ c.in_ok-push.ensures.ok ∙ ap (λ k. k ++ 10 ∷ []) text in
    rw (← line) c.extend_from_slice.ensures.ok
