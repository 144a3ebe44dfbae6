-- A network that is accepted or refused.
use Rattle.std.proofs.Common.{◌≡◌, ◌≢◌, ℕ, List, Err, sym, ◌∙◌, ap}
use Rattle.road_network.specs.NetworkFile.{network_of}
use Rattle.road_network.specs.declared.fault.NetworkFault.{NetworkFault}
use Rattle.road_network.specs.declared.fault.NetworkFault.TheVariants.{Memory}
use Rattle.road_network.specs.declared.limits.NetworkLimits.{NetworkLimits}
use Rattle.program_frame.specs.Loads.{RefusesLoad}
use Rattle.program_frame.specs.Refusals.{network_said, said}
use Rattle.program_frame.specs.inside.Refusing.{RefusesNetwork}
use Rattle.program_frame.specs.declared.stop.Refusal.TheVariants.{Network}
use Rattle.program_frame.specs.declared.stop.Stop.{Stop}
use Rattle.program_frame.specs.declared.stop.Stop.TheVariants.{Refused, NoMemory, Unread, Unwritten}

pub network_refused : (limits : NetworkLimits) (bytes : List ℕ) (fault : NetworkFault) (stop : Stop) → (fault ≢ Memory → network_of limits bytes ≡ Err fault) → RefusesNetwork fault stop → RefusesLoad Network (network_said limits bytes) stop
network_refused limits bytes fault (Refused refusal line) known refuses =
    (refuses.1, ap said (known refuses.0) ∙ ap (λ l. Err l) (sym refuses.2))
network_refused limits bytes fault NoMemory known refuses = tt
network_refused limits bytes fault (Unread file) known refuses = absurd refuses
network_refused limits bytes fault Unwritten known refuses = absurd refuses
