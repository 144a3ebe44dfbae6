-- That larger limits give the same answer where no limit is passed.
use Rattle.std.specs.Prelude.{ℕ, ◌≡◌, Bool, true, false, List, IfErr}
use Rattle.road_network.specs.declared.fault.NetworkFault.{NetworkFault}
use Rattle.road_network.specs.declared.fault.NetworkFault.TheVariants as fault
use Rattle.road_network.specs.declared.limits.NetworkLimits.TheVariants.{Standard, Large}
use Rattle.road_network.specs.NetworkFile.{network_of}

-- the fault of a file that passes a limit
abbrev pub is_limit_fault : NetworkFault → Bool
is_limit_fault fault.BadHeader = false
is_limit_fault (fault.FieldCount rec) = false
is_limit_fault (fault.BadNumber rec field) = false
is_limit_fault (fault.OutOfRange rec field) = false
is_limit_fault (fault.DuplicateEdge rec) = false
is_limit_fault (fault.ShortLine rec) = false
is_limit_fault (fault.RepeatedPoint rec place) = false
is_limit_fault (fault.EdgeTooLong rec) = false
is_limit_fault (fault.TooManyEdges rec) = true
is_limit_fault (fault.TooManyNodes rec) = true
is_limit_fault (fault.TooManyPoints rec) = true
is_limit_fault fault.FileTooLong = true
is_limit_fault fault.Memory = false

-- the file has a network within the standard limits, or a fault that does not depend on them
abbrev pub KeepsStandardLimits : List ℕ → Type 0
KeepsStandardLimits bytes = IfErr (network_of Standard bytes) (λ e. is_limit_fault e ≡ false)

-- such a file has the same network, or the same fault, within the large limits
abbrev pub LimitsAgree : Type 0
LimitsAgree =
    (bytes : List ℕ) → KeepsStandardLimits bytes → network_of Large bytes ≡ network_of Standard bytes
