-- Relays and passes: what was put and what was taken, in order.
use Rattle.std.specs.Prelude.{◌≡◌, ℕ, List, ◌++◌, ◌∷◌, [], length, ⊤}
use Rattle.atomic_table.specs.Seated.{TableId}
use Rattle.program_frame.specs.Jobs.{IsBounded}
use Rattle.live_pipeline.specs.Pieces.{traces_in}
use Rattle.live_pipeline.specs.declared.part.Part.{Part}
use Rattle.live_pipeline.specs.declared.part.Part.TheVariants as parts

-- the traces of these parts are lawful, and no more than a file has
abbrev pub AreBounded : List Part → Type 0
AreBounded all = IsBounded (traces_in all)

-- what contracts see of a relay: which it is, and how many parts it has room for
pub record Line : Type 0 where
  pub name : TableId
  pub capacity : ℕ

-- what contracts see of a pass: its relay, and the parts that were put or taken with it
pub record Parts : Type 0 where
  pub relay : TableId
  pub parts : List Part

-- no part yet
abbrev pub no_parts : TableId → Parts
no_parts relay = record { relay = relay; parts = [] }

-- one part more
abbrev pub more : Parts → Part → Parts
more p x = record { relay = p.relay; parts = p.parts ++ x ∷ [] }

-- this part may be put after these: a trace if they stay bounded with it, and any other part
abbrev pub MayFollow : List Part → Part → Type 0
MayFollow put (parts.Trace trace) = AreBounded (put ++ parts.Trace trace ∷ [])
MayFollow put parts.End = ⊤
MayFollow put (parts.Fault fault) = ⊤
MayFollow put parts.ReadFailed = ⊤
MayFollow put parts.NoMemory = ⊤

-- at least n parts were put: the last n of them may have been waiting at one moment of the call
abbrev pub WereWaiting : ℕ → List Part → Type 0
WereWaiting n put = (waiting : List Part) × (length waiting ≡ n) × (taken : List Part) × (put ≡ taken ++ waiting)
