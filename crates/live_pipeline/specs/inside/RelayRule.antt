-- The rule of a relay. What was put is what was taken and then what the queue holds. One pass at most may put,
-- and it has the list of what was put. The same for taking.
use Rattle.std.specs.Prelude.{ℕ, Bool, List, ◌≡◌, ◌++◌, true}
use Rattle.live_pipeline.specs.declared.part.Part.{Part}
use Rattle.live_pipeline.specs.declared.rule.Log.{Log}
use mathlib.Core.Option.{some}
use lib.ListN.{get_elem?}
use Rattle.live_pipeline.specs.Order.{AreBounded}

-- a view with these rights and lists
abbrev pub log : Bool → Bool → List Part → List Part → Log
log puts takes put taken = record { puts = puts; takes = takes; put = put; taken = taken }

-- a view that may put has what was put, and one that may take has what was taken
abbrev pub LogFits : ℕ → ℕ → List Part → List Part → ℕ → Log → Type 0
LogFits writer reader put taken port v =
    (v.puts ≡ true → (port ≡ writer) × (v.put ≡ put))
    × (v.takes ≡ true → (port ≡ reader) × (v.taken ≡ taken))

-- the rule: of what the queue holds, and these views
abbrev pub Relayed : List Part → List Log → Type 0
Relayed items views =
    (writer : ℕ) × (reader : ℕ) × (put : List Part) × (taken : List Part)
    × (put ≡ taken ++ items)
    × AreBounded put
    × ((port : ℕ) (v : Log) → get_elem? views port ≡ some v → LogFits writer reader put taken port v)
