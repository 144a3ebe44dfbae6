-- Parts as a list: traces, and then one last part.
use Rattle.std.specs.Prelude.{◌≡◌, List, [], ◌∷◌, ◌++◌, map, ⊤}
use Rattle.std.specs.List.{flat_map}
use Rattle.trace_reader.specs.declared.trace.Trace.{Trace as ATrace}
use Rattle.live_pipeline.specs.declared.part.Part.{Part}
use Rattle.live_pipeline.specs.declared.part.Part.TheVariants as parts

abbrev pub IsLast : Part → Type 0
IsLast (parts.Trace trace) = ⊥
IsLast parts.End = ⊤
IsLast (parts.Fault fault) = ⊤
IsLast parts.ReadFailed = ⊤
IsLast parts.NoMemory = ⊤

abbrev pub part_of : ATrace → Part
part_of trace = parts.Trace trace

abbrev pub parts_of : List ATrace → List Part
parts_of traces = map part_of traces

-- traces and then one last part
abbrev pub whole_of : List ATrace → Part → List Part
whole_of traces last = parts_of traces ++ last ∷ []

-- there are traces, and then one last part
abbrev pub AreWholeParts : List Part → Type 0
AreWholeParts all = (traces : List ATrace) × (last : Part) × IsLast last × (all ≡ whole_of traces last)

-- the traces among parts
abbrev pub traces_in_part : Part → List ATrace
traces_in_part (parts.Trace trace) = trace ∷ []
traces_in_part parts.End = []
traces_in_part (parts.Fault fault) = []
traces_in_part parts.ReadFailed = []
traces_in_part parts.NoMemory = []

abbrev pub traces_in : List Part → List ATrace
traces_in all = flat_map traces_in_part all
