-- The trace file of a town.
use Rattle.std.specs.Prelude.{ℕ, zero, suc, ◌+◌, List, [], ◌∷◌, ◌++◌, codes, pos, ◌-ℤ◌}
use Rattle.std.specs.List.{flat_map}
use Rattle.decimal_text.specs.Number.{decimal, signed_decimal}
use Rattle.trace_reader.specs.declared.trace.Fix.{Fix}
use Rattle.trace_reader.specs.declared.trace.Trace.{Trace}
use Rattle.town.specs.declared.corner.Corner.{Corner}
use Rattle.town.specs.declared.corner.Heading.{Heading}
use Rattle.town.specs.declared.corner.Spot.{Spot}
use Rattle.town.specs.Corners.{along, heading_of, next_corner, turned}
use Rattle.town.specs.Draws.{draw, state_after}

-- the corner where a trace starts: its row is drawn before its column
abbrev pub start_corner : ℕ → ℕ → Corner
start_corner n x = record { row = draw 1 x n; column = draw 2 x n }

-- the way on from a corner
abbrev pub way_from : ℕ → Corner → ℕ → Heading
way_from n c x = turned n c (heading_of (draw 1 x 4))

-- a fix up to 1,000 cm from a spot each way: x is drawn before y
abbrev pub fix_near : Spot → ℕ → Fix
fix_near spot x = record {
  x = pos (spot.x + draw 1 x 2_001) -ℤ pos 1_000;
  y = pos (spot.y + draw 2 x 2_001) -ℤ pos 1_000;
  time = 0;
}

-- the fixes of a street from corner c this way
abbrev pub street_fixes : Corner → Heading → ℕ → List Fix
street_fixes c way x =
    fix_near (along c way 2_500) x
    ∷ fix_near (along c way 7_500) (state_after 2 x)
    ∷ []

-- the fixes of a walk over this many streets from corner c. A street takes 5 draws: the way, and two for each fix
unfoldable pub walk_fixes : ℕ → ℕ → Corner → ℕ → List Fix
walk_fixes n zero c x = []
walk_fixes n (suc streets) c x =
    street_fixes c (way_from n c x) (state_after 1 x)
    ++ walk_fixes n streets (next_corner c (way_from n c x)) (state_after 5 x)

-- a trace takes 52 draws: two for where it starts, and those of its ten streets
abbrev pub town_trace : ℕ → ℕ → ℕ → Trace
town_trace n id x =
    record { id = id; fixes = walk_fixes n 10 (start_corner n x) (state_after 2 x) }

-- this many traces, which are numbered from `id` on
unfoldable pub traces_from : ℕ → ℕ → ℕ → ℕ → List Trace
traces_from n zero id x = []
traces_from n (suc count) id x =
    town_trace n id x ∷ traces_from n count (id + 1) (state_after 52 x)

-- the traces of a town: the generator of all begins with the seed
abbrev pub town_trace_list : ℕ → ℕ → ℕ → List Trace
town_trace_list n t seed = traces_from n t 0 seed

-- the line of a fix: `ID,X,Y`
abbrev pub fix_line : ℕ → Fix → List ℕ
fix_line id fix =
    decimal id
    ++ codes ","
    ++ signed_decimal fix.x
    ++ codes ","
    ++ signed_decimal fix.y
    ++ codes "\n"

abbrev pub trace_lines : Trace → List ℕ
trace_lines trace = flat_map (fix_line trace.id) trace.fixes

-- the trace file of a town
abbrev pub traces_text : ℕ → ℕ → ℕ → List ℕ
traces_text n t seed = codes "trace,x,y\n" ++ flat_map trace_lines (town_trace_list n t seed)
