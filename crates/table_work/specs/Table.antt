-- `table NET`: the table text with the row of every node.
use Rattle.std.specs.Prelude.{ℕ, List, [], ◌∷◌, ◌++◌, Result, Ok, Err, codes, if◌then◌else◌, length, map, nat_lt}
use Rattle.std.specs.List.{range_with_len}
use Rattle.bounded_table.specs.RowValue.{row_of}
use Rattle.bounded_table.specs.Table.{TableRow}
use Rattle.cost_model.specs.declared.params.Params.{Params}
use Rattle.program_frame.specs.Outcome.{done_with}
use Rattle.program_frame.specs.Plan.{Plan, accepts, loads}
use Rattle.program_frame.specs.Plan.Plan.{ends}
use Rattle.program_frame.specs.Refusals.{network_said}
use Rattle.program_frame.specs.declared.stop.File.TheVariants.{Network}
use Rattle.road_network.specs.Limits.{file_limit}
use Rattle.road_network.specs.Net.{Net}
use Rattle.road_network.specs.declared.limits.NetworkLimits.{NetworkLimits}
use Rattle.table_work.specs.TableText.{table_text, table_text_limit}

abbrev pub table_too_long : List ℕ
table_too_long = codes "fmm: table too long" ++ 10 ∷ []

-- the rows of the first nodes, this many
abbrev pub first_rows : Net → ℕ → ℕ → List TableRow
first_rows net bound count = map (row_of net bound) (range_with_len 0 count)

-- the table text of a network, with the row of every node
abbrev pub text_of_network : Net → ℕ → List ℕ
text_of_network net bound =
    table_text bound (length net.nodes) (length net.edges) (first_rows net bound (length net.nodes))

-- the text, or the line where it is too long
abbrev pub table_said : Net → ℕ → Result (List ℕ) (List ℕ)
table_said net bound =
    if nat_lt table_text_limit (length (text_of_network net bound))
    then Err table_too_long else Ok (text_of_network net bound)

-- the network is read and accepted, and then its table is written, or refused as too long
abbrev pub table_plan : NetworkLimits → (network : List ℕ) (options : Params) → Plan
table_plan limits network options =
    loads Network network (file_limit limits) 5 (network_said limits)
    (λ net. accepts 8 (table_said net options.bound) (λ text. ends (done_with text)))
