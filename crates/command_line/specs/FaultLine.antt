-- The line that says why words are refused.
use Rattle.std.specs.Prelude.{ℕ, List, [], ◌∷◌, ◌++◌, codes}
use Rattle.command_line.specs.Values.{name_of}
use Rattle.command_line.specs.declared.fault.WordsFault.{WordsFault}
use Rattle.command_line.specs.declared.fault.WordsFault.TheVariants.{Usage, BadValue, Memory}

-- without its LF
abbrev pub fault_text : WordsFault → List ℕ
fault_text Usage = codes "fmm: bad command line"
fault_text (BadValue name) = codes "fmm: bad value " ++ name_of name
fault_text Memory = codes "fmm: out of memory"

-- with its LF
unfoldable pub fault_line : WordsFault → List ℕ
fault_line fault = fault_text fault ++ 10 ∷ []
