-- The words that ask to match two files with given options, and the law that they are read so.
use Rattle.std.specs.Prelude.{◌≡◌, ◌≢◌, ◌++◌, ℕ, List, [], ◌∷◌, codes, None, Ok, if◌then◌else◌}
use Rattle.std.specs.List.{All}
use Rattle.std.specs.Str.{bytes_eq}
use Rattle.command_line.specs.Values.{name_of, range_of}
use Rattle.command_line.specs.Work.PlainWork.{match_files}
use Rattle.command_line.specs.Words.{command_of}
use Rattle.command_line.specs.declared.value.ValueName.{ValueName}
use Rattle.command_line.specs.declared.value.ValueName.TheVariants.{K, Radius, Sigma, Beta, Bound, Workers, Back, Gap, Idle, N, T, Seed}
use Rattle.cost_model.specs.Options.{IsWithin, default_options}
use Rattle.cost_model.specs.declared.params.Params.{Params}
use Rattle.decimal_text.specs.Number.{decimal}

-- a word that does not begin with a hyphen, so that it is not taken for an option
abbrev pub IsName : List ℕ → Type 0
IsName [] = Unit {0}
IsName (byte ∷ word) = byte ≢ 45

-- an option with its value
pub record OptionValue : Type 0 where
  pub name : ValueName
  pub value : ℕ

-- `--NAME VALUE` for each of these options, in their order
abbrev pub option_words : List OptionValue → List (List ℕ)
option_words [] = []
option_words (o ∷ given) = (codes "--" ++ name_of o.name) ∷ decimal o.value ∷ option_words given

-- `match NETWORK TRACES`, and then these options
abbrev pub match_words : (network traces : List ℕ) → List OptionValue → List (List ℕ)
match_words network traces given = codes "match" ∷ network ∷ traces ∷ option_words given

-- an option of `match`, and neither that of `streams` nor a number that `town` takes
abbrev pub IsOption : ValueName → Type 0
IsOption Idle = ⊥
IsOption N = ⊥
IsOption T = ⊥
IsOption Seed = ⊥
IsOption name = Unit {0}

-- options with values in their ranges, each at most once
abbrev pub AreGiven : List OptionValue → Type 0
AreGiven [] = Unit {0}
AreGiven (o ∷ given) =
    IsOption o.name × IsWithin (range_of o.name).least (range_of o.name).most o.value
    × All (λ other. other.name ≢ o.name) given × AreGiven given

-- the value of the option of this name, or the default where it is not given
abbrev pub value_given : ValueName → ℕ → List OptionValue → ℕ
value_given name default [] = default
value_given name default (o ∷ given) =
    if bytes_eq (name_of o.name) (name_of name) then o.value else value_given name default given

abbrev pub options_given : List OptionValue → Params
options_given given = record {
  k = value_given K default_options.k given;
  radius = value_given Radius default_options.radius given;
  sigma = value_given Sigma default_options.sigma given;
  beta = value_given Beta default_options.beta given;
  bound = value_given Bound default_options.bound given;
  workers = value_given Workers default_options.workers given;
  back = value_given Back default_options.back given;
  gap = value_given Gap default_options.gap given;
}

abbrev pub MatchWordsAreRead : Type 0
MatchWordsAreRead =
    (network traces : List ℕ) (given : List OptionValue)
    → IsName network → IsName traces → AreGiven given
    → command_of (match_words network traces given)
    ≡ Ok (record { work = match_files network traces None; options = options_given given })
