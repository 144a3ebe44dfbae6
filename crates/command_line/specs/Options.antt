-- The options that every command takes, and how they are read.
use Rattle.std.specs.Prelude.{ℕ, List, [], ◌∷◌, Option, Some, None, Result, Ok, Err}
use Rattle.cost_model.specs.declared.params.Params.{Params}
use Rattle.cost_model.specs.Options.{default_options}
use Rattle.command_line.specs.Values.{name_of, value_of}
use Rattle.command_line.specs.declared.fault.WordsFault.{WordsFault}
use Rattle.command_line.specs.declared.value.ValueName.{ValueName}
use Rattle.command_line.specs.declared.value.ValueName.TheVariants.{K, Radius, Sigma, Beta, Bound, Workers, Back, Gap}

abbrev pub all_options : List ValueName
all_options = K ∷ Radius ∷ Sigma ∷ Beta ∷ Bound ∷ Workers ∷ Back ∷ Gap ∷ []

-- the value of an option that the words give this text, or none
abbrev pub option_from : ValueName → ℕ → Option (List ℕ) → Result ℕ WordsFault
option_from name default None = Ok default
option_from name default (Some text) = value_of name text

-- the value of an option, of what the words give for each name
abbrev pub option_of : ValueName → ℕ → (List ℕ → Option (List ℕ)) → Result ℕ WordsFault
option_of name default text = option_from name default (text (name_of name))

-- the second reading where the first succeeds, and else its error
abbrev pub and_then : {A B E : Type 0} → Result A E → (A → Result B E) → Result B E
and_then (Ok x) next = next x
and_then (Err e) next = Err e

-- the options that the words give, or the fault of the first whose text is bad
unfoldable pub options_of : (List ℕ → Option (List ℕ)) → Result Params WordsFault
options_of text =
    and_then (option_of K default_options.k text) (λ k.
    and_then (option_of Radius default_options.radius text) (λ radius.
    and_then (option_of Sigma default_options.sigma text) (λ sigma.
    and_then (option_of Beta default_options.beta text) (λ beta.
    and_then (option_of Bound default_options.bound text) (λ bound.
    and_then (option_of Workers default_options.workers text) (λ workers.
    and_then (option_of Back default_options.back text) (λ back.
    and_then (option_of Gap default_options.gap text) (λ gap.
    Ok (record {
      k = k;
      radius = radius;
      sigma = sigma;
      beta = beta;
      bound = bound;
      workers = workers;
      back = back;
      gap = gap;
    })))))))))
