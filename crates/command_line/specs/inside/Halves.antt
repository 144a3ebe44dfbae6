-- The options as the code reads them, in two halves.
use Rattle.std.specs.Prelude.{ℕ, List, Option, Result, Ok}
use Rattle.cost_model.specs.declared.params.Params.{Params}
use Rattle.cost_model.specs.Options.{default_options}
use Rattle.command_line.specs.Options.{and_then, option_of}
use Rattle.command_line.specs.declared.fault.WordsFault.{WordsFault}
use Rattle.command_line.specs.declared.value.ValueName.TheVariants.{K, Radius, Sigma, Beta, Bound, Workers, Back, Gap}

-- the first four options, and the defaults of the others
unfoldable pub model_of : (List ℕ → Option (List ℕ)) → Result Params WordsFault
model_of text =
    and_then (option_of K default_options.k text) (λ k.
    and_then (option_of Radius default_options.radius text) (λ radius.
    and_then (option_of Sigma default_options.sigma text) (λ sigma.
    and_then (option_of Beta default_options.beta text) (λ beta.
    Ok (record default_options { k = k; radius = radius; sigma = sigma; beta = beta })))))

-- the last four options, beside the first
unfoldable pub limits_of : (List ℕ → Option (List ℕ)) → Params → Result Params WordsFault
limits_of text model =
    and_then (option_of Bound default_options.bound text) (λ bound.
    and_then (option_of Workers default_options.workers text) (λ workers.
    and_then (option_of Back default_options.back text) (λ back.
    and_then (option_of Gap default_options.gap text) (λ gap.
    Ok (record model { bound = bound; workers = workers; back = back; gap = gap })))))
