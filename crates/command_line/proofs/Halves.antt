-- The options are those of the first half, and then those of the second.
use Rattle.std.proofs.Common.{◌≡◌, ℕ, List, Option, refl, sym}
use Rattle.std.specs.Prelude.{Result, Ok, Err}
use Rattle.cost_model.specs.Options.{default_options}
use Rattle.command_line.specs.inside.Halves.{limits_of, model_of}
use Rattle.command_line.specs.Options.{and_then, option_of, options_of}
use Rattle.command_line.specs.declared.value.ValueName.TheVariants.{K, Radius, Sigma, Beta}

module _ {A B E : Type 0} where
  same_end : (r : Result ℕ E) (f : ℕ → Result A E) (g : A → Result B E) (h : ℕ → Result B E)
      → ((n : ℕ) → and_then (f n) g ≡ h n) → and_then (and_then r f) g ≡ and_then r h
  same_end (Ok n) f g h same = same n
  same_end (Err e) f g h same = refl

pub in_halves : (text : List ℕ → Option (List ℕ)) → options_of text ≡ and_then (model_of text) (limits_of text)
unfolding model_of limits_of options_of
in_halves text =
    sym (same_end (option_of K default_options.k text) _ _ _ (λ k.
    same_end (option_of Radius default_options.radius text) _ _ _ (λ radius.
    same_end (option_of Sigma default_options.sigma text) _ _ _ (λ sigma.
    same_end (option_of Beta default_options.beta text) _ _ _ (λ beta. refl)))))
