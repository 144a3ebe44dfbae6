-- Arguments that are added to a command one at a time.
use Rattle.std.proofs.Common.{◌≡◌, ◌∙◌, ap, ap₂, sym, refl, Bor, ℕ, ◌+◌, ◌<◌, List, [], ◌∷◌, ◌++◌, map, take, length, get_or, add-one, append_assoc}
use Rattle.std.proofs.lemmas.List.{map-append}
use Rattle.std.proofs.Math.Seq.{take-suc}
use Rattle.clap.specs.Words.{App, Rule, Shape, Text, with_rule, with_subcommand}
use Rattle.clap.specs.Simple.{new_shape, on_top}
use Rattle.command_line.specs.inside.Building.{rule_of_word, with_commands, with_rules}
use Rattle.command_line.specs.declared.syntax.WordRole.{WordRole}

module _ {X Y : Type 0} (f : X → Y) where
  map_one_more : (xs : List X) (i : ℕ) (d : X) → i < length xs
      → map f (take i xs) ++ f (get_or xs i d) ∷ [] ≡ map f (take (i + 1) xs)
  map_one_more xs i d low = sym (map-append f (take i xs) (get_or xs i d ∷ []))
      ∙ ap (map f) (sym (take-suc xs i d low) ∙ ap (λ n. take n xs) (sym (add-one i)))

module _ {X : Type 0} (f : X → Rule) where
  pub one_more : (base : App) (xs : List X) (i : ℕ) (d : X) → i < length xs
      → with_rule (with_rules base (map f (take i xs))) (f (get_or xs i d)) ≡ with_rules base (map f (take (i + 1) xs))
  one_more base xs i d low = ap (λ rules. on_top (λ shape. record shape { rules = rules }) base)
      (append_assoc base.top.rules (map f (take i xs)) (f (get_or xs i d) ∷ [])
      ∙ ap (λ l. base.top.rules ++ l) (map_one_more f xs i d low))

-- the names behind references
pub of_the_names : (role : WordRole) (xs : List (Bor Text)) → map (λ s. rule_of_word role s.now) xs ≡ map (rule_of_word role) (map (λ s. s.now) xs)
of_the_names role [] = refl
of_the_names role (x ∷ xs) = ap (λ l. rule_of_word role x.now ∷ l) (of_the_names role xs)

-- the rules of a command, added in three parts
pub in_three : (name : Text) (every own own' arguments arguments' : List Rule) → own ≡ own' → arguments ≡ arguments'
    → record (new_shape name) { rules = every ++ own ++ arguments } ≡ record (new_shape name) { rules = every ++ own' ++ arguments' }
in_three name every own own' arguments arguments' same_own same_arguments =
    ap₂ (λ a b. record (new_shape name) { rules = every ++ a ++ b }) same_own same_arguments

-- commands that are added to a program one at a time
module _ {X : Type 0} (f : X → Shape) where
  one_more_in : (app : App) (shapes : List Shape) (shape : Shape) → with_subcommand (with_commands app shapes) shape ≡ with_commands app (shapes ++ shape ∷ [])
  one_more_in app [] shape = refl
  one_more_in app (s ∷ shapes) shape = one_more_in (with_subcommand app s) shapes shape

  pub one_more_command : (app before : App) (xs : List X) (i : ℕ) (d : X) → i < length xs
      → before ≡ with_commands app (map f (take i xs)) → with_subcommand before (f (get_or xs i d)) ≡ with_commands app (map f (take (i + 1) xs))
  one_more_command app before xs i d low so_far = ap (λ a. with_subcommand a (f (get_or xs i d))) so_far
      ∙ (one_more_in app (map f (take i xs)) (f (get_or xs i d)) ∙ ap (with_commands app) (map_one_more f xs i d low))
