-- Rows of a walk that have no row of an id, and rules without defaults.
use Rattle.std.proofs.Common.{append-nil, ◌≡◌, ◌||◌, ◌&&◌, Bool, true, false, cond, not, List, [], ◌∷◌, ◌++◌, fold, None, Some, refl, ap, ◌∙◌}
use Rattle.std.specs.Str.{bytes_eq}
use Rattle.clap.specs.Faults.{default_fault, defaults_fault, given_default_fault, repeat_fault}
use Rattle.clap.specs.Kinds.{Kinds, or_else}
use Rattle.clap.specs.Values.{reading_of}
use Rattle.clap.specs.Walk.{Row, Rule, Text, at_row, default_rows, has_row, is_empty, more_values, reading_by, used_as, with_default, with_values}
use Rattle.clap.specs.declared.builder.action.ArgAction.TheVariants.{Set}
use Rattle.clap.specs.declared.builder.value_parser.ValueParser.TheVariants as vp
use Rattle.clap.specs.declared.error.kind.ErrorKind.TheVariants as kind
use Rattle.clap.specs.declared.parser.matches.ValueSource.TheVariants.{CommandLine}

-- an option or argument with this value
abbrev pub row : Text → Text → Row
row id v = record { id = id; values = v ∷ []; count = None; source = Some CommandLine; reading = reading_of vp.String }

neither : (a b : Bool) → (a || b) ≡ false → (a ≡ false) × (b ≡ false)
neither true b is = absurd (cc is)
neither false b is = (refl, is)

absent-at : (id : Text) (change : Row → List Row) (missing rows : List Row) → has_row id rows ≡ false → at_row id change missing rows ≡ rows ++ missing
absent-at id change missing [] absent = refl
absent-at id change missing (r ∷ rows) absent =
    let parts = neither (bytes_eq r.id id) (has_row id rows) absent in
    ap (λ b. cond b (change r ++ rows) (r ∷ at_row id change missing rows)) parts.0
    ∙ ap (λ (rs : List Row). r ∷ rs) (absent-at id change missing rows parts.1)

-- its first use
pub used-first : (id v : Text) (rows : List Row) → has_row id rows ≡ false → used_as Set id (reading_of vp.String) (v ∷ []) rows ≡ rows ++ row id v ∷ []
used-first id v rows absent =
    ap (with_values id (reading_of vp.String) CommandLine (v ∷ [])) (absent-at id (λ _. []) [] rows absent ∙ append-nil rows)
    ∙ absent-at id (more_values CommandLine (v ∷ [])) (row id v ∷ []) rows absent

pub first-free : (id : Text) (rows : List Row) → has_row id rows ≡ false → or_else (repeat_fault false id rows) [] ≡ []
first-free id rows absent = ap (λ b. let kinds : Kinds = cond (b && not false) (kind.ArgumentConflict ∷ []) [] in or_else kinds []) absent

pub absent-more : (id other v : Text) (rows : List Row) → has_row id rows ≡ false → bytes_eq other id ≡ false → has_row id (rows ++ row other v ∷ []) ≡ false
absent-more id other v [] absent differ = ap (λ b. b || false) differ
absent-more id other v (r ∷ rows) absent differ =
    let parts = neither (bytes_eq r.id id) (has_row id rows) absent in
    ap (λ b. b || has_row id (rows ++ row other v ∷ [])) parts.0 ∙ absent-more id other v rows parts.1 differ

-- ---- no defaults

abbrev pub AreBare : List Rule → Type 0
AreBare [] = Unit {0}
AreBare (a ∷ rules) = (a.defaults ≡ []) × AreBare rules

either-way : {X : Type 0} (b : Bool) (x : X) → cond b x x ≡ x
either-way true x = refl
either-way false x = refl

or-true : {X : Type 0} (b : Bool) (x y : X) → cond (b || true) x y ≡ x
or-true true x y = refl
or-true false x y = refl

bare-row : (rows : List Row) (a : Rule) → a.defaults ≡ [] → with_default rows a ≡ rows
bare-row rows a none =
    ap (λ (ds : List Text). cond (has_row a.id rows) rows (default_rows a.id (reading_by a) ds rows)) none ∙ either-way (has_row a.id rows) rows

bare-fault : (rows : List Row) (a : Rule) → a.defaults ≡ [] → default_fault rows a ≡ []
bare-fault rows a none =
    ap (λ (ds : List Text). let kinds : Kinds = cond (has_row a.id rows || is_empty ds) [] (given_default_fault a ds) in kinds) none
    ∙ or-true (has_row a.id rows) [] (given_default_fault a [])

pub bare-rows : (rules : List Rule) (rows : List Row) → AreBare rules → fold with_default rows rules ≡ rows
bare-rows [] rows are = refl
bare-rows (a ∷ rules) rows are = ap (λ (rs : List Row). fold with_default rs rules) (bare-row rows a are.0) ∙ bare-rows rules rows are.1

pub bare-faults : (rules : List Rule) (rows : List Row) → AreBare rules → defaults_fault rows rules ≡ []
unfolding defaults_fault
bare-faults [] rows are = refl
bare-faults (a ∷ rules) rows are =
    ap (λ (kinds : Kinds). or_else kinds (defaults_fault (with_default rows a) rules)) (bare-fault rows a are.0)
    ∙ ap (λ (rs : List Row). defaults_fault rs rules) (bare-row rows a are.0)
    ∙ bare-faults rules rows are.1
