-- The walk over options and their values.
use Rattle.std.proofs.Common.{append-nil, append_assoc, ◌≡◌, ◌<◌, ◌^◌, false, List, [], ◌∷◌, ◌++◌, ◌≢◌, All, codes, find, map, unwrap_or, Option, Some, None, refl, sym, ap, subst, ◌∙◌, arith}
use Rattle.std.proofs.lemmas.List.Elements.{All-head, All-tail}
use Rattle.clap.specs.Faults.{repeat_fault, settle_fault, turn_fault}
use Rattle.clap.specs.Kinds.{Kinds, or_else}
use Rattle.clap.specs.Simple.{Shape, built, label_of, new_shape}
use Rattle.clap.specs.Values.{reading_of}
use Rattle.clap.specs.Walk.{Held, Row, Text, Walk, answers_to, has_row, idle, next, option, plain_word, settled, used_as, walked}
use Rattle.clap.specs.declared.builder.action.ArgAction.TheVariants.{Set}
use Rattle.clap.specs.declared.builder.value_parser.ValueParser.TheVariants as vp
use Rattle.clap.proofs.OnLiterals.{clap_on_literals}
use Rattle.command_line.specs.Syntax.{program}
use Rattle.command_line.specs.Values.{name_of}
use Rattle.command_line.specs.declared.value.ValueName.{ValueName}
use Rattle.command_line.specs.declared.value.ValueName.TheVariants.{K, Radius, Sigma, Beta, Bound, Workers, Back, Gap, Idle, N, T, Seed}
use Rattle.decimal_text.specs.Number.{decimal}
use Rattle.match_words.specs.MatchWords.{AreGiven, IsOption, OptionValue, option_words}
use Rattle.match_words.proofs.Names.{names-differ, ranges-fit}
use Rattle.match_words.proofs.Rows.{absent-more, first-free, row, used-first}
use Rattle.match_words.proofs.Turns.{Turns, at, number-of, turns-end, turns-option}

-- `match` as the built program has it
unfoldable pub match_shape : Shape
match_shape = unwrap_or (find (λ s. answers_to (codes "match") (label_of s)) (built program).subs) (new_shape [])

abbrev pub held : List Row → Option (Text × List Text) → Held
held rows pending = record { rows = rows; pending = pending; skip = 0 }

-- the walk where an option of this id waits for its value
abbrev waits_for : Text → Held → Walk
waits_for id h = record {
  held = record h { pending = Some (id, []) };
  waiting = option id;
  position = 3;
  is_trailing = false;
  stopped = None;
}

abbrev flag : ValueName → Text
flag name = codes "--" ++ name_of name

-- ---- one option

record IsFlag (name : ValueName) : Type 0 where
  walks : (rows : List Row) (pending : Option (Text × List Text))
      → walked match_shape.rules [] (at rows pending idle 3) (flag name) ≡ waits_for (name_of name) (settled match_shape.rules (held rows pending))
  free : (rows : List Row) (pending : Option (Text × List Text))
      → turn_fault match_shape [] (at rows pending idle 3) (flag name) ≡ or_else (settle_fault match_shape.rules match_shape.args_override_self (held rows pending)) []
  plain : (rows : List Row) (v : Text)
      → plain_word match_shape.rules (option (name_of name)) v (held rows (Some (name_of name, []))) ≡ (held rows (Some (name_of name, v ∷ [])), next idle)
  settles : (rows : List Row) (v : Text)
      → settled match_shape.rules (held rows (Some (name_of name, v ∷ []))) ≡ held (used_as Set (name_of name) (reading_of vp.String) (v ∷ []) rows) None
  fault : (rows : List Row) (v : Text)
      → settle_fault match_shape.rules match_shape.args_override_self (held rows (Some (name_of name, v ∷ []))) ≡ or_else (repeat_fault false (name_of name) rows) []

is-flag : (name : ValueName) → IsOption name → IsFlag name
unfolding clap_on_literals program match_shape
is-flag K is = record { walks = λ rows pending. refl; free = λ rows pending. refl; plain = λ rows v. refl; settles = λ rows v. refl; fault = λ rows v. refl }
is-flag Radius is = record { walks = λ rows pending. refl; free = λ rows pending. refl; plain = λ rows v. refl; settles = λ rows v. refl; fault = λ rows v. refl }
is-flag Sigma is = record { walks = λ rows pending. refl; free = λ rows pending. refl; plain = λ rows v. refl; settles = λ rows v. refl; fault = λ rows v. refl }
is-flag Beta is = record { walks = λ rows pending. refl; free = λ rows pending. refl; plain = λ rows v. refl; settles = λ rows v. refl; fault = λ rows v. refl }
is-flag Bound is = record { walks = λ rows pending. refl; free = λ rows pending. refl; plain = λ rows v. refl; settles = λ rows v. refl; fault = λ rows v. refl }
is-flag Workers is = record { walks = λ rows pending. refl; free = λ rows pending. refl; plain = λ rows v. refl; settles = λ rows v. refl; fault = λ rows v. refl }
is-flag Back is = record { walks = λ rows pending. refl; free = λ rows pending. refl; plain = λ rows v. refl; settles = λ rows v. refl; fault = λ rows v. refl }
is-flag Gap is = record { walks = λ rows pending. refl; free = λ rows pending. refl; plain = λ rows v. refl; settles = λ rows v. refl; fault = λ rows v. refl }
is-flag Idle is = absurd is
is-flag N is = absurd is
is-flag T is = absurd is
is-flag Seed is = absurd is

-- ---- all of them

-- with what is pending the rows are these, without a fault
pub record Settles (rows : List Row) (pending : Option (Text × List Text)) (after : List Row) : Type 0 where
  pub rows_are : settled match_shape.rules (held rows pending) ≡ held after None
  pub free : settle_fault match_shape.rules match_shape.args_override_self (held rows pending) ≡ []

settles-option : (name : ValueName) (v : Text) (rows : List Row) → IsFlag name → has_row (name_of name) rows ≡ false
    → Settles rows (Some (name_of name, v ∷ [])) (rows ++ row (name_of name) v ∷ [])
settles-option name v rows is absent = record {
  rows_are = is.settles rows v ∙ ap (λ (rs : List Row). held rs None) (used-first (name_of name) v rows absent);
  free = is.fault rows v ∙ first-free (name_of name) rows absent;
}

abbrev pub given_row : OptionValue → Row
given_row o = row (name_of o.name) (decimal o.value)

-- none of these options has a row
abbrev pub AreAbsent : List Row → List OptionValue → Type 0
AreAbsent rows [] = Unit {0}
AreAbsent rows (o ∷ given) = (has_row (name_of o.name) rows ≡ false) × AreAbsent rows given

absent-next : (rows : List Row) (o : OptionValue) (given : List OptionValue) → All (λ other. other.name ≢ o.name) given → AreAbsent rows given → AreAbsent (rows ++ given_row o ∷ []) given
absent-next rows o [] differ absent = tt
absent-next rows o (other ∷ given) differ absent = (
  absent-more (name_of other.name) (name_of o.name) (decimal o.value) rows absent.0 (names-differ o.name other.name (All-head (λ (x : OptionValue). x.name ≢ o.name) other given differ)),
  absent-next rows o given (All-tail (λ (x : OptionValue). x.name ≢ o.name) other given differ) absent.1,
)

-- where the walk over these options ends
pub record Ends (rows : List Row) (pending : Option (Text × List Text)) (after : List Row) (given : List OptionValue) : Type 0 where
  pub last_rows : List Row
  pub last_pending : Option (Text × List Text)
  pub turns : Turns match_shape (at rows pending idle 3) (option_words given) (at last_rows last_pending idle 3)
  pub settles : Settles last_rows last_pending (after ++ map given_row given)

pub ends : (rows : List Row) (pending : Option (Text × List Text)) (after : List Row) (given : List OptionValue)
    → Settles rows pending after → AreGiven given → AreAbsent after given → Ends rows pending after given
ends rows pending after [] before are absent = record {
  last_rows = rows;
  last_pending = pending;
  turns = turns-end match_shape (at rows pending idle 3);
  settles = subst (Settles rows pending) (sym (append-nil after)) before;
}
ends rows pending after (o ∷ given) before are absent =
    let is = is-flag o.name are.0 in
    let v = decimal o.value in
    let most = are.1.1 in
    let small : o.value < 2 ^ 64 = omega (arith, most, ranges-fit o.name) in
    let rest = ends after (Some (name_of o.name, v ∷ [])) (after ++ given_row o ∷ []) given (settles-option o.name v after is absent.0) are.3 (absent-next after o given are.2 absent.1) in
    record {
      last_rows = rest.last_rows;
      last_pending = rest.last_pending;
      turns = turns-option match_shape rows after pending (name_of o.name) (flag o.name) v (option_words given) (at rest.last_rows rest.last_pending idle 3)
          (number-of o.value small)
          (is.walks rows pending ∙ ap (waits_for (name_of o.name)) before.rows_are)
          (is.free rows pending ∙ ap (λ (kinds : Kinds). or_else kinds []) before.free)
          (is.plain after v)
          rest.turns;
      settles = subst (Settles rest.last_rows rest.last_pending) (append_assoc after (given_row o ∷ []) (map given_row given)) rest.settles;
    }
