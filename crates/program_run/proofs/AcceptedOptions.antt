-- The options of words that are not refused are in their ranges.
use Rattle.std.proofs.Common.{◌≡◌, ℕ, ◌≤◌, Bool, true, false, cond, nat_le, List, [], ◌∷◌, Option, Some, None, Result, Ok, Err, refl, subst, arith}
use Rattle.std.proofs.lemmas.Bool.Decides.{nat_tests}
use Rattle.clap.specs.Words.{Kinds, Row, Text, fault_of, first_of, subcommand_of}
use Rattle.command_line.specs.Options.{and_then, option_from, option_of, options_of}
use Rattle.command_line.specs.Syntax.{all_kinds, program}
use Rattle.command_line.specs.Values.{checked, name_of, range_of, value_of}
use Rattle.command_line.specs.Words.{command_named, command_of, entered_of, if_taken, work_of}
use Rattle.command_line.specs.Work.{PlainCommand}
use Rattle.command_line.specs.declared.fault.WordsFault.{WordsFault}
use Rattle.command_line.specs.declared.value.ValueName.{ValueName}
use Rattle.command_line.specs.declared.value.ValueName.TheVariants.{K, Radius, Sigma, Beta, Bound, Workers, Back, Gap}
use Rattle.cost_model.specs.Options.{IsAccepted, IsWithin, default_options}
use Rattle.cost_model.specs.declared.params.Params.{Params}
use Rattle.decimal_text.specs.Number.{unsigned_within}
use Rattle.decimal_text.specs.declared.number.NumberFault.{NumberFault}
use Rattle.decimal_text.proofs.Laws.{Spells-unsigned_within}

-- the first reading of two, where the second succeeds
record BothRead {A B E : Type 0} (x : Result A E) (f : A → Result B E) (b : B) : Type 0 where
  first : A
  first_is : x ≡ Ok first
  then_is : f first ≡ Ok b

both_read : {A B E : Type 0} (x : Result A E) (f : A → Result B E) (b : B) → and_then x f ≡ Ok b → BothRead x f b
both_read (Ok a) f b e = record { first = a; first_is = refl; then_is = e }
both_read (Err g) f b e = absurd (cc e)

abbrev InRange : ValueName → ℕ → Type 0
InRange name n = IsWithin (range_of name).least (range_of name).most n

-- ---- one option

least_passed : (least n m : ℕ) (fault : WordsFault) (test : Bool) → nat_le least n ≡ test → cond {A = Result ℕ WordsFault} test (Ok n) (Err fault) ≡ Ok m → (n ≡ m) × (least ≤ n)
least_passed least n m fault true is e = (cc e, grind (arith, nat_tests, is))
least_passed least n m fault false is e = absurd (cc e)

checked_within : (name : ValueName) (read : Result ℕ NumberFault) (m : ℕ) → ((n : ℕ) → read ≡ Ok n → n ≤ (range_of name).most) → checked name read ≡ Ok m → InRange name m
checked_within name (Ok n) m small e =
    let passed = least_passed (range_of name).least n m _ (nat_le (range_of name).least n) refl e in
    subst (InRange name) passed.0 (passed.1, small n refl)
checked_within name (Err fault) m small e = absurd (cc e)

value_within : (name : ValueName) (text : List ℕ) (m : ℕ) → value_of name text ≡ Ok m → InRange name m
unfolding value_of
value_within name text m e =
    let most = (range_of name).most in
    checked_within name (unsigned_within most text) m (λ n is. (Spells-unsigned_within most n text is).small) e

option_within : (name : ValueName) (default : ℕ) (text : Option (List ℕ)) (m : ℕ) → InRange name default → option_from name default text ≡ Ok m → InRange name m
option_within name default None m within e = let same : default ≡ m = cc e in subst (InRange name) same within
option_within name default (Some text) m within e = value_within name text m e

-- ---- all options

accepted_options : (text : List ℕ → Option (List ℕ)) (p : Params) → options_of text ≡ Ok p → IsAccepted p
unfolding options_of
accepted_options text p e =
    let k = both_read (option_of K default_options.k text) _ p e in
    let radius = both_read (option_of Radius default_options.radius text) _ p k.then_is in
    let sigma = both_read (option_of Sigma default_options.sigma text) _ p radius.then_is in
    let beta = both_read (option_of Beta default_options.beta text) _ p sigma.then_is in
    let bound = both_read (option_of Bound default_options.bound text) _ p beta.then_is in
    let workers = both_read (option_of Workers default_options.workers text) _ p bound.then_is in
    let back = both_read (option_of Back default_options.back text) _ p workers.then_is in
    let gap = both_read (option_of Gap default_options.gap text) _ p back.then_is in
    let made : Params = record { k = k.first; radius = radius.first; sigma = sigma.first; beta = beta.first; bound = bound.first; workers = workers.first; back = back.first; gap = gap.first } in
    let is : made ≡ p = cc (gap.then_is) in
    subst IsAccepted is (record {
      k = option_within K default_options.k (text (name_of K)) k.first (omega arith, omega arith) k.first_is;
      radius = option_within Radius default_options.radius (text (name_of Radius)) radius.first (omega arith, omega arith) radius.first_is;
      sigma = option_within Sigma default_options.sigma (text (name_of Sigma)) sigma.first (omega arith, omega arith) sigma.first_is;
      beta = option_within Beta default_options.beta (text (name_of Beta)) beta.first (omega arith, omega arith) beta.first_is;
      bound = (option_within Bound default_options.bound (text (name_of Bound)) bound.first (omega arith, omega arith) bound.first_is).1;
      workers = option_within Workers default_options.workers (text (name_of Workers)) workers.first (omega arith, omega arith) workers.first_is;
      back = (option_within Back default_options.back (text (name_of Back)) back.first (omega arith, omega arith) back.first_is).1;
    })

-- ---- the words

accepted_named : (name : Text) (text : List ℕ → Option (List ℕ)) (c : PlainCommand) → command_named name text ≡ Ok c → IsAccepted c.options
unfolding command_named
accepted_named name text c e =
    let options = both_read (options_of text) _ c e in
    let work = both_read (work_of all_kinds name text) _ c options.then_is in
    let made : PlainCommand = record { work = work.first; options = options.first } in
    let is : made ≡ c = cc (work.then_is) in
    subst (λ (x : PlainCommand). IsAccepted x.options) is (accepted_options text options.first options.first_is)

accepted_entered : (entered : Option (Text × List Row)) (c : PlainCommand) → entered_of entered ≡ Ok c → IsAccepted c.options
accepted_entered None c e = absurd (cc e)
accepted_entered (Some entered) c e = accepted_named entered.0 (λ name. first_of name entered.1) c e

accepted_if_taken : (kinds : Kinds) (entered : Option (Text × List Row)) (c : PlainCommand) → if_taken kinds (entered_of entered) ≡ Ok c → IsAccepted c.options
accepted_if_taken [] entered c e = accepted_entered entered c e
accepted_if_taken (kind ∷ kinds) entered c e = absurd (cc e)

pub accepted_words : (words : List (List ℕ)) (c : PlainCommand) → command_of words ≡ Ok c → IsAccepted c.options
unfolding command_of
accepted_words words c e = accepted_if_taken (fault_of program words) (subcommand_of program words) c e
