-- The words that ask to match are read as that.
use Rattle.std.proofs.Common.{◌≡◌, ℕ, Bool, true, false, cond, List, [], ◌∷◌, ◌++◌, codes, find, fold, is_some, map, slice_get, Option, Some, None, Result, Ok, Err, option_and_then, refl, sym, ap, ap₂, subst, ◌∙◌}
use Rattle.std.specs.Str.{bytes_eq}
use Rattle.std.proofs.lemmas.Bool.{le-leb}
use Rattle.clap.specs.Faults.{check_fault, defaults_fault, entered_fault, fault_of, level_fault, settle_fault}
use Rattle.clap.specs.Kinds.{Kinds, or_else}
use Rattle.clap.specs.Simple.{App, built, entered, names_of, subcommand_of}
use Rattle.clap.specs.Walk.{Row, Text, Walk, finished, first_of, has_row, idle, nothing_held, settled, walk_from, walked, with_default}
use Rattle.clap.proofs.FaultLemmas.{stopped_fault}
use Rattle.clap.proofs.OnLiterals.{clap_on_literals}
use Rattle.clap.proofs.WalkLemmas.{walk_stopped}
use Rattle.command_line.specs.Options.{and_then, option_from, options_of}
use Rattle.command_line.specs.Syntax.{all_kinds, program}
use Rattle.command_line.specs.Values.{checked, name_of, range_of, value_of}
use Rattle.command_line.specs.Words.{command_named, command_of, entered_of, if_taken, work_of}
use Rattle.command_line.specs.Work.{PlainCommand, PlainWork}
use Rattle.command_line.specs.Work.PlainWork.{match_files}
use Rattle.command_line.specs.works.Match.{match_of}
use Rattle.command_line.specs.declared.fault.WordsFault.{WordsFault}
use Rattle.command_line.specs.declared.fault.WordsFault.TheVariants.{BadValue}
use Rattle.command_line.specs.declared.value.ValueName.{ValueName}
use Rattle.command_line.specs.declared.value.ValueName.TheVariants.{K, Radius, Sigma, Beta, Bound, Workers, Back, Gap, Idle, N, T, Seed}
use Rattle.cost_model.specs.Options.{IsWithin, default_options}
use Rattle.cost_model.specs.declared.params.Params.{Params}
use Rattle.decimal_text.specs.Number.{decimal}
use Rattle.decimal_text.proofs.Laws.{unsigned_within-decimal}
use Rattle.match_words.specs.MatchWords.{AreGiven, IsOption, MatchWordsAreRead, OptionValue, option_words, options_given, value_given}
use Rattle.match_words.proofs.Given.{AreAbsent, Settles, ends, given_row, held, match_shape}
use Rattle.match_words.proofs.Names.{one-name, ranges-fit}
use Rattle.match_words.proofs.Rows.{AreBare, bare-faults, bare-rows, row}
use Rattle.match_words.proofs.Turns.{IsValue, Turns, at, turns-place, value-of}

-- ---- what the rows give

value-read : (name : ValueName) (n : ℕ) → IsWithin (range_of name).least (range_of name).most n → value_of name (decimal n) ≡ Ok n
unfolding value_of
value-read name n within =
    ap (checked name) (unsigned_within-decimal (range_of name).most n within.1 (ranges-fit name))
    ∙ ap (λ b. let r : Result ℕ WordsFault = cond b (Ok n) (Err (BadValue name)) in r) (le-leb (range_of name).least n within.0)

abbrev option_in : ValueName → ℕ → List OptionValue → Result ℕ WordsFault
option_in name default given = option_from name default (first_of (name_of name) (map given_row given))

option-read-by : (name : ValueName) (default : ℕ) (o : OptionValue) (given : List OptionValue) (same : Bool) → bytes_eq (name_of o.name) (name_of name) ≡ same
    → IsWithin (range_of o.name).least (range_of o.name).most o.value → option_in name default given ≡ Ok (value_given name default given)
    → option_in name default (o ∷ given) ≡ Ok (value_given name default (o ∷ given))
option-read-by name default o given true is within rest =
    ap (λ b. option_from name default (option_and_then (λ (r : Row). slice_get r.values 0) (cond b (Some (given_row o)) (find (λ (r : Row). bytes_eq r.id (name_of name)) (map given_row given))))) is
    ∙ value-read name o.value (subst (λ (m : ValueName). IsWithin (range_of m).least (range_of m).most o.value) (one-name o.name name is) within)
    ∙ sym (ap (λ b. let r : Result ℕ WordsFault = Ok (cond b o.value (value_given name default given)) in r) is)
option-read-by name default o given false is within rest =
    ap (λ b. option_from name default (option_and_then (λ (r : Row). slice_get r.values 0) (cond b (Some (given_row o)) (find (λ (r : Row). bytes_eq r.id (name_of name)) (map given_row given))))) is
    ∙ rest
    ∙ sym (ap (λ b. let r : Result ℕ WordsFault = Ok (cond b o.value (value_given name default given)) in r) is)

option-read : (name : ValueName) (default : ℕ) (given : List OptionValue) → AreGiven given → option_in name default given ≡ Ok (value_given name default given)
option-read name default [] are = refl
option-read name default (o ∷ given) are =
    option-read-by name default o given (bytes_eq (name_of o.name) (name_of name)) refl are.1 (option-read name default given are.3)

no-table : (name : ValueName) → IsOption name → bytes_eq (name_of name) (codes "table") ≡ false
no-table K is = refl
no-table Radius is = refl
no-table Sigma is = refl
no-table Beta is = refl
no-table Bound is = refl
no-table Workers is = refl
no-table Back is = refl
no-table Gap is = refl
no-table Idle is = absurd is
no-table N is = absurd is
no-table T is = absurd is
no-table Seed is = absurd is

table-none : (given : List OptionValue) → AreGiven given → first_of (codes "table") (map given_row given) ≡ None
table-none [] are = refl
table-none (o ∷ given) are =
    ap (λ b. option_and_then (λ (r : Row). slice_get r.values 0) (cond b (Some (given_row o)) (find (λ (r : Row). bytes_eq r.id (codes "table")) (map given_row given)))) (no-table o.name are.0)
    ∙ table-none given are.3

all-read : (given : List OptionValue) (a b c d e f g h : Result ℕ WordsFault)
    → a ≡ Ok (value_given K default_options.k given) → b ≡ Ok (value_given Radius default_options.radius given) → c ≡ Ok (value_given Sigma default_options.sigma given)
    → d ≡ Ok (value_given Beta default_options.beta given) → e ≡ Ok (value_given Bound default_options.bound given) → f ≡ Ok (value_given Workers default_options.workers given)
    → g ≡ Ok (value_given Back default_options.back given) → h ≡ Ok (value_given Gap default_options.gap given)
    → and_then a (λ k. and_then b (λ radius. and_then c (λ sigma. and_then d (λ beta. and_then e (λ bound. and_then f (λ workers. and_then g (λ back. and_then h (λ gap.
    let r : Result Params WordsFault = Ok (record { k = k; radius = radius; sigma = sigma; beta = beta; bound = bound; workers = workers; back = back; gap = gap }) in r)))))))) ≡ Ok (options_given given)
all-read given a b c d e f g h a_is b_is c_is d_is e_is f_is g_is h_is = rw (a_is, b_is, c_is, d_is, e_is, f_is, g_is, h_is) refl

module _ (net tra : Text) (given : List OptionValue) where
  abbrev arguments : List Row
  arguments = row (codes "NET") net ∷ row (codes "TRACES") tra ∷ []

  abbrev text_in : List ℕ → Option (List ℕ)
  text_in name = first_of name (arguments ++ map given_row given)

  options-are : AreGiven given → options_of text_in ≡ Ok (options_given given)
  unfolding options_of
  options-are are =
      all-read given (option_in K default_options.k given) (option_in Radius default_options.radius given) (option_in Sigma default_options.sigma given) (option_in Beta default_options.beta given)
      (option_in Bound default_options.bound given) (option_in Workers default_options.workers given) (option_in Back default_options.back given) (option_in Gap default_options.gap given)
      (option-read K default_options.k given are) (option-read Radius default_options.radius given are) (option-read Sigma default_options.sigma given are) (option-read Beta default_options.beta given are)
      (option-read Bound default_options.bound given are) (option-read Workers default_options.workers given are) (option-read Back default_options.back given are) (option-read Gap default_options.gap given are)

  work-is : AreGiven given → work_of all_kinds (codes "match") text_in ≡ Ok (match_files net tra None)
  work-is are = ap (match_of (Some net) (Some tra)) (table-none given are)

  named-is : AreGiven given → command_named (codes "match") text_in ≡ Ok (record { work = match_files net tra None; options = options_given given })
  unfolding command_named
  named-is are =
      ap (λ (r : Result Params WordsFault). and_then r (λ options. and_then (work_of all_kinds (codes "match") text_in) (λ work. let c : Result PlainCommand WordsFault = Ok (record { work = work; options = options }) in c))) (options-are are)
      ∙ ap (λ (r : Result PlainWork WordsFault). and_then r (λ work. let c : Result PlainCommand WordsFault = Ok (record { work = work; options = options_given given }) in c)) (work-is are)

  -- ---- the walk

  not-arguments : (name : ValueName) → IsOption name → has_row (name_of name) arguments ≡ false
  not-arguments K is = refl
  not-arguments Radius is = refl
  not-arguments Sigma is = refl
  not-arguments Beta is = refl
  not-arguments Bound is = refl
  not-arguments Workers is = refl
  not-arguments Back is = refl
  not-arguments Gap is = refl
  not-arguments Idle is = absurd is
  not-arguments N is = absurd is
  not-arguments T is = absurd is
  not-arguments Seed is = absurd is

  absent-first : (some : List OptionValue) → AreGiven some → AreAbsent arguments some
  absent-first [] are = tt
  absent-first (o ∷ some) are = (not-arguments o.name are.0, absent-first some are.3)

  before : Settles (row (codes "NET") net ∷ []) (Some (codes "TRACES", tra ∷ [])) arguments
  unfolding clap_on_literals program match_shape
  before = record { rows_are = refl; free = refl }

  abbrev words : List Text
  words = net ∷ tra ∷ option_words given

  turns-all : IsValue net → IsValue tra → (end : Walk)
      → Turns match_shape (at (row (codes "NET") net ∷ []) (Some (codes "TRACES", tra ∷ [])) idle 3) (option_words given) end
      → Turns match_shape (walk_from nothing_held) words end
  unfolding clap_on_literals program match_shape
  turns-all is_net is_tra end rest =
      turns-place match_shape [] None 1 net (tra ∷ option_words given) end is_net refl
      (turns-place match_shape [] (Some (codes "NET", net ∷ [])) 2 tra (option_words given) end is_tra refl rest)

  -- ---- the end of the words

  bare : AreBare match_shape.rules
  unfolding program match_shape
  bare = (refl, (refl, (refl, (refl, (refl, (refl, (refl, (refl, (refl, (refl, (refl, (refl, tt))))))))))))

  checked-all : check_fault match_shape (arguments ++ map given_row given) false ≡ []
  unfolding program match_shape
  checked-all = refl

  module _ (rows : List Row) (pending : Option (Text × List Text)) (settles : Settles rows pending (arguments ++ map given_row given))
      (turns : Turns match_shape (walk_from nothing_held) words (at rows pending idle 3)) where
    finished-is : finished match_shape.rules (held rows pending) ≡ arguments ++ map given_row given
    finished-is =
        ap (λ h. fold with_default h.rows match_shape.rules) settles.rows_are ∙ bare-rows match_shape.rules (arguments ++ map given_row given) bare

    -- the faults after the walk
    free-end : or_else (settle_fault match_shape.rules match_shape.args_override_self (held rows pending))
        (or_else (defaults_fault (settled match_shape.rules (held rows pending)).rows match_shape.rules) (check_fault match_shape (finished match_shape.rules (held rows pending)) false)) ≡ []
    free-end =
        ap (λ (kinds : Kinds). or_else kinds (or_else (defaults_fault (settled match_shape.rules (held rows pending)).rows match_shape.rules) (check_fault match_shape (finished match_shape.rules (held rows pending)) false))) settles.free
        ∙ ap (λ h. or_else (defaults_fault h.rows match_shape.rules) (check_fault match_shape (finished match_shape.rules (held rows pending)) false)) settles.rows_are
        ∙ ap (λ (kinds : Kinds). or_else kinds (check_fault match_shape (finished match_shape.rules (held rows pending)) false)) (bare-faults match_shape.rules (arguments ++ map given_row given) bare)
        ∙ ap (λ (rs : List Row). check_fault match_shape rs false) finished-is
        ∙ checked-all

    free-level : level_fault match_shape [] nothing_held words false [] ≡ []
    free-level =
        ap₂ (λ (kinds : Kinds) (w : Walk). or_else kinds (or_else (settle_fault match_shape.rules match_shape.args_override_self w.held)
        (or_else (defaults_fault (settled match_shape.rules w.held).rows match_shape.rules) (check_fault match_shape (finished match_shape.rules w.held) false)))) turns.free turns.walks
        ∙ free-end

    -- ---- the level above

    abbrev app : App
    app = built program

    -- where `match` was met
    abbrev met : Walk
    met = record (walk_from nothing_held) { stopped = Some (codes "match", []) }

    abbrev stopped : Walk
    stopped = record (walk_from nothing_held) { stopped = Some (codes "match", words) }

    walk-stops : fold (walked app.top.rules (names_of app)) met words ≡ stopped
    walk-stops = sym (walk_stopped app.top.rules (names_of app) (walk_from nothing_held) (codes "match") [] words)

    free-words : fault_of program (codes "match" ∷ words) ≡ []
    unfolding clap_on_literals program match_shape
    free-words =
        ap₂ (λ (kinds : Kinds) (w : Walk). or_else kinds (or_else (entered_fault app w.stopped) (or_else (settle_fault app.top.rules app.top.args_override_self w.held)
        (or_else (defaults_fault (settled app.top.rules w.held).rows app.top.rules) (check_fault app.top (finished app.top.rules w.held) (is_some (entered app w.stopped)))))))
        (stopped_fault app.top (names_of app) (walk_from nothing_held) (codes "match", []) words) walk-stops
        ∙ ap (λ (kinds : Kinds). or_else kinds []) free-level

    entered-is : subcommand_of program (codes "match" ∷ words) ≡ Some (codes "match", arguments ++ map given_row given)
    unfolding clap_on_literals program match_shape
    entered-is =
        ap (λ (w : Walk). entered app w.stopped) walk-stops
        ∙ ap (λ (w : Walk). let o : Option (Text × List Row) = Some (codes "match", finished match_shape.rules w.held) in o) turns.walks
        ∙ ap (λ (rs : List Row). let o : Option (Text × List Row) = Some (codes "match", rs) in o) finished-is

    command-is : AreGiven given → command_of (codes "match" ∷ words) ≡ Ok (record { work = match_files net tra None; options = options_given given })
    unfolding command_of
    command-is are =
        ap₂ (λ (kinds : Kinds) (o : Option (Text × List Row)). if_taken kinds (entered_of o)) free-words entered-is ∙ named-is are

pub match_words_are_read : MatchWordsAreRead
match_words_are_read network traces given network_is traces_is are =
    let e = ends (row (codes "NET") network ∷ []) (Some (codes "TRACES", traces ∷ [])) (arguments network traces given) given
    (before network traces given) are (absent-first network traces given given are) in
    command-is network traces given e.last_rows e.last_pending e.settles
    (turns-all network traces given (value-of network network_is) (value-of traces traces_is) (at e.last_rows e.last_pending idle 3) e.turns) are
