-- What a parse of the program says of the command that the words ask for.
use Rattle.std.proofs.Common.{◌≡◌, ◌∙◌, ◌⊎◌, inl, inr, ap, sym, subst, refl, true, List, [], ◌∷◌}
use Rattle.std.specs.Prelude.{Result, Ok, Err, IfOk, IfErr}
use Rattle.std.specs.Result.{result_map_both}
use Rattle.clap.specs.Words.{App, Text, HasMatchesOf, Kinds, IsAmong, HasKind, fault_of, is_simple, is_simple_and_free, kind_of, subcommand_rows_of}
use Rattle.clap.specs.declared.error.Error.{Error}
use Rattle.clap.specs.declared.error.kind.ErrorKind.{ErrorKind}
use Rattle.clap.specs.declared.error.kind.ErrorKind.TheVariants.{OutOfMemory}
use Rattle.clap.specs.declared.parser.matches.ArgMatches.{ArgMatches}
use Rattle.command_line.specs.Syntax.{program}
use Rattle.command_line.specs.Work.{PlainCommand, plain}
use Rattle.command_line.specs.Words.{command_of, entered_of, if_taken}
use Rattle.command_line.specs.declared.work.Command.{Command}
use Rattle.command_line.specs.declared.fault.WordsFault.{WordsFault}
use Rattle.command_line.specs.declared.fault.WordsFault.TheVariants.{Usage, Memory}

-- clap's promise speaks of the program
simple : is_simple program ≡ true
unfolding program
simple = refl

simple_and_free : is_simple_and_free program ≡ true
unfolding program
simple_and_free = refl

some_kind : (kind : ErrorKind) (kinds : Kinds) (command : Result PlainCommand WordsFault) → IsAmong kind kinds
    → if_taken kinds command ≡ Err Usage
some_kind kind [] command among = absurd among
some_kind kind (k ∷ ks) command among = refl

refused : (words : List Text) (kind : ErrorKind) → IsAmong kind (fault_of program words) → command_of words ≡ Err Usage
unfolding command_of
refused words kind among = some_kind kind (fault_of program words) _ among

pub of_error : (app : App) (words : List Text) (e : Error) (fault : WordsFault) → app ≡ program
    → (is_simple_and_free app ≡ true → HasKind (fault_of app words) e)
    → (kind_of e ≡ OutOfMemory → fault ≡ Memory) → (fault ≡ Memory) ⊎ (fault ≡ Usage)
    → (fault ≡ Memory) ⊎ (command_of words ≡ Err fault)
of_error app words e fault is fails memory other =
    let kinds : HasKind (fault_of program words) e =
    subst (λ a. is_simple_and_free a ≡ true → HasKind (fault_of a words) e) is fails simple_and_free in
    elim kinds [
      | inl wanting ↦ inl (memory wanting)
      | inr among ↦ elim other [
        | inl m ↦ inl m
        | inr u ↦ inr (refused words (kind_of e) among ∙ ap (λ f. Err f) (sym u))
      ]
    ]

if_taken-none : (kinds : Kinds) (command : Result PlainCommand WordsFault) → kinds ≡ [] → if_taken kinds command ≡ command
if_taken-none kinds command none = ap (λ ks. if_taken ks command) none

pub of_matches : (app : App) (words : List Text) (m : ArgMatches) (command : Result PlainCommand WordsFault) → app ≡ program
    → (is_simple_and_free app ≡ true → fault_of app words ≡ []) → HasMatchesOf app words m
    → command ≡ entered_of (subcommand_rows_of m) → command_of words ≡ command
unfolding command_of
of_matches app words m command is fails matches entered =
    let none = subst (λ a. is_simple_and_free a ≡ true → fault_of a words ≡ []) is fails simple_and_free in
    let has = subst (λ a. HasMatchesOf a words m) is matches in
    if_taken-none _ _ none ∙ (ap entered_of (sym (has simple).1) ∙ sym entered)

pub at_ok : (command : Result PlainCommand WordsFault) (r : Result Command WordsFault)
    → command ≡ result_map_both plain (λ f. f) r → IfOk r (λ c. command ≡ Ok (plain c))
at_ok command (Ok c) is = is
at_ok command (Err f) is = tt

pub at_err : (command : Result PlainCommand WordsFault) (r : Result Command WordsFault)
    → command ≡ result_map_both plain (λ f. f) r → IfErr r (λ f. (f ≡ Memory) ⊎ (command ≡ Err f))
at_err command (Ok c) is = tt
at_err command (Err f) is = inr is
