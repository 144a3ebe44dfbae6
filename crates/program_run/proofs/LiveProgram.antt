-- Words that begin with `follow` ask for the work that the live program knows, or are refused.
use Rattle.std.proofs.Common.{◌≡◌, ◌++◌, List, [], ◌∷◌, ℕ, Option, Some, None, Result, Ok, Err, codes, refl, ap, fold, subst, sym}
use Rattle.clap.specs.Simple.{built, entered, names_of}
use Rattle.clap.specs.Walk.{Names, Row, Rule, Text, Walk, first_of, walk_from, nothing_held, walked, walked_from}
use Rattle.clap.specs.Words.{Kinds, fault_of}
use Rattle.command_line.specs.Options.{and_then, options_of}
use Rattle.command_line.specs.Syntax.{program}
use Rattle.command_line.specs.Work.{PlainCommand, PlainWork}
use Rattle.command_line.specs.Work.PlainWork.{follow_files}
use Rattle.command_line.specs.Words.{command_named, command_of, entered_of, if_taken}
use Rattle.command_line.specs.declared.fault.WordsFault.{WordsFault}
use Rattle.command_line.specs.works.TraceFiles.{both_names}
use Rattle.cost_model.specs.declared.params.Params.{Params}
use Rattle.follow_work.specs.Alone.{follow_alone}
use Rattle.program_frame.specs.Asked.{asked_of}
use Rattle.program_run.specs.LiveProgram.{LiveProgramPlansAlike}
use Rattle.program_run.specs.Words.{every_work}
use Rattle.road_network.specs.declared.limits.NetworkLimits.TheVariants.{Standard}

-- both programs ask the same of a command
abbrev AreAlike : Result PlainCommand WordsFault → Type 0
AreAlike command = asked_of follow_alone command ≡ asked_of (every_work Standard) command

-- once a subcommand is met, its name stays
record IsStopped (name : Text) (stop : Option (Text × List Text)) : Type 0 where
  words : List Text
  is : stop ≡ Some (name, words)

stays_stopped : (rules : List Rule) (names : Names) (name : Text) (w : Walk) (past words : List Text) → w.stopped ≡ Some (name, past) → IsStopped name (fold (walked rules names) w words).stopped
unfolding walked
stays_stopped rules names name w past [] is = record { words = past; is = is }
stays_stopped rules names name w past (word ∷ words) is =
    stays_stopped rules names name (walked rules names w word) (past ++ word ∷ []) words (ap (λ (p : Option (Text × List Text)). (walked_from rules names p w word).stopped) is)

named_alike : (options : Result Params WordsFault) (network traces : Option (List ℕ)) → AreAlike (and_then options (λ o. and_then (and_then (both_names network traces) (λ (names : List ℕ × List ℕ). let work : Result PlainWork WordsFault = Ok (follow_files names.0 names.1) in work)) (λ work. Ok (record { work = work; options = o }))))
named_alike (Err fault) network traces = refl
named_alike (Ok options) (Some network) (Some traces) = refl
named_alike (Ok options) (Some network) None = refl
named_alike (Ok options) None traces = refl

follow_alike : (rows : List Row) → AreAlike (command_named (codes "follow") (λ name. first_of name rows))
unfolding command_named
follow_alike rows = named_alike (options_of (λ name. first_of name rows)) (first_of (codes "NET") rows) (first_of (codes "TRACES") rows)

entered_alike : (stop : Option (Text × List Text)) → IsStopped (codes "follow") stop → AreAlike (entered_of (entered (built program) stop))
unfolding program
entered_alike stop stopped = subst (λ (p : Option (Text × List Text)). AreAlike (entered_of (entered (built program) p))) (sym stopped.is) (follow_alike _)

taken_alike : (kinds : Kinds) (command : Result PlainCommand WordsFault) → AreAlike command → AreAlike (if_taken kinds command)
taken_alike [] command alike = alike
taken_alike (kind ∷ kinds) command alike = refl

pub live_program_plans_alike : LiveProgramPlansAlike
unfolding command_of program walked
live_program_plans_alike words =
    let rules = (built program).top.rules in
    let names = names_of (built program) in
    taken_alike (fault_of program (codes "follow" ∷ words)) _
    (entered_alike _ (stays_stopped rules names (codes "follow") (walked rules names (walk_from nothing_held) (codes "follow")) [] words refl))
