-- The plan of the words is that of `follow`.
use Rattle.std.proofs.Common.{◌≡◌, ◌≢◌, ◌⊎◌, ℕ, List, None, Result, Ok, Err, refl, sym, ap, subst, inl}
use Rattle.command_line.specs.Work.{plain, plain_work}
use Rattle.command_line.specs.Words.{command_of}
use Rattle.command_line.specs.declared.fault.WordsFault.{WordsFault}
use Rattle.command_line.specs.declared.fault.WordsFault.TheVariants.{Memory, Usage}
use Rattle.command_line.specs.declared.work.Command.{Command}
use Rattle.command_line.specs.declared.work.Work.{Work}
use Rattle.command_line.specs.declared.work.Work.TheVariants.{Match, Follow, Streams, Prove, Check, Table, Town}
use Rattle.edge_io.specs.State.{ShelfState, SinkState}
use Rattle.follow_work.specs.Alone.{follow_alone, followed}
use Rattle.follow_work.specs.Follow.{follow_plan}
use Rattle.live_pipeline.specs.Living.{LivePerforms}
use Rattle.live_pipeline.specs.Words.{asked_of_live_words, with_follow}
use Rattle.program_frame.specs.Plan.{Plan}
use Rattle.road_network.specs.declared.limits.NetworkLimits.TheVariants.{Standard}
use Rattle.program_frame.specs.inside.Refusing.{RefusesWords}
use Rattle.program_frame.specs.declared.stop.Stop.{Stop}
use Rattle.program_frame.proofs.Asked as frame

pub words_refuse : (words : List (List ℕ)) (fault : WordsFault) (shelf : ShelfState) (out : SinkState) (stop : Stop) → (fault ≡ Memory) ⊎ (command_of (with_follow words) ≡ Err fault) → RefusesWords fault stop → LivePerforms (asked_of_live_words words) shelf shelf out out (Err stop)
words_refuse words fault shelf out stop known refuses = inl (frame.words_refuse follow_alone (with_follow words) fault shelf out stop known refuses)

-- the words ask for another work
no_follow : (work : Work) (options : _) → ((files : _) → work ≢ Follow files) → followed (plain_work work) options ≡ None
no_follow (Match files) options other = refl
no_follow (Follow files) options other = absurd (other files refl)
no_follow (Streams files) options other = refl
no_follow (Prove files) options other = refl
no_follow (Check files) options other = refl
no_follow (Table files) options other = refl
no_follow (Town numbers) options other = refl

pub other_refuse : (words : List (List ℕ)) (command : Command) (shelf : ShelfState) (out : SinkState) (stop : Stop) → command_of (with_follow words) ≡ Ok (plain command) → ((files : _) → command.work ≢ Follow files) → RefusesWords Usage stop → LivePerforms (asked_of_live_words words) shelf shelf out out (Err stop)
other_refuse words command shelf out stop is other refuses =
    inl (frame.others_refuse follow_alone (with_follow words) (plain command) shelf out stop is (no_follow command.work command.options other) refuses)

-- the words ask for `follow`
pub asked_follow : (words : List (List ℕ)) (command : Command) (files : _) (shelf shelf' : ShelfState) (out out' : SinkState) (ended : Result (Unit {0}) Stop) → command_of (with_follow words) ≡ Ok (plain command) → command.work ≡ Follow files → LivePerforms (Ok (follow_plan Standard files.network.now files.traces.now command.options)) shelf shelf' out out' ended → LivePerforms (asked_of_live_words words) shelf shelf' out out' ended
asked_follow words command files shelf shelf' out out' ended known is performs =
    subst (λ (a : Result Plan (List ℕ)). LivePerforms a shelf shelf' out out' ended) (sym (frame.asked_is follow_alone (with_follow words) (plain command) (follow_plan Standard files.network.now files.traces.now command.options) known (ap (λ (w : Work). followed (plain_work w) command.options) is))) performs
