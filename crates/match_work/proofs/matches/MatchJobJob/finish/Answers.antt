use Rattle.std.proofs.Common.{◌≡◌, ◌++◌, ◌∙◌, OnOk, ap, subst}
use Rattle.row_store.specs.Store.{count_known}
use Rattle.match_work.proofs.Jobs.{total_is}
use Rattle.match_work.proofs.matches.MatchJobJob.finish.Goals as goal

pub known_count-requires : goal.known_count-requires
known_count-requires g c =
    let shared = c.requires.1.0.shared in
    (shared.store, rw c.as_slice.ensures shared.each)

pub returns : goal.returns
returns g c taken has =
    subst (λ t. OnOk c.append_line.result (c.append_line.new.into ≡ c.args.into.now ++ t)) (total_is c.args.self.now.matcher.now taken c.args.self.now.readers c.args.self.now.tally c.from.result has.0 (c.from.ensures ∙ c.in_ok-rows.ensures ∙ ap count_known c.as_slice.ensures)) c.append_line.ensures
