use Rattle.program_run.proofs.Asked.{town_performs}
use Rattle.program_run.proofs.top.perform.Goals as goal

pub returns-in-Town : goal.returns-in-Town
returns-in-Town g c =
    town_performs c.args.program.now.limits c.args.command c.in-Town.numbers (g.S.Shelf.state c.args.shelf.now) (g.K.Sink.state c.args.out.now) (g.K.Sink.state c.match_town.new.out) c.match_town.result c.in-Town.is (c.match_town.ensures (g.S.Shelf.state c.args.shelf.now))
