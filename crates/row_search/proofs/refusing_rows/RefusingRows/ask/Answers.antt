use Rattle.std.proofs.Common.{ap, refl}
use Rattle.row_search.specs.Refusing.{RefusingState}
use Rattle.row_search.proofs.refusing_rows.RefusingRows.ask.Goals as goal

pub get-requires : goal.get-requires
get-requires c = rw (ap (λ (k : RefusingState). k.rows) c.self.view_is) (c.in_ok-fill.ensures.follows.asks.all c.args.n.0 refl)

pub returns : goal.returns
returns c =
    let f = rw (← c.self.view_is) at c.in_ok-fill.ensures.follows in
    let row = rw (f.asks.only.keeps.network, f.asks.only.keeps.bound) at c.get.ensures in (
      (refl, λ _. tt, record { refuse = f.refuse; counted = f.counted; asks = record { only = f.asks.only; all = f.asks.all }; refused = tt }),
      record { value = row; answers = record { refused = c.in_ok-fill.ensures.answers.refused; again = λ _ _. refl }; after = tt },
    )
