use Rattle.std.proofs.Common.{◌≡◌, Result, Ok, Err, OnErr, ap, ◌∙◌}
use Rattle.row_search.specs.Refusing.{RefusingState}
use Rattle.bounded_table.specs.Rows.{RowsState}
use Rattle.row_search.proofs.refusing_rows.RefusingRows.fill.Goals as goal

same_known : {A E : Type 0} (r : Result A E) (before after : RowsState) → OnErr r (after ≡ before) → OnErr r (after.known ≡ before.known)
same_known (Ok x) before after same = tt
same_known (Err e) before after same = ap (λ (k : RowsState). k.known) same

pub returns-clause-follows : goal.returns-clause-follows
returns-clause-follows c =
    let a = c.in_ok-admit.ensures in
    let rows : c.self.inside.rows ≡ c.args.self.now.rows = ap (λ (k : RefusingState). k.rows) c.self.view_is ∙ a.rows in
    let f = rw rows at c.fill.ensures in
    record {
      refuse = ap (λ (k : RefusingState). k.refuse) c.self.view_is ∙ a.refuse;
      counted = ap (λ (k : RefusingState). k.calls) c.self.view_is ∙ a.counted;
      asks = f.asks;
      refused = same_known c.fill.result c.args.self.now.rows c.fill.new.self f.err;
    }
