use Rattle.std.proofs.Common.{ap, ◌∙◌}
use Rattle.row_search.specs.Refusing.{RefusingState, next_call}
use Rattle.row_search.proofs.refusing_rows.RefusingRows.admit.Goals as goal

pub returns-then-contains-clause-rows : goal.returns-then-contains-clause-rows
returns-then-contains-clause-rows c = ap (λ (k : RefusingState). k.rows) c.self.view_is

pub returns-then-contains-clause-refuse : goal.returns-then-contains-clause-refuse
returns-then-contains-clause-refuse c = ap (λ (k : RefusingState). k.refuse) c.self.view_is

pub returns-then-contains-clause-counted : goal.returns-then-contains-clause-counted
returns-then-contains-clause-counted c = c.saturating_add-self-inside.ensures ∙ ap next_call c.self.view_is

pub returns-clause-rows : goal.returns-clause-rows
returns-clause-rows c = ap (λ (k : RefusingState). k.rows) c.self.view_is

pub returns-clause-refuse : goal.returns-clause-refuse
returns-clause-refuse c = ap (λ (k : RefusingState). k.refuse) c.self.view_is

pub returns-clause-counted : goal.returns-clause-counted
returns-clause-counted c = c.saturating_add-self-inside.ensures ∙ ap next_call c.self.view_is
