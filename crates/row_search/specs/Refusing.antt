-- Rows that refuse some calls.
use Rattle.std.specs.Prelude.{◌≡◌, ℕ, ◌+◌, ◌-◌, ◌^◌, List, Contains, Result, IsErr, IsOk, OnErr, min}
use Rattle.bounded_table.specs.Rows.{RowsState, AsksFor}

-- refusing rows as contracts see them: their rows, the numbers of the calls that they refuse, and the number of calls so far
pub record RefusingState : Type 0 where
  pub rows : RowsState
  pub refuse : List ℕ
  pub calls : ℕ

-- the number of the next call: calls count from 1, and a count that has reached 2 ^ 64 - 1 stays there
abbrev pub next_call : RefusingState → ℕ
next_call state = min (state.calls + 1) (2 ^ 64 - 1)

-- the next call is to be refused
abbrev pub IsRefused : RefusingState → Type 0
IsRefused state = Contains state.refuse (next_call state)

-- how a call for the row of n is answered: one that is to be refused is, and any other needs no memory if the node is known
pub record AnswersCall {A E : Type 0} (before : RefusingState) (n : ℕ) (result : Result A E) : Type 0 where
  pub refused : IsRefused before → IsErr result
  pub again : (IsRefused before → ⊥) → Contains before.rows.known n → IsOk result

-- what a call for the row of n leaves: it was counted, the node is known after Ok, and after a refusal nothing is new
pub record FollowsCall {A E : Type 0} (before : RefusingState) (n : ℕ) (result : Result A E) (after : RefusingState) : Type 0 where
  pub refuse : after.refuse ≡ before.refuse
  pub counted : after.calls ≡ next_call before
  pub asks : AsksFor before.rows (λ v. v ≡ n) result after.rows
  pub refused : OnErr result (after.rows.known ≡ before.rows.known)
