-- What a run has written of a text.
use Rattle.std.specs.Prelude.{◌≡◌, ◌≢◌, ◌⊎◌, ℕ, List, [], take, Some}
use Rattle.edge_io.specs.State.{ShelfState, SinkState}

-- the run wrote this text, or it ended early after a beginning of the text, with status 1 (out of memory; no clause
-- says when), 3 (a read failed) or 4 (a write failed). `shelf`, `out` and `err` are the states after the run
pub record Wrote (text : List ℕ) (shelf : ShelfState) (out err : SinkState) (status : ℕ) : Type 0 where
  pub done : status ≡ 0 → (out.written ≡ Some text) × (err.written ≡ Some [])
  pub early : status ≢ 0
      → (status ≡ 1)
      ⊎ ((status ≡ 3) × (shelf.failed ≢ []))
      ⊎ ((status ≡ 4) × ((out.faults ≢ 0) ⊎ (err.faults ≢ 0)))
  pub part : (count : ℕ) × (out.written ≡ Some (take count text))
