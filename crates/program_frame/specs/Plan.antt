-- The plan of a command, put together from three words: `reads`, `accepts` and `ends`.
use Rattle.std.specs.Prelude.{◌≡◌, ◌⊎◌, ℕ, List, Some, None, Result, Ok, Err}
use Rattle.std.specs.declared.option.Option.{Option}
use Rattle.program_frame.specs.Outcome.{Outcome, refused_with, bytes_seen}
use Rattle.program_frame.specs.declared.stop.File.{File}

-- `ends` with an outcome; `reads` a file under a name, to its end or the first byte above its limit,
-- and then does what follows from the bytes
pub data Plan : Type 0 where
  ends : Outcome → Plan
  reads : File → (name : List ℕ) → (limit : ℕ) → (List ℕ → Plan) → Plan

-- a value, or the line of its refusal
abbrev pub accepts : {A : Type 0} → ℕ → Result A (List ℕ) → (A → Plan) → Plan
accepts status (Ok value) next = next value
accepts status (Err line) next = ends (refused_with status line)

-- the value of a file, or the line of its refusal, and then what follows from the value
abbrev pub loads : {A : Type 0} → File → List ℕ → ℕ → ℕ → (List ℕ → Result A (List ℕ))
    → (A → Plan) → Plan
loads file name limit status said next =
    reads file name limit (λ bytes. accepts status (said bytes) next)

abbrev pub and_then : {A B : Type 0} → Option A → (A → Option B) → Option B
and_then None next = None
and_then (Some value) next = next value

abbrev pub and_holds : {A : Type 0} → Option A → (A → Type 0) → Type 0
and_holds None next = ⊥
and_holds (Some value) next = next value

-- what the files define; none, where one that is read is not held
abbrev pub outcome_of : Plan → (List ℕ → Option (List ℕ)) → Option Outcome
outcome_of (ends o) files = Some o
outcome_of (reads file name limit next) files =
    and_then (bytes_seen limit (files name)) (λ bytes. outcome_of (next bytes) files)

-- the turn of file f comes: each file before it is held and accepted
abbrev pub Comes : Plan → (List ℕ → Option (List ℕ)) → File → Type 0
Comes (ends o) files f = ⊥
Comes (reads file name limit next) files f =
    (f ≡ file) ⊎ and_holds (bytes_seen limit (files name)) (λ bytes. Comes (next bytes) files f)

-- the plan may read file f under name n
abbrev pub IsFileOf : Plan → File → List ℕ → Type 0
IsFileOf (ends o) f n = ⊥
IsFileOf (reads file name limit next) f n =
    ((f ≡ file) × (n ≡ name)) ⊎ ((bytes : List ℕ) × IsFileOf (next bytes) f n)

-- the plan may end with this status and this line on err
abbrev pub IsLineOf : Plan → ℕ → List ℕ → Type 0
IsLineOf (ends o) status line = (o.status ≡ status) × (o.err ≡ line)
IsLineOf (reads file name limit next) status line =
    (bytes : List ℕ) × IsLineOf (next bytes) status line

-- the plan of accepted words, or of refused ones
abbrev pub plan_of : Result Plan (List ℕ) → Plan
plan_of (Err line) = ends (refused_with 2 line)
plan_of (Ok plan) = plan

abbrev pub AreRefused : Result Plan (List ℕ) → Type 0
AreRefused (Err line) = Unit {0}
AreRefused (Ok plan) = ⊥

-- the words are refused with this line
abbrev pub AreRefusedBy : Result Plan (List ℕ) → List ℕ → Type 0
AreRefusedBy (Err said) line = said ≡ line
AreRefusedBy (Ok plan) line = ⊥
