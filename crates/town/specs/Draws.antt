-- Numbers drawn one after the other from a state.
use Rattle.std.specs.Prelude.{ℕ, zero, suc, ◌+◌, ◌*◌, ◌/◌, ◌%◌, ◌^◌}

-- the state after one draw
abbrev pub next_state : ℕ → ℕ
next_state x = (x * 6_364_136_223_846_793_005 + 1_442_695_040_888_963_407) % 2 ^ 64

-- the state after k draws
unfoldable pub state_after : ℕ → ℕ → ℕ
state_after zero x = x
state_after (suc k) x = state_after k (next_state x)

-- what the k-th draw from state x gives, below m
abbrev pub draw : ℕ → ℕ → ℕ → ℕ
draw k x m = state_after k x / 2 ^ 33 % m
