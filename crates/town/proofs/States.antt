-- The states of the generator.
use Rattle.std.proofs.Common.{◌≡◌, ℕ, zero, suc, ◌+◌, ◌*◌, ◌/◌, ◌%◌, ◌^◌, ◌∙◌, ap, arith}
use Rattle.std.proofs.Math.Nat.{mod-add-mod}
use Rattle.town.specs.Draws.{draw, next_state, state_after}

-- a product that wraps, and then a sum that wraps
pub one_step : (x : ℕ) → ((x * 6_364_136_223_846_793_005) % 2 ^ 64 + 1_442_695_040_888_963_407) % 2 ^ 64 ≡ state_after 1 x
unfolding state_after
one_step x = mod-add-mod (x * 6_364_136_223_846_793_005) (2 ^ 64) 1_442_695_040_888_963_407

-- draws behind others
pub states_then : (j k x : ℕ) → state_after k (state_after j x) ≡ state_after (j + k) x
unfolding state_after
states_then zero k x =
    let none : k ≡ 0 + k = omega arith in
    ap (λ i. state_after i x) none
states_then (suc j) k x =
    let one : suc (j + k) ≡ suc j + k = omega arith in
    states_then j k (next_state x) ∙ ap (λ i. state_after i x) one

-- the two draws of a fix
pub draw_then : (x y m : ℕ) → y ≡ state_after 1 x → draw 1 y m ≡ draw 2 x m
draw_then x y m is = ap (λ s. s / 2 ^ 33 % m) (ap (state_after 1) is ∙ states_then 1 1 x)
