use Rattle.std.proofs.Common.{◌≡◌, ◌++◌, OnOk, subst, codes, ap, ◌∙◌, pos, ◌+◌, ◌-ℤ◌, rules, w32}
use Rattle.std.proofs.lemmas.Int.{to_z-of_z}
use Rattle.decimal_text.specs.Number.{decimal, signed_decimal}
use Rattle.town.specs.Draws.{draw}
use Rattle.town.proofs.Lines.{fix_joined}
use Rattle.town.proofs.States.{draw_then}
use Rattle.town.proofs.traces.append_fix.Goals as goal

pub returns-clause-line : goal.returns-clause-line
returns-clause-line c =
    let x = c.args.draw.now in
    subst (λ t. OnOk c.extend_from_slice-3.result (c.extend_from_slice-3.new.self ≡ t))
    (fix_joined c.args.into.now (decimal c.args.id) (signed_decimal (pos (c.args.spot.x + draw 1 x 2_001) -ℤ pos 1_000)) (signed_decimal (pos (c.args.spot.y + draw 2 x 2_001) -ℤ pos 1_000)) (codes ",") (codes "\n") _ _ _ _ _
    (c.in_ok-write_unsigned.ensures.ok ∙ ap (λ d. c.args.into.now ++ decimal d) c.from.ensures) c.in_ok-extend_from_slice.ensures.ok
    (c.in_ok-write_signed.ensures.ok ∙ ap (λ z. c.extend_from_slice.new.self ++ signed_decimal z) (to_z-of_z w32 c.near-x.result (search rules) ∙ c.near-x.ensures ∙ ap (λ d. pos (c.args.spot.x + d) -ℤ pos 1_000) c.below.ensures.value))
    c.in_ok-extend_from_slice-2.ensures.ok
    (c.in_ok-write_signed-2.ensures.ok ∙ ap (λ z. c.extend_from_slice-2.new.self ++ signed_decimal z) (to_z-of_z w32 c.near-y.result (search rules) ∙ c.near-y.ensures ∙ ap (λ d. pos (c.args.spot.y + d) -ℤ pos 1_000) (c.below-2.ensures.value ∙ draw_then x _ 2_001 c.below.ensures.state))))
    c.extend_from_slice-3.ensures.ok
