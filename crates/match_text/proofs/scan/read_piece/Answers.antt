use Rattle.std.proofs.Common.{◌≡◌, [], length, arith, ap, rules, sym, ◌∙◌}
use Rattle.std.proofs.lemmas.List.{nil_from_length}
use Rattle.match_text.proofs.Pieces.{no_head, not_open, no_route, empty_route, piece_read}
use Rattle.match_text.proofs.scan.read_piece.Goals as goal

pub returns-in_default : goal.returns-in_default
returns-in_default c = no_head c.args.place c.args.text.now c.in_default.ensures

pub returns-then-not-is_open : goal.returns-then-not-is_open
returns-then-not-is_open c = not_open c.args.place c.args.text.now _ c.in-Some.ensures (search rules)

pub returns-in_default-2 : goal.returns-in_default-2
returns-in_default-2 c = no_route c.args.place c.args.text.now _ c.in-Some.ensures (rw c.in_default-2.is at c.in_ok-route.ensures)

pub returns-then-len-eq0 : goal.returns-then-len-eq0
returns-then-len-eq0 c =
    let none : c.in-Some-2.route ≡ [] = nil_from_length c.in-Some-2.route (sym c.len.ensures ∙ c.if-len-eq0.true) in
    empty_route c.args.place c.args.text.now _ c.in-Some-2.rest.now c.in-Some.ensures (rw (← none) (rw c.in-Some-2.is at c.in_ok-route.ensures))

pub returns : goal.returns
returns c = piece_read c.args.place c.args.text.now _ c.in-Some-2.route c.in-Some-2.rest.now c.in-Some.ensures (search rules) (rw c.in-Some-2.is at c.in_ok-route.ensures) (λ none. absurd (omega (arith, ap length none)))
