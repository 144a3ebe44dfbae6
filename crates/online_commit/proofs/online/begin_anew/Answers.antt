use Rattle.std.proofs.Common.{◌≡◌, ◌∙◌, sym, subst, arith}
use Rattle.online_commit.specs.inside.Pieces.{IsBegun, alone, shown_piece, session_of, session_with}
use Rattle.online_commit.specs.Session.{FeedsLayer, fed_position_count}
use Rattle.online_commit.specs.inside.Steps.{TakesAnew, seen_session}
use Rattle.online_commit.proofs.AnewSession.{anew-session}
use Rattle.online_commit.proofs.Anew.{IsLeft, anew-fed}
use Rattle.online_commit.proofs.Extended.{begins-anew}
use Rattle.online_commit.proofs.Extending.{kept-count}
use Rattle.online_commit.proofs.NextCells.{kept-some}
use Rattle.online_commit.proofs.online.begin_anew.Goals as goal

pub returns-clause-taken : goal.returns-clause-taken
returns-clause-taken g c =
    let s = session_of c.args.net.now c.args.p.now c.args.piece.now in
    let is = c.requires.before.session in
    let anew = begins-anew s c.args.layer c.invariants.ensures c.requires.before in
    let first = is.kept.first in
    let all = kept-count s is in
    let end : c.end_of.result ≡ fed_position_count (seen_session s) = c.end_of.ensures ∙ omega (arith, first, all) in
    let begun : IsBegun s.params (fed_position_count (seen_session s)) c.args.layer (shown_piece c.in_ok-begun.begun) c.in_ok-begun.more =
    subst (λ k. IsBegun s.params k c.args.layer (shown_piece c.in_ok-begun.begun) c.in_ok-begun.more) end c.in_ok-begun.ensures in
    let left : IsLeft s c.in_ok-items.items = record {
      none = λ none. c.in_ok-items.ensures.none (omega (arith, none, all));
      some = λ some. c.in_ok-items.ensures.some (kept-some s is some);
    } in
    subst (λ w. TakesAnew s c.args.layer (session_with c.args.net.now c.args.p.now w) c.append_items.new.items) (sym c.piece_alone.ensures)
    (record {
      session = anew-session s c.args.layer (shown_piece c.in_ok-begun.begun) c.in_ok-begun.more anew begun;
      fed = subst (λ ys. FeedsLayer (seen_session s) c.args.layer (seen_session (session_with c.args.net.now c.args.p.now (alone (shown_piece c.in_ok-begun.begun)))) ys) (sym c.in_ok-append_items.ensures)
          (anew-fed s c.args.layer (shown_piece c.in_ok-begun.begun) c.in_ok-items.items c.in_ok-begun.more anew left begun);
    })
