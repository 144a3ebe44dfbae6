use Rattle.std.proofs.Common.{◌≡◌, ◌+◌, ◌-◌, ◌==◌, true, false, ap, subst, sym, ◌∙◌, ⊎_elim, arith}
use Rattle.std.specs.Option.{option_eq}
use Rattle.std.proofs.lemmas.Bool.{cases_lt, not-false, not-true}
use Rattle.cert_checker.specs.inside.CaseSeen.{case_seen}
use Rattle.cert_checker.specs.Case.{rank, table}
use Rattle.cert_checker.specs.Cells.{pointer_of}
use Rattle.cert_checker.specs.Verdicts.{each_below}
use Rattle.cert_checker.proofs.EachBelow.{one_fails, one_more}
use Rattle.cert_checker.proofs.PointersBack.{is_pointed_in, is_pointed_to, pointed_at}
use Rattle.cert_checker.proofs.chosen.follows_pointers.Goals as goal

pub returns-then-ne : goal.returns-then-ne
returns-then-ne c =
    let k = case_seen c.args.case.now in
    let q = c.args.piece.now in
    let i = c.loop-i.i in
    let differs = not-true (option_eq (λ a b. a == b) c.rank.result c.pointer.result) (sym c.ne.ensures ∙ c.if-ne.true) in
    let here : is_pointed_to k i ≡ false = ap (λ x. option_eq (λ a b. a == b) x (pointer_of (table k (i + 1)) (rank k (i + 1)))) (sym c.rank.ensures) ∙ ap (option_eq (λ a b. a == b) c.rank.result) (sym c.pointer.ensures) ∙ differs in
    sym (one_fails (is_pointed_in k q) (q.last - q.first) (i - q.first) (omega arith) (pointed_at k q i (omega arith) ∙ here))

pub loop-i-preserved : goal.loop-i-preserved
loop-i-preserved c =
    let k = case_seen c.args.case.now in
    let q = c.args.piece.now in
    let i = c.loop-i.i in
    let same = not-false (option_eq (λ a b. a == b) c.rank.result c.pointer.result) (sym c.ne.ensures ∙ c.if-ne.false) in
    let here : is_pointed_to k i ≡ true = ap (λ x. option_eq (λ a b. a == b) x (pointer_of (table k (i + 1)) (rank k (i + 1)))) (sym c.rank.ensures) ∙ ap (option_eq (λ a b. a == b) c.rank.result) (sym c.pointer.ensures) ∙ same in
    let e : i - q.first + 1 ≡ i + 1 - q.first = omega arith in
    subst (λ n. each_below n (is_pointed_in k q) ≡ true) e
    (one_more (is_pointed_in k q) (i - q.first) c.loop-i.invariant (pointed_at k q i (omega arith) ∙ here))

pub returns : goal.returns
returns c =
    let k = case_seen c.args.case.now in
    let q = c.args.piece.now in
    let all : each_below (q.last - q.first) (is_pointed_in k q) ≡ true = ⊎_elim
    (λ lt. let none : q.last - q.first ≡ 0 = omega (arith, lt) in ap (λ n. each_below n (is_pointed_in k q)) none)
    (λ le. let end = c.loop-i.auto.i-end le in
    let e : c.loop-i.i - q.first ≡ q.last - q.first = omega (arith, end) in
    ap (λ n. each_below n (is_pointed_in k q)) (sym e) ∙ c.loop-i.invariant)
    (cases_lt q.last q.first) in
    sym all
