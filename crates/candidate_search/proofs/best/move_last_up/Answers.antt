use Rattle.std.proofs.Common.{◌≡◌, ◌+◌, ◌-◌, ◌∷◌, [], ap, arith, get_or, length, length-append, set, subst, sym, ⊎_elim, ◌∙◌}
use Rattle.std.specs.List.{insert}
use Rattle.std.proofs.lemmas.Bool.{cases_lt, true≢false}
use Rattle.std.proofs.lemmas.List.{get_or_default, length-set}
use Rattle.std.proofs.lemmas.List.Edits.{get_or-insert_below}
use Rattle.candidate_search.specs.inside.Best.{ComesBefore}
use Rattle.candidate_search.proofs.Inserting.{insert_last, insert_lower, others_of}
use Rattle.candidate_search.proofs.LastFound.{no_edge, place_last}
use Rattle.candidate_search.proofs.best.move_last_up.Goals as goal

pub loop-place-init : goal.loop-place-init
loop-place-init c =
    let others = others_of c.args.found.now in
    let n = ap length c.requires.last ∙ length-append others (c.args.near ∷ []) in
    let end : length c.args.found.now - 1 ≡ length others = omega (arith, n) in
    record {
      inside = omega (arith, n);
      within = omega (arith, end);
      after = λ i d from lt. absurd (omega (arith, from, lt, end));
      list = c.requires.last ∙ insert_last others c.args.near (length c.args.found.now - 1) end;
    }

pub loop-place-preserved : goal.loop-place-preserved
loop-place-preserved c =
    let s = c.loop-place in
    let near = c.args.near in
    let others = others_of c.args.found.now in
    let low = s.place - 1 in
    let up : low + 1 ≡ s.place = omega (arith, c.loop-place-test.true) in
    let x = get_or others low no_edge in
    let read : get_or s.found low no_edge ≡ x = ap (λ l. get_or l low no_edge) s.invariant.list ∙ get_or-insert_below others s.place near no_edge low (omega (arith, up)) s.invariant.within in
    let before : ComesBefore near x = subst (ComesBefore near) read (c.is_before.ensures.0 c.if-is_before.true) in
    let list : s.found ≡ insert others (low + 1) near = s.invariant.list ∙ ap (λ k. insert others k near) (sym up) in
    record {
      inside = omega (arith, s.invariant.inside, up, length-set (set s.found s.place (get_or s.found low no_edge)) low near, length-set s.found s.place (get_or s.found low no_edge));
      within = omega (arith, s.invariant.within);
      after = λ i d from lt.
          ⊎_elim
          (λ here.
          let e : low ≡ i = omega (arith, from, here, up) in
          subst (ComesBefore near) (get_or_default others low no_edge d (omega (arith, e, lt)) ∙ ap (λ k. get_or others k d) e) before)
          (λ above. s.invariant.after i d above lt)
          (cases_lt i s.place);
      list = ap (λ l. set (set l s.place (get_or s.found low no_edge)) low near) list
          ∙ ap (λ k. set (set (insert others (low + 1) near) k (get_or s.found low no_edge)) low near) (sym up)
          ∙ ap (λ v. set (set (insert others (low + 1) near) (low + 1) v) low near) read
          ∙ insert_lower others low near no_edge (omega (arith, up, s.invariant.within));
    }

pub returns-else-is_before : goal.returns-else-is_before
returns-else-is_before c =
    let s = c.loop-place in
    let near = c.args.near in
    let others = others_of c.args.found.now in
    let low = s.place - 1 in
    let some = c.loop-place-test.true in
    let read : get_or s.found low no_edge ≡ get_or others low no_edge = ap (λ l. get_or l low no_edge) s.invariant.list ∙ get_or-insert_below others s.place near no_edge low (omega (arith, some)) s.invariant.within in
    record {
      place = s.place;
      place_is = record {
        within = s.invariant.within;
        before = place_last others near s.place c.requires.apart c.requires.others some s.invariant.within
            (λ b. true≢false (sym (c.is_before.ensures.1 (subst (ComesBefore near) (sym read) b)) ∙ c.if-is_before.false));
        after = s.invariant.after;
      };
      list = s.invariant.list;
    }

pub returns-after-loop-place : goal.returns-after-loop-place
returns-after-loop-place c =
    let s = c.loop-place in
    record {
      place = s.place;
      place_is = record {
        within = s.invariant.within;
        before = λ i d lt. absurd (omega (arith, lt, c.loop-place-test.false));
        after = s.invariant.after;
      };
      list = s.invariant.list;
    }
