use Rattle.std.proofs.Common.{◌≡◌, ◌+◌, ◌-◌, ◌<◌, ◌++◌, ◌∷◌, [], get_or, length, refl, ap, sym, ◌∙◌, subst, arith, unwrap_or}
use Rattle.bounded_table.specs.Rows.{AsksOnly}
use Rattle.route_rebuild.specs.Chosen.{IsCandidateRun}
use Rattle.route_rebuild.specs.Numbers.{numbers}
use Rattle.route_rebuild.specs.Routes.{IsRouteOver, IsWalkStartOver}
use Rattle.online_commit.specs.declared.items.Item.TheVariants.{Closed}
use Rattle.online_commit.specs.inside.Pieces.{session_of}
use Rattle.online_commit.specs.inside.Steps.{AreAllChosen, rank_in, ranked_items}
use Rattle.online_commit.proofs.ClosedRun.{IsKeptRead, closing-made, end-asks, end-read, kept-ranked, run-made}
use Rattle.online_commit.proofs.closing.closing_items.Goals as goal

pub labelled-requires-clause-ranks : goal.labelled-requires-clause-ranks
labelled-requires-clause-ranks g c =
    let s = session_of c.args.net.now c.args.p.now c.args.piece.now in
    let last = c.least_cell-last.result in
    let cost = unwrap_or (last.cost) 0 in
    let kept = c.in_ok-ranks.ranks in
    let some : 0 < length c.args.piece.now.tail.layers.items = let no = c.if-len-eq0.false in let all = c.len.ensures ∙ c.args.piece.now.tail.layers.ok.0 in omega (arith, no, all) in
    let len : c.len-end.result ≡ length c.args.piece.now.tail.layers.items = c.len-end.ensures ∙ c.args.piece.now.tail.layers.ok.0 in
    let read : IsKeptRead s last cost kept =
    end-read s c.as_slice-tables.result.now c.index-tables-end.result c.as_slice.result.now last cost kept c.invariants.ensures c.requires.session some c.as_slice-tables.ensures.value
    (c.index-tables-end.is ∙ ap (λ k. get_or c.as_slice-tables.result.now (k - 1) c.index-tables-end.result) len) c.as_slice.ensures c.least_cell-last.ensures refl c.in_ok-ranks.ensures in
    ap length c.as_slice-ranks.ensures ∙ kept-ranked s last cost kept read ∙ sym (ap length c.deref.ensures.value)

pub chosen-requires : goal.chosen-requires
chosen-requires g c =
    let s = session_of c.args.net.now c.args.p.now c.args.piece.now in
    let last = c.least_cell-last.result in
    let cost = unwrap_or (last.cost) 0 in
    let kept = c.in_ok-ranks.ranks in
    let some : 0 < length c.args.piece.now.tail.layers.items = let no = c.if-len-eq0.false in let all = c.len.ensures ∙ c.args.piece.now.tail.layers.ok.0 in omega (arith, no, all) in
    let len : c.len-end.result ≡ length c.args.piece.now.tail.layers.items = c.len-end.ensures ∙ c.args.piece.now.tail.layers.ok.0 in
    let read : IsKeptRead s last cost kept =
    end-read s c.as_slice-tables.result.now c.index-tables-end.result c.as_slice.result.now last cost kept c.invariants.ensures c.requires.session some c.as_slice-tables.ensures.value
    (c.index-tables-end.is ∙ ap (λ k. get_or c.as_slice-tables.result.now (k - 1) c.index-tables-end.result) len) c.as_slice.ensures c.least_cell-last.ensures refl c.in_ok-ranks.ensures in
    ap length c.as_slice-ranks.ensures ∙ kept-ranked s last cost kept read ∙ sym (ap length c.deref-3.ensures.value)

pub route_over-requires-clause-run : goal.route_over-requires-clause-run
route_over-requires-clause-run g c =
    let s = session_of c.args.net.now c.args.p.now c.args.piece.now in
    let last = c.least_cell-last.result in
    let cost = unwrap_or (last.cost) 0 in
    let kept = c.in_ok-ranks.ranks in
    let some : 0 < length c.args.piece.now.tail.layers.items = let no = c.if-len-eq0.false in let all = c.len.ensures ∙ c.args.piece.now.tail.layers.ok.0 in omega (arith, no, all) in
    let len : c.len-end.result ≡ length c.args.piece.now.tail.layers.items = c.len-end.ensures ∙ c.args.piece.now.tail.layers.ok.0 in
    let read : IsKeptRead s last cost kept =
    end-read s c.as_slice-tables.result.now c.index-tables-end.result c.as_slice.result.now last cost kept c.invariants.ensures c.requires.session some c.as_slice-tables.ensures.value
    (c.index-tables-end.is ∙ ap (λ k. get_or c.as_slice-tables.result.now (k - 1) c.index-tables-end.result) len) c.as_slice.ensures c.least_cell-last.ensures refl c.in_ok-ranks.ensures in
    let chosen = c.in_ok-chosen.chosen.items in
    let all : AreAllChosen s.settled s.kept_layers kept (length s.kept_layers) chosen = rw (c.deref-2.ensures.value, c.deref-3.ensures.value, c.as_slice-ranks.ensures) at c.in_ok-chosen.ensures in
    subst (IsCandidateRun s.network s.params) (sym c.deref-4.ensures.value) (run-made s last cost kept chosen read all)

pub returns-in_err-route-clause-asks : goal.returns-in_err-route-clause-asks
returns-in_err-route-clause-asks g c =
    let s = session_of c.args.net.now c.args.p.now c.args.piece.now in
    let last = c.least_cell-last.result in
    let cost = unwrap_or (last.cost) 0 in
    let kept = c.in_ok-ranks.ranks in
    let some : 0 < length c.args.piece.now.tail.layers.items = let no = c.if-len-eq0.false in let all = c.len.ensures ∙ c.args.piece.now.tail.layers.ok.0 in omega (arith, no, all) in
    let len : c.len-end.result ≡ length c.args.piece.now.tail.layers.items = c.len-end.ensures ∙ c.args.piece.now.tail.layers.ok.0 in
    let read : IsKeptRead s last cost kept =
    end-read s c.as_slice-tables.result.now c.index-tables-end.result c.as_slice.result.now last cost kept c.invariants.ensures c.requires.session some c.as_slice-tables.ensures.value
    (c.index-tables-end.is ∙ ap (λ k. get_or c.as_slice-tables.result.now (k - 1) c.index-tables-end.result) len) c.as_slice.ensures c.least_cell-last.ensures refl c.in_ok-ranks.ensures in
    let chosen = c.in_ok-chosen.chosen.items in
    let all : AreAllChosen s.settled s.kept_layers kept (length s.kept_layers) chosen = rw (c.deref-2.ensures.value, c.deref-3.ensures.value, c.as_slice-ranks.ensures) at c.in_ok-chosen.ensures in
    end-asks s last cost kept chosen read all
    (subst (λ xs. AsksOnly (g.R.Rows.state c.args.rows.now) (g.R.Rows.state c.route_over.new.rows) (IsWalkStartOver s.network s.params xs)) c.deref-4.ensures.value c.route_over.ensures.asks.only)

pub returns-in_err-push-clause-asks : goal.returns-in_err-push-clause-asks
returns-in_err-push-clause-asks g c =
    let s = session_of c.args.net.now c.args.p.now c.args.piece.now in
    let last = c.least_cell-last.result in
    let cost = unwrap_or (last.cost) 0 in
    let kept = c.in_ok-ranks.ranks in
    let some : 0 < length c.args.piece.now.tail.layers.items = let no = c.if-len-eq0.false in let all = c.len.ensures ∙ c.args.piece.now.tail.layers.ok.0 in omega (arith, no, all) in
    let len : c.len-end.result ≡ length c.args.piece.now.tail.layers.items = c.len-end.ensures ∙ c.args.piece.now.tail.layers.ok.0 in
    let read : IsKeptRead s last cost kept =
    end-read s c.as_slice-tables.result.now c.index-tables-end.result c.as_slice.result.now last cost kept c.invariants.ensures c.requires.session some c.as_slice-tables.ensures.value
    (c.index-tables-end.is ∙ ap (λ k. get_or c.as_slice-tables.result.now (k - 1) c.index-tables-end.result) len) c.as_slice.ensures c.least_cell-last.ensures refl c.in_ok-ranks.ensures in
    let chosen = c.in_ok-chosen.chosen.items in
    let all : AreAllChosen s.settled s.kept_layers kept (length s.kept_layers) chosen = rw (c.deref-2.ensures.value, c.deref-3.ensures.value, c.as_slice-ranks.ensures) at c.in_ok-chosen.ensures in
    end-asks s last cost kept chosen read all
    (subst (λ xs. AsksOnly (g.R.Rows.state c.args.rows.now) (g.R.Rows.state c.route_over.new.rows) (IsWalkStartOver s.network s.params xs)) c.deref-4.ensures.value c.route_over.ensures.asks.only)

pub returns-clause-asks : goal.returns-clause-asks
returns-clause-asks g c =
    let s = session_of c.args.net.now c.args.p.now c.args.piece.now in
    let last = c.least_cell-last.result in
    let cost = unwrap_or (last.cost) 0 in
    let kept = c.in_ok-ranks.ranks in
    let some : 0 < length c.args.piece.now.tail.layers.items = let no = c.if-len-eq0.false in let all = c.len.ensures ∙ c.args.piece.now.tail.layers.ok.0 in omega (arith, no, all) in
    let len : c.len-end.result ≡ length c.args.piece.now.tail.layers.items = c.len-end.ensures ∙ c.args.piece.now.tail.layers.ok.0 in
    let read : IsKeptRead s last cost kept =
    end-read s c.as_slice-tables.result.now c.index-tables-end.result c.as_slice.result.now last cost kept c.invariants.ensures c.requires.session some c.as_slice-tables.ensures.value
    (c.index-tables-end.is ∙ ap (λ k. get_or c.as_slice-tables.result.now (k - 1) c.index-tables-end.result) len) c.as_slice.ensures c.least_cell-last.ensures refl c.in_ok-ranks.ensures in
    let chosen = c.in_ok-chosen.chosen.items in
    let all : AreAllChosen s.settled s.kept_layers kept (length s.kept_layers) chosen = rw (c.deref-2.ensures.value, c.deref-3.ensures.value, c.as_slice-ranks.ensures) at c.in_ok-chosen.ensures in
    end-asks s last cost kept chosen read all
    (subst (λ xs. AsksOnly (g.R.Rows.state c.args.rows.now) (g.R.Rows.state c.route_over.new.rows) (IsWalkStartOver s.network s.params xs)) c.deref-4.ensures.value c.route_over.ensures.asks.only)

pub returns-clause-some : goal.returns-clause-some
returns-clause-some g c = λ _.
    let s = session_of c.args.net.now c.args.p.now c.args.piece.now in
    let last = c.least_cell-last.result in
    let cost = unwrap_or (last.cost) 0 in
    let kept = c.in_ok-ranks.ranks in
    let some : 0 < length c.args.piece.now.tail.layers.items = let no = c.if-len-eq0.false in let all = c.len.ensures ∙ c.args.piece.now.tail.layers.ok.0 in omega (arith, no, all) in
    let len : c.len-end.result ≡ length c.args.piece.now.tail.layers.items = c.len-end.ensures ∙ c.args.piece.now.tail.layers.ok.0 in
    let read : IsKeptRead s last cost kept =
    end-read s c.as_slice-tables.result.now c.index-tables-end.result c.as_slice.result.now last cost kept c.invariants.ensures c.requires.session some c.as_slice-tables.ensures.value
    (c.index-tables-end.is ∙ ap (λ k. get_or c.as_slice-tables.result.now (k - 1) c.index-tables-end.result) len) c.as_slice.ensures c.least_cell-last.ensures refl c.in_ok-ranks.ensures in
    let chosen = c.in_ok-chosen.chosen.items in
    let all : AreAllChosen s.settled s.kept_layers kept (length s.kept_layers) chosen = rw (c.deref-2.ensures.value, c.deref-3.ensures.value, c.as_slice-ranks.ensures) at c.in_ok-chosen.ensures in
    let labels = c.in_ok-items.items in
    let route = c.in_ok-route.route in
    let labels-are : labels ≡ ranked_items s.kept_first s.kept_layers (rank_in kept) s.kept_told (length s.kept_layers - s.kept_told) = rw (c.deref.ensures.value, c.as_slice-ranks.ensures) at c.in_ok-items.ensures in
    let route-is : IsRouteOver s.network s.params chosen (numbers route) = subst (λ xs. IsRouteOver s.network s.params xs (numbers route)) c.deref-4.ensures.value c.in_ok-route.ensures.route in
    let items-are : c.push.new.self ≡ labels ++ Closed (record { first = s.first; last = s.kept_first + (length s.kept_layers - 1); cost = cost }) route ∷ [] =
    c.in_ok-push.ensures.ok ∙ ap (λ k. labels ++ Closed (record { first = s.first; last = s.kept_first + (k - 1); cost = c.unwrap_or.result }) route ∷ []) len
    ∙ ap (λ k. labels ++ Closed (record { first = s.first; last = s.kept_first + (length s.kept_layers - 1); cost = k }) route ∷ []) c.unwrap_or.ensures in
    closing-made s last cost kept chosen labels c.push.new.self route read all labels-are route-is items-are
