-- The answers to the calls of an id are those to these calls alone.
use Rattle.std.proofs.Common.{◌≡◌, ℕ, Bool, true, false, cond, List, [], ◌∷◌, ◌++◌, Some, None, refl, sym, ap, subst, ◌∙◌, arith, length, map, nat_eq, unwrap_or}
use Rattle.std.specs.List.{filter}
use Rattle.std.specs.Map.{lookup, remove_entry}
use Rattle.std.proofs.lemmas.Bool.Decides.{nat_tests}
use Rattle.std.proofs.lemmas.List.{append-nil}
use Rattle.cost_model.specs.declared.params.Params.{Params}
use Rattle.road_network.specs.Net.{Net}
use Rattle.trace_reader.specs.declared.trace.Fix.{Fix}
use Rattle.online_commit.specs.declared.items.Item.{Item}
use Rattle.trace_match.specs.Match.{layer_of}
use Rattle.trace_sessions.specs.Calls.{CallGives, CallsGive, IdsAreAnsweredAlone, id_of}
use Rattle.trace_sessions.specs.inside.CallAnswers.{answers, pairs_after}
use Rattle.trace_sessions.specs.FollowText.{handed_at, left_of}
use Rattle.trace_sessions.specs.Sessions.{Call, RepresentsPairs, Pair, SessionsState, fixes_of, items_of_call}
use Rattle.trace_sessions.specs.Sessions.Call.{closes, feeds}
use Rattle.trace_sessions.specs.StreamText.{Point}
use Rattle.trace_sessions.proofs.StreamPoints.{Once, fixes-with, once-insert}

abbrev IsAny : ℕ → Type 0
IsAny id = Unit {0}

-- ---- pairs that are taken out

none-removed : (t u : ℕ → Bool) (es : List Pair) → lookup t es ≡ None → lookup t (remove_entry u es) ≡ None
none-removed t u [] none = refl
none-removed t u (e ∷ es) none = step (t e.0) (u e.0) refl none (none-removed t u es)
  where
    step : (a b : Bool) → t e.0 ≡ a → cond a (Some e.1) (lookup t es) ≡ None → (lookup t es ≡ None → lookup t (remove_entry u es) ≡ None) → lookup t (cond b es (e ∷ remove_entry u es)) ≡ None
    step true b is none more = absurd cc
    step false true is none more = none
    step false false is none more = ap (λ c. cond c (Some e.1) (lookup t (remove_entry u es))) is ∙ more none

once-remove : (u : ℕ → Bool) (es : List Pair) → Once IsAny es → Once IsAny (remove_entry u es)
once-remove u [] once = once
once-remove u (e ∷ es) once = step (u e.0) (once-remove u es once.2)
  where
    step : (b : Bool) → Once IsAny (remove_entry u es) → Once IsAny (cond b es (e ∷ remove_entry u es))
    step true rest = once.2
    step false rest = (tt, none-removed (nat_eq e.0) u es once.1, rest)

remove-own : (id k : ℕ) (es : List Pair) → nat_eq id k ≡ true → Once IsAny es → lookup (nat_eq id) (remove_entry (nat_eq k) es) ≡ None
remove-own id k [] same once = refl
remove-own id k (e ∷ es) same once = step (nat_eq k e.0) refl (remove-own id k es same once.2)
  where
    step : (b : Bool) → nat_eq k e.0 ≡ b → lookup (nat_eq id) (remove_entry (nat_eq k) es) ≡ None → lookup (nat_eq id) (cond b es (e ∷ remove_entry (nat_eq k) es)) ≡ None
    step true is rest =
        let e1 : id ≡ e.0 = grind (arith, nat_tests) in
        ap (λ j. lookup (nat_eq j) es) e1 ∙ once.1
    step false is rest =
        let other : nat_eq id e.0 ≡ false = grind (arith, nat_tests) in
        ap (λ c. cond c (Some e.1) (lookup (nat_eq id) (remove_entry (nat_eq k) es))) other ∙ rest

remove-other : (id k : ℕ) (es : List Pair) → nat_eq id k ≡ false → lookup (nat_eq id) (remove_entry (nat_eq k) es) ≡ lookup (nat_eq id) es
remove-other id k [] other = refl
remove-other id k (e ∷ es) other = step (nat_eq k e.0) refl (remove-other id k es other)
  where
    step : (b : Bool) → nat_eq k e.0 ≡ b → lookup (nat_eq id) (remove_entry (nat_eq k) es) ≡ lookup (nat_eq id) es
        → lookup (nat_eq id) (cond b es (e ∷ remove_entry (nat_eq k) es)) ≡ cond (nat_eq id e.0) (Some e.1) (lookup (nat_eq id) es)
    step true is rest =
        let apart : nat_eq id e.0 ≡ false = grind (arith, nat_tests) in
        sym (ap (λ c. cond c (Some e.1) (lookup (nat_eq id) es)) apart)
    step false is rest = ap (λ o. cond (nat_eq id e.0) (Some e.1) o) rest

-- ---- what a call leaves of the fixes of an id

abbrev own_after : Call → List Fix → List Fix
own_after (feeds k fix) fixes = fixes ++ fix ∷ []
own_after (closes k) fixes = []

after-own : (id : ℕ) (pairs : List Pair) (call : Call) → Once IsAny pairs → nat_eq id (id_of call) ≡ true → fixes_of (pairs_after pairs call) id ≡ own_after call (fixes_of pairs id)
after-own id pairs (feeds k fix) once same =
    fixes-with pairs id k fix ∙ ap (λ b. fixes_of pairs id ++ map (λ (y : Point). y.1) (cond b ((k, fix) ∷ []) [])) same
after-own id pairs (closes k) once same = ap (λ o. unwrap_or o []) (remove-own id k pairs same once)

after-other : (id : ℕ) (pairs : List Pair) (call : Call) → nat_eq id (id_of call) ≡ false → fixes_of (pairs_after pairs call) id ≡ fixes_of pairs id
after-other id pairs (feeds k fix) other =
    fixes-with pairs id k fix ∙ ap (λ b. fixes_of pairs id ++ map (λ (y : Point). y.1) (cond b ((k, fix) ∷ []) [])) other ∙ append-nil (fixes_of pairs id)
after-other id pairs (closes k) other = ap (λ o. unwrap_or o []) (remove-other id k pairs other)

once-after : (pairs : List Pair) (call : Call) → Once IsAny pairs → Once IsAny (pairs_after pairs call)
once-after pairs (feeds k fix) once = once-insert IsAny k (fixes_of pairs k ++ fix ∷ []) pairs tt once
once-after pairs (closes k) once = once-remove (nat_eq k) pairs once

-- the items depend on the fixes of the id
same_items : (n : Net) (p : Params) (pairs pairs' : List Pair) (call : Call) → fixes_of pairs (id_of call) ≡ fixes_of pairs' (id_of call) → items_of_call n p pairs call ≡ items_of_call n p pairs' call
same_items n p pairs pairs' (feeds k fix) same = ap (λ fixes. handed_at n p (map (layer_of n p) (fixes ++ fix ∷ [])) (length fixes)) same
same_items n p pairs pairs' (closes k) same = ap (λ fixes. left_of n p (map (layer_of n p) fixes)) same

-- ---- the law

alone : (n : Net) (p : Params) (id : ℕ) (pairs pairs' : List Pair) (calls : List Call) → Once IsAny pairs → Once IsAny pairs' → fixes_of pairs id ≡ fixes_of pairs' id
    → filter (λ (answer : ℕ × List Item). nat_eq id answer.0) (answers n p pairs calls) ≡ answers n p pairs' (filter (λ call. nat_eq id (id_of call)) calls)
alone n p id pairs pairs' [] once once' same = refl
alone n p id pairs pairs' (call ∷ calls) once once' same =
    step (nat_eq id (id_of call)) refl (λ others once2 same2. alone n p id (pairs_after pairs call) others calls (once-after pairs call once) once2 same2)
  where
    answer : ℕ × List Item
    answer = (id_of call, items_of_call n p pairs call)

    rest : List (ℕ × List Item)
    rest = answers n p (pairs_after pairs call) calls

    step : (b : Bool) → nat_eq id (id_of call) ≡ b
        → ((others : List Pair) → Once IsAny others → fixes_of (pairs_after pairs call) id ≡ fixes_of others id
        → filter (λ (answer : ℕ × List Item). nat_eq id answer.0) (answers n p (pairs_after pairs call) calls) ≡ answers n p others (filter (λ call. nat_eq id (id_of call)) calls))
        → cond b (answer ∷ filter (λ (answer : ℕ × List Item). nat_eq id answer.0) rest) (filter (λ (answer : ℕ × List Item). nat_eq id answer.0) rest)
        ≡ answers n p pairs' (cond b (call ∷ filter (λ call. nat_eq id (id_of call)) calls) (filter (λ call. nat_eq id (id_of call)) calls))
    step true is more =
        let own : id ≡ id_of call = grind (arith, nat_tests) in
        let items : items_of_call n p pairs call ≡ items_of_call n p pairs' call =
        same_items n p pairs pairs' call (ap (fixes_of pairs) (sym own) ∙ same ∙ ap (fixes_of pairs') own) in
        let after : fixes_of (pairs_after pairs call) id ≡ fixes_of (pairs_after pairs' call) id =
        after-own id pairs call once is ∙ ap (own_after call) same ∙ sym (after-own id pairs' call once' is) in
        ap (λ xs. (id_of call, xs) ∷ filter (λ (answer : ℕ × List Item). nat_eq id answer.0) rest) items
        ∙ ap (λ rows. (id_of call, items_of_call n p pairs' call) ∷ rows) (more (pairs_after pairs' call) (once-after pairs' call once') after)
    step false is more = more pairs' once' (after-other id pairs call is ∙ same)

-- what a call gives is what the definition says
record IsStep (n : Net) (p : Params) (new : SessionsState) (pairs : List Pair) (call : Call) (items : List Item) : Type 0 where
  pub are : items ≡ items_of_call n p pairs call
  pub network : new.network ≡ n
  pub params : new.params ≡ p
  pub keeps : RepresentsPairs new (pairs_after pairs call)

step-of : (n : Net) (p : Params) (s new : SessionsState) (pairs : List Pair) (call : Call) (items : List Item) → s.network ≡ n → s.params ≡ p → RepresentsPairs s pairs → CallGives s call new items
    → IsStep n p new pairs call items
step-of n p s new pairs (feeds k fix) items net par keeps gives = record {
  are = subst (λ m. items ≡ items_of_call m p pairs (feeds k fix)) net (subst (λ q. items ≡ items_of_call s.network q pairs (feeds k fix)) par (gives.are pairs keeps));
  network = gives.network ∙ net;
  params = gives.params ∙ par;
  keeps = gives.stands pairs keeps;
}
step-of n p s new pairs (closes k) items net par keeps gives = record {
  are = subst (λ m. items ≡ items_of_call m p pairs (closes k)) net (subst (λ q. items ≡ items_of_call s.network q pairs (closes k)) par (gives.are pairs keeps));
  network = gives.network ∙ net;
  params = gives.params ∙ par;
  keeps = gives.stands pairs keeps;
}

given-are : (n : Net) (p : Params) (s : SessionsState) (pairs : List Pair) (calls : List Call) (given : List (ℕ × List Item)) → s.network ≡ n → s.params ≡ p → RepresentsPairs s pairs → CallsGive s calls given
    → given ≡ answers n p pairs calls
given-are n p s pairs [] [] net par keeps h = refl
given-are n p s pairs [] (answer ∷ given) net par keeps h = absurd h
given-are n p s pairs (call ∷ calls) [] net par keeps h = absurd h
given-are n p s pairs (call ∷ calls) (answer ∷ given) net par keeps h =
    let is = step-of n p s h.0 pairs call answer.1 net par keeps h.2 in
    ap (λ k. (k, answer.1) ∷ given) h.1
    ∙ ap (λ xs. (id_of call, xs) ∷ given) is.are
    ∙ ap (λ rest. (id_of call, items_of_call n p pairs call) ∷ rest) (given-are n p h.0 (pairs_after pairs call) calls given is.network is.params is.keeps h.3)

pub ids_are_answered_alone : IdsAreAnsweredAlone
ids_are_answered_alone n p s t id calls given own s_empty t_empty s_gives t_gives =
    let all = given-are n p s [] calls given s_empty.network s_empty.params s_empty.none s_gives in
    let only = given-are n p t [] (filter (λ call. nat_eq id (id_of call)) calls) own t_empty.network t_empty.params t_empty.none t_gives in
    ap (filter (λ (answer : ℕ × List Item). nat_eq id answer.0)) all ∙ alone n p id [] [] calls tt tt refl ∙ sym only
