use Rattle.std.proofs.Common.{◌≡◌, List, [], ◌∷◌, ◌++◌, length, refl, sym, ap, ◌∙◌, subst, arith}
use Rattle.std.proofs.lemmas.List.Elements.{All-cons, All-nil}
use Rattle.cost_model.specs.declared.params.Params.{Params}
use Rattle.match_pool.specs.Learning.{AreReadersFor}
use Rattle.match_pool.specs.Working.{IsReaderFor}
use Rattle.row_store.specs.Store.{Reading, Stored}
use Rattle.match_tests.proofs.foreign_rows.two_readers.Goals as goal

-- two readers of one store
of_one : (p : Params) (store : Stored) (a b : Reading) → a.store ≡ store → b.store ≡ store → store.bound ≡ p.bound → AreReadersFor store.network p (a ∷ b ∷ [])
of_one p store a b first second bound =
    let size : length (a ∷ b ∷ []) ≡ 2 = refl in
    let fits = λ (r : Reading) (is : r.store ≡ store). (let reads : IsReaderFor store.network p r = record { network = ap (λ (s : Stored). s.network) is; bound = ap (λ (s : Stored). s.bound) is ∙ bound } in reads) in
    record {
      some = omega (arith, size);
      few = omega (arith, size);
      each = All-cons (IsReaderFor store.network p) a (b ∷ []) (fits a first) (All-cons (IsReaderFor store.network p) b [] (fits b second) (All-nil (IsReaderFor store.network p)));
      store = store;
      shared = All-cons (λ (r : Reading). r.store ≡ store) a (b ∷ []) first (All-cons (λ (r : Reading). r.store ≡ store) b [] second (All-nil (λ (r : Reading). r.store ≡ store)));
    }

pub returns : goal.returns
returns c =
    let a = c.in_ok-a.a in
    let b = c.in_ok-b.b in
    let one : c.push.new.self ≡ a ∷ [] = c.in_ok-push.ensures.ok ∙ ap (λ (l : List Reading). l ++ a ∷ []) c.new-readers.ensures in
    let both : c.push-2.new.self ≡ a ∷ b ∷ [] = c.in_ok-push-2.ensures.ok ∙ ap (λ (l : List Reading). l ++ b ∷ []) one in
    subst (AreReadersFor c.args.store.now.network _) (sym both) (of_one _ c.args.store.now a b c.in_ok-a.ensures c.in_ok-b.ensures c.requires.bound)
