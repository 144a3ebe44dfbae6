use Rattle.std.proofs.Common.{◌≡◌, ◌∙◌, Some, Result, Ok, Err, IfOk, ap, subst}
use Rattle.std.specs.Result.{result_ok}
use Rattle.row_store.specs.Store.{Reading, Stored}
use Rattle.match_tests.proofs.one_worker.are_done.Goals as goal

-- what holds of a value if there is one, where there is one
of_some : {A E : Type 0} (P : A → Type 0) (x : A) (result : Result A E) → Some x ≡ result_ok result → IfOk result P → P x
of_some P x (Ok y) is holds = let same : y ≡ x = cc in subst P same holds
of_some P x (Err e) is holds = absurd (cc)

pub worked-requires : goal.worked-requires
worked-requires c =
    let opened = of_some _ c.in_ok-store.store c.open.result c.in_ok-store.ensures.value c.open.ensures in
    let fresh = ap (λ (r : Reading). r.store) (of_some _ c.in_ok-reader.reader c.reader.result c.in_ok-reader.ensures.value c.reader.ensures) in
    (ap (λ (s : Stored). s.network) fresh ∙ opened.0.network_is, ap (λ (s : Stored). s.bound) fresh ∙ opened.0.bound_is)
