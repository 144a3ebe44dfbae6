-- Laws on the promises of a run.
use Rattle.std.proofs.Common.{◌≡◌, ◌≢◌, ◌⊎◌, ℕ, zero, suc, refl, sym, inl, inr, arith}
use Rattle.program_frame.specs.PromiseLaws.{OnlyReadersRefuse}
use Rattle.program_frame.specs.Promises.{IsSettled}

-- 0, 1 or 4, or a file was not read, or another status that is settled
data Status (status : ℕ) : Type 0 where
  allowed : (status ≡ 0) ⊎ (status ≡ 1) ⊎ (status ≡ 4) → Status status
  unread : status ≡ 3 → Status status
  refused : IsSettled status → status ≢ 0 → Status status

kind_of : (status : ℕ) → Status status
kind_of zero = allowed (inl refl)
kind_of (suc zero) = allowed (inr (inl refl))
kind_of (suc (suc zero)) = refused (λ e. cc, λ e. cc, λ e. cc) (λ e. cc)
kind_of (suc (suc (suc zero))) = unread refl
kind_of (suc (suc (suc (suc zero)))) = allowed (inr (inr refl))
kind_of (suc (suc (suc (suc (suc n))))) = refused (λ e. omega (arith, e), λ e. omega (arith, e), λ e. omega (arith, e)) (λ e. omega (arith, e))

pub only_readers_refuse : OnlyReadersRefuse
only_readers_refuse text shelf shelf' out out' err err' status promises = by_kind (kind_of status)
  where
    by_kind : Status status → (status ≡ 0) ⊎ (status ≡ 1) ⊎ (status ≡ 4)
    by_kind (allowed is) = is
    by_kind (unread three) = absurd (promises.unread three).risen.1
    by_kind (refused settled some) = absurd (some (sym (promises.line_is settled some).1.0))
