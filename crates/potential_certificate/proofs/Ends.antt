-- The end of a certificate that is read.
use Rattle.std.proofs.Common.{◌≡◌, ℕ, ◌<◌, List, [], ◌∷◌, length, Option, Some, None, Result, Ok, Err, sym, ap, ◌∙◌, arith}
use Rattle.match_text.specs.Reading.{after_bytes}
use Rattle.potential_certificate.specs.Reading.{ended, certificate_fault_at, line_number}
use Rattle.potential_certificate.specs.declared.fault.CertFault.{CertFault}
use Rattle.potential_certificate.specs.declared.fault.CertFault.TheVariants.{BadLine}
use Rattle.potential_certificate.specs.declared.proof.Certificate.{Certificate}

-- `last` is the last line that was looked for
module _ (whole left line last : List ℕ) (is : last ≡ line) (c : Certificate) where
  by_end : (end : Option (List ℕ)) → end ≡ after_bytes last left → ended whole c left (after_bytes line left) ≡ ended whole c left end
  by_end end found = sym (ap (ended whole c left) (found ∙ ap (λ (l : List ℕ). after_bytes l left) is))

  pub lacks_end : (fault : CertFault) → None ≡ after_bytes last left → fault ≡ certificate_fault_at whole left → ended whole c left (after_bytes line left) ≡ Err fault
  lacks_end fault none fault_is = by_end None none ∙ sym (λ i. let y : Result Certificate CertFault = Err (fault_is i) in y)

  pub ends : (behind : List ℕ) → Some behind ≡ after_bytes last left → length behind ≡ 0 → ended whole c left (after_bytes line left) ≡ Ok c
  ends [] found none = by_end (Some []) found
  ends (b ∷ bs) found none = absurd (omega (arith, none))

  pub goes_past : (behind : List ℕ) (n : ℕ) → Some behind ≡ after_bytes last left → 0 < length behind → n ≡ line_number whole behind → ended whole c left (after_bytes line left) ≡ Err (BadLine n)
  goes_past [] n found some n_is = absurd (omega (arith, some))
  goes_past (b ∷ bs) n found some n_is = by_end (Some (b ∷ bs)) found ∙ sym (λ i. let y : Result Certificate CertFault = Err (BadLine (n_is i)) in y)
