-- The text of a certificate that is written part by part.
use Rattle.std.proofs.Common.{◌≡◌, ℕ, ◌+◌, ◌<◌, ◌≤◌, List, ◌++◌, length, Result, Ok, Err, ap, ◌∙◌, append_assoc, arith, length-append}
use Rattle.std.specs.Prelude.{OnOk}

regroup : (old first proofs rows last : List ℕ) → (((old ++ first) ++ proofs) ++ rows) ++ last ≡ old ++ (first ++ (proofs ++ (rows ++ last)))
regroup old first proofs rows last = simp append_assoc

-- the proofs and the rows that were written are `ps` and `rs`
module _ (old first proofs rows last ps rs a b : List ℕ) (same : ps ≡ proofs) (begun : a ≡ old ++ first) where
  pub long_proofs : (most : ℕ) → most < length (a ++ ps) → most < length (old ++ (first ++ (proofs ++ (rows ++ last))))
  long_proofs most long =
      omega (
        arith,
        long,
        ap length same,
        ap length begun,
        length-append a ps,
        length-append old first,
        length-append old (first ++ (proofs ++ (rows ++ last))),
        length-append first (proofs ++ (rows ++ last)),
        length-append proofs (rows ++ last),
      )

  module _ (same_rows : rs ≡ rows) (more : b ≡ a ++ ps) where
    pub long_rows : (most : ℕ) → most < length (b ++ rs) → most < length (old ++ (first ++ (proofs ++ (rows ++ last))))
    long_rows most long =
        omega (
          arith,
          long,
          ap length same,
          ap length same_rows,
          ap length begun,
          ap length more,
          length-append b rs,
          length-append a ps,
          length-append old first,
          length-append old (first ++ (proofs ++ (rows ++ last))),
          length-append first (proofs ++ (rows ++ last)),
          length-append proofs (rows ++ last),
          length-append rows last,
        )

    pub all_written : (c new : List ℕ) → c ≡ b ++ rs → new ≡ c ++ last → new ≡ old ++ (first ++ (proofs ++ (rows ++ last)))
    all_written c new third fourth = fourth ∙ (λ i. third i ++ last) ∙ (λ i. (more i ++ same_rows i) ++ last) ∙ (λ i. ((begun i ++ same i) ++ rows) ++ last) ∙ regroup old first proofs rows last

-- ---- the text alone

module _ (old text : List ℕ) (start most : ℕ) (begin : start ≡ length old) where
  pub long_alone : start + most < length (old ++ text) → most < length text
  long_alone long = omega (arith, long, begin, length-append old text)

  pub short_alone : {E : Type 0} (r : Result (Unit {0}) E) (new : List ℕ) → OnOk r (new ≡ old ++ text) → OnOk r (length new ≤ start + most) → OnOk r (length text ≤ most)
  short_alone (Ok u) new is short = omega (arith, short, begin, ap length is, length-append old text)
  short_alone (Err e) new is short = tt
