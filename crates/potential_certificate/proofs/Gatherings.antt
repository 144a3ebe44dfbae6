-- The text of a certificate that comes in blocks.
use Rattle.std.proofs.Common.{◌≡◌, ℕ, suc, ◌+◌, ◌-◌, ◌^◌, ◌<◌, ◌≤◌, ◌⊎◌, inl, inr, true, List, [], ◌∷◌, ◌++◌, length, Some, Result, Ok, Err, refl, sym, ap, subst, ◌∙◌, append_assoc, arith, rules, length-append}
use Rattle.std.specs.Prelude.{IfOk, OnOk, if◌then◌else◌, is_ok, min, slice_get}
use Rattle.std.specs.List.{AllByRecursion, AllZip, flat_map}
use Rattle.std.proofs.lemmas.Grind.{flat_map-append}
use Rattle.std.proofs.lemmas.List.{append-nil}
use Rattle.bounded_table.specs.Table.{TableRow}
use Rattle.cost_model.specs.declared.params.Params.{Params}
use Rattle.row_text.specs.RowLine.{row_line}
use Rattle.potential_certificate.specs.CertificateText.{certificate_text, certificate_first_line, last_line, proof_text, certificate_text_limit}
use Rattle.potential_certificate.specs.inside.Gathering.{AreLines, AreReadsOf, GoesOn, GathersMore, IsGathered, IsPartRead, IsReadOf, gathered_text, least_after, lines_text, first_rises_from}
use Rattle.potential_certificate.specs.HasText.{AreRowValuesFrom, IsProof}
use Rattle.potential_certificate.specs.Reading.{all_rows_at, certificate_of_text, proofs_at}
use Rattle.potential_certificate.specs.declared.fault.CertFault.{CertFault}
use Rattle.potential_certificate.specs.declared.gathered.Gathered.{Gathered}
use Rattle.potential_certificate.specs.declared.parts.PartRead.{PartRead}
use Rattle.potential_certificate.specs.declared.proof.Certificate.{Certificate}
use Rattle.potential_certificate.specs.declared.proof.TraceProof.{TraceProof}
use Rattle.potential_certificate.proofs.Certificates.{certificates_read_back, proofs_take, rows_few}
use Rattle.potential_certificate.proofs.RowsRead.{RowsTaken, rows_take}

-- ---- lines behind lines

proofs_joined : (ps qs : List TraceProof) → AllByRecursion IsProof ps → AllByRecursion IsProof qs → AllByRecursion IsProof (ps ++ qs)
proofs_joined [] qs first second = second
proofs_joined (p ∷ ps) qs first second = (first.0, proofs_joined ps qs first.1 second)

-- rows that rise from `least` on, where their first does so
rises : (least : ℕ) (rows : List TableRow) → AreRowValuesFrom 0 rows → first_rises_from least rows ≡ true → AreRowValuesFrom least rows
rises least [] are low = tt
rises least (row ∷ rows) are low = (are.0, search (rules, low), are.2)

rows_joined : (least : ℕ) (rs ss : List TableRow) → AreRowValuesFrom least rs → AreRowValuesFrom 0 ss → first_rises_from (least_after least rs) ss ≡ true → AreRowValuesFrom least (rs ++ ss)
rows_joined least [] ss first second low = rises least ss second low
rows_joined least (r ∷ rs) ss first second low = (first.0, first.1, rows_joined (r.origin + 1) rs ss first.2 second low)

lines_joined : (ps qs : List TraceProof) (rs ss : List TableRow) (left : List ℕ) → (rs ≡ []) ⊎ (qs ≡ []) → lines_text (ps ++ qs) (rs ++ ss) left ≡ lines_text ps rs [] ++ lines_text qs ss left
lines_joined ps qs rs ss left apart = elim apart [
  | inl none ↦ subst (λ (r : List TableRow). lines_text (ps ++ qs) (r ++ ss) left ≡ lines_text ps r [] ++ lines_text qs ss left) (sym none) proofs_on
  | inr none ↦ subst (λ (q : List TraceProof). lines_text (ps ++ q) (rs ++ ss) left ≡ lines_text ps rs [] ++ lines_text q ss left) (sym none) rows_on
]
  where
    p : List ℕ
    p = flat_map proof_text ps

    q : List ℕ
    q = flat_map proof_text qs

    r : List ℕ
    r = flat_map row_line rs

    s : List ℕ
    s = flat_map row_line ss

    proofs_on : lines_text (ps ++ qs) ss left ≡ (p ++ []) ++ (q ++ (s ++ left))
    proofs_on =
        ap (λ (t : List ℕ). t ++ (s ++ left)) (flat_map-append proof_text ps qs)
        ∙ append_assoc p q (s ++ left)
        ∙ ap (λ (t : List ℕ). t ++ (q ++ (s ++ left))) (sym (append-nil p))

    rows_on : lines_text (ps ++ []) (rs ++ ss) left ≡ (p ++ (r ++ [])) ++ (s ++ left)
    rows_on =
        ap (λ (t : List TraceProof). lines_text t (rs ++ ss) left) (append-nil ps)
        ∙ ap (λ (t : List ℕ). p ++ (t ++ left)) (flat_map-append row_line rs ss)
        ∙ ap (λ (t : List ℕ). p ++ t) (append_assoc r s left)
        ∙ sym (append_assoc p r (s ++ left))
        ∙ ap (λ (t : List ℕ). (p ++ t) ++ (s ++ left)) (sym (append-nil r))

-- behind the last row
pub behind_last : (least : ℕ) (rows : List TableRow) (row : TableRow) → Some row ≡ slice_get rows (length rows - 1) → row.origin + 1 ≡ least_after least rows
behind_last least [] row is = absurd cc
behind_last least (x ∷ []) row is =
    let same : row ≡ x = cc in
    ap (λ (r : TableRow). r.origin + 1) same
behind_last least (x ∷ y ∷ rows) row is =
    let place : length (x ∷ y ∷ rows) - 1 ≡ suc (length (y ∷ rows) - 1) = omega arith in
    behind_last (x.origin + 1) (y ∷ rows) row (is ∙ ap (slice_get (x ∷ y ∷ rows)) place)

-- ---- bytes that are appended

pub extended : {E X : Type 0} (r : Result (Unit {0}) E) (new old other : List X) → new ≡ (if is_ok r then old ++ other else old) → OnOk r (new ≡ old ++ other)
extended (Ok u) new old other e = e
extended (Err x) new old other e = tt

-- ---- a part that is added

module _ (old new : Gathered) (are : IsGathered old) where
  pub added : (read : PartRead) → IsPartRead read → GoesOn old read → new.first.items ≡ old.first.items → new.proofs.items ≡ old.proofs.items ++ read.proofs → new.rows.items ≡ old.rows.items ++ read.rows
      → new.behind.items ≡ old.behind.items ++ read.left.now → GathersMore old read.part.now new
  added read is on first proofs rows behind =
      let f = old.first.items in
      let ps = old.proofs.items in
      let rs = old.rows.items in
      let none = on.nothing in
      let left : new.behind.items ≡ read.left.now = behind ∙ ap (λ (t : List ℕ). t ++ read.left.now) none in
      let joined : gathered_text new ≡ f ++ lines_text (ps ++ read.proofs) (rs ++ read.rows) read.left.now = (λ i. first i ++ lines_text (proofs i) (rows i) (left i)) in
      record {
        text_is = joined
            ∙ ap (λ (t : List ℕ). f ++ t) (lines_joined ps read.proofs rs read.rows read.left.now on.apart)
            ∙ sym (append_assoc f (lines_text ps rs []) (lines_text read.proofs read.rows read.left.now))
            ∙ ap (λ (t : List ℕ). (f ++ lines_text ps rs t) ++ lines_text read.proofs read.rows read.left.now) (sym none)
            ∙ ap (λ (t : List ℕ). gathered_text old ++ t) (sym is.text_is);
        are = record {
          each = subst (λ (x : List TraceProof). AllByRecursion IsProof x) (sym proofs) (proofs_joined ps read.proofs are.each is.are.each);
          rising = subst (λ (x : List TableRow). AreRowValuesFrom 0 x) (sym rows) (rows_joined 0 rs read.rows are.rising is.are.rising on.rises);
        };
      }

  same_lines : new.proofs.items ≡ old.proofs.items → new.rows.items ≡ old.rows.items → IsGathered new
  same_lines proofs rows = record {
    each = subst (λ (x : List TraceProof). AllByRecursion IsProof x) (sym proofs) are.each;
    rising = subst (λ (x : List TableRow). AreRowValuesFrom 0 x) (sym rows) are.rising;
  }

  pub behind_added : (more : List ℕ) → new.first.items ≡ old.first.items → new.proofs.items ≡ old.proofs.items → new.rows.items ≡ old.rows.items → new.behind.items ≡ old.behind.items ++ more → GathersMore old more new
  behind_added more first proofs rows behind =
      let f = old.first.items in
      let p = flat_map proof_text old.proofs.items in
      let r = flat_map row_line old.rows.items in
      let b = old.behind.items in
      record {
        text_is = (λ i. first i ++ lines_text (proofs i) (rows i) (behind i))
            ∙ ap (λ (t : List ℕ). f ++ t) (ap (λ (t : List ℕ). p ++ t) (sym (append_assoc r b more)) ∙ sym (append_assoc p (r ++ b) more))
            ∙ sym (append_assoc f (p ++ (r ++ b)) more);
        are = same_lines proofs rows;
      }

  pub first_added : (more : List ℕ) → lines_text old.proofs.items old.rows.items old.behind.items ≡ [] → new.first.items ≡ old.first.items ++ more → new.proofs.items ≡ old.proofs.items → new.rows.items ≡ old.rows.items → new.behind.items ≡ old.behind.items → GathersMore old more new
  first_added more none first proofs rows behind =
      let f = old.first.items in
      record {
        text_is = (λ i. first i ++ lines_text (proofs i) (rows i) (behind i))
            ∙ ap (λ (t : List ℕ). (f ++ more) ++ t) none ∙ append-nil (f ++ more)
            ∙ ap (λ (t : List ℕ). t ++ more) (sym (append-nil f) ∙ ap (λ (t : List ℕ). f ++ t) (sym none));
        are = same_lines proofs rows;
      }

-- ---- more and more

pub grows_on : (a b c : Gathered) (x y : List ℕ) → GathersMore a x b → GathersMore b y c → GathersMore a (x ++ y) c
grows_on a b c x y first second = record {
  text_is = second.text_is ∙ ap (λ (t : List ℕ). t ++ y) first.text_is ∙ append_assoc (gathered_text a) x y;
  are = second.are;
}

pub grows_not : (a : Gathered) → IsGathered a → GathersMore a [] a
grows_not a are = record { text_is = sym (append-nil (gathered_text a)); are = are }

-- what stands behind was taken out, and added as it was read
pub settled : (old mid new : Gathered) (part : List ℕ) → mid.first.items ≡ old.first.items → mid.proofs.items ≡ old.proofs.items → mid.rows.items ≡ old.rows.items → mid.behind.items ≡ [] → part ≡ old.behind.items → GathersMore mid part new → GathersMore old [] new
settled old mid new part first proofs rows none is grows =
    let f = old.first.items in
    let p = flat_map proof_text old.proofs.items in
    let r = flat_map row_line old.rows.items in
    let b = old.behind.items in
    record {
      text_is = grows.text_is
          ∙ (λ i. (first i ++ lines_text (proofs i) (rows i) (none i)) ++ is i)
          ∙ append_assoc f (p ++ (r ++ [])) b
          ∙ ap (λ (t : List ℕ). f ++ t) (append_assoc p (r ++ []) b ∙ ap (λ (t : List ℕ). p ++ (t ++ b)) (append-nil r))
          ∙ sym (append-nil (gathered_text old));
      are = grows.are;
    }

-- whole items were added, and then the begin of one
pub lines_added : (old mid now new : Gathered) (items begun lines : List ℕ) → GathersMore old [] mid → GathersMore mid items now → lines ≡ items ++ begun → new.first.items ≡ now.first.items → new.proofs.items ≡ now.proofs.items → new.rows.items ≡ now.rows.items → new.behind.items ≡ now.behind.items ++ begun
    → GathersMore old lines new
lines_added old mid now new items begun lines first second is same_first proofs rows behind =
    subst (λ (t : List ℕ). GathersMore old t new) (sym is)
    (grows_on old mid new [] (items ++ begun) first (grows_on mid now new items begun second (behind_added now new second.are begun same_first proofs rows behind)))

-- ---- the loop over what was read

pub record Adding (old : Gathered) (items : List ℕ) (now : Gathered) (reads : List PartRead) : Type 0 where
  pub fed : List ℕ
  pub grown : GathersMore old fed now
  pub rest : fed ++ flat_map (λ (read : PartRead). read.part.now) reads ≡ items
  pub each : AllByRecursion IsPartRead reads

pub adding_begins : (old : Gathered) (items : List ℕ) (reads : List PartRead) → IsGathered old → AreReadsOf items reads → Adding old items old reads
adding_begins old items reads are is = record { fed = []; grown = grows_not old are; rest = is.text_is; each = is.each }

pub adding_on : (old : Gathered) (items : List ℕ) (now now' : Gathered) (read : PartRead) (reads : List PartRead) → Adding old items now (read ∷ reads) → GathersMore now read.part.now now' → Adding old items now' reads
adding_on old items now now' read reads so_far grows = record {
  fed = so_far.fed ++ read.part.now;
  grown = grows_on old now now' so_far.fed read.part.now so_far.grown grows;
  rest = append_assoc so_far.fed read.part.now (flat_map (λ (read : PartRead). read.part.now) reads) ∙ so_far.rest;
  each = so_far.each.1;
}

pub adding_ends : (old : Gathered) (items : List ℕ) (now : Gathered) (reads : List PartRead) → length reads ≡ 0 → Adding old items now reads → GathersMore old items now
adding_ends old items now [] none so_far = subst (λ (t : List ℕ). GathersMore old t now) (sym (append-nil so_far.fed) ∙ so_far.rest) so_far.grown
adding_ends old items now (read ∷ reads) none so_far = absurd (omega (arith, none))

-- ---- what is read of parts

pub lines_read : (part : List ℕ) (proofs : List TraceProof) (rest : List ℕ) (rows : List TableRow) (left : List ℕ) → proofs_at part (length part + 1) part ≡ Ok (proofs, rest) → all_rows_at rest ≡ (rows, left)
    → (part ≡ lines_text proofs rows left) × AreLines proofs rows
lines_read part proofs rest rows left proofs_are rows_are =
    let first = proofs_take part (length part + 1) part proofs rest proofs_are in
    let second = subst (λ (r : List TableRow × List ℕ). RowsTaken 0 rest r.0 r.1) rows_are (rows_take (length rest + 1) 0 rest) in
    (first.text_is ∙ ap (λ (t : List ℕ). flat_map proof_text proofs ++ t) second.text_is, record { each = first.are; rising = second.are })

pub reads_of : {X : Type 0} (text : X → List ℕ) (parts : List X) (whole : List ℕ) (reads : List PartRead) → flat_map text parts ≡ whole → AllZip (λ part read. IsReadOf (text part) read) parts reads → AreReadsOf whole reads
reads_of {X = X} text parts whole reads are each = record { text_is = texts parts reads each ∙ are; each = all parts reads each }
  where
    texts : (parts : List X) (reads : List PartRead) → AllZip (λ part read. IsReadOf (text part) read) parts reads → flat_map (λ (read : PartRead). read.part.now) reads ≡ flat_map text parts
    texts [] [] each = refl
    texts [] (read ∷ reads) each = absurd each
    texts (part ∷ parts) [] each = absurd each
    texts (part ∷ parts) (read ∷ reads) each = (λ i. each.0.0 i ++ texts parts reads each.1 i)

    all : (parts : List X) (reads : List PartRead) → AllZip (λ part read. IsReadOf (text part) read) parts reads → AllByRecursion IsPartRead reads
    all [] [] each = tt
    all [] (read ∷ reads) each = absurd each
    all (part ∷ parts) [] each = absurd each
    all (part ∷ parts) (read ∷ reads) each = (each.0.1, all parts reads each.1)

-- what is read of each part
module _ {X : Type 0} (text : X → List ℕ) where
  abbrev pub AllRead : List X → List PartRead → Type 0
  AllRead parts reads = AllZip (λ part read. IsReadOf (text part) read) parts reads

  -- the parts of a whole text
  pub reads_all : (V E : Type 0) (items : V → List PartRead) (parts same : List X) (whole : List ℕ) (found : Result V E) → same ≡ parts → flat_map text parts ≡ whole → IfOk found (λ v. AllRead same (items v)) → IfOk found (λ v. AreReadsOf whole (items v))
  reads_all V E items parts same whole (Ok v) is are each = reads_of text parts whole (items v) are (subst (λ (ps : List X). AllRead ps (items v)) is each)
  reads_all V E items parts same whole (Err e) is are each = tt

-- ---- the end

-- the first and the last line are those of a certificate
pub closed : (p : Params) (g : Gathered) → g.first.items ≡ certificate_first_line p → g.behind.items ≡ last_line (length g.proofs.items) (length g.rows.items)
    → gathered_text g ≡ certificate_text p (record { proofs = g.proofs.items; rows = g.rows.items })
closed p g first last = λ i. first i ++ lines_text g.proofs.items g.rows.items (last i)

-- a text that is closed within the limit is read as this certificate
pub closed_read : (p : Params) (g : Gathered) → IsGathered g → gathered_text g ≡ certificate_text p (record { proofs = g.proofs.items; rows = g.rows.items }) → length (gathered_text g) ≤ certificate_text_limit
    → certificate_of_text p (gathered_text g) ≡ Ok (record { proofs = g.proofs.items; rows = g.rows.items })
closed_read p g are is short =
    let ps = g.proofs.items in
    let rs = g.rows.items in
    let within = subst (λ (t : List ℕ). length t ≤ certificate_text_limit) is short in
    let few : length rs < 2 ^ 32 =
    omega (
      arith,
      within,
      rows_few rs,
      length-append (certificate_first_line p) (flat_map proof_text ps ++ (flat_map row_line rs ++ last_line (length ps) (length rs))),
      length-append (flat_map proof_text ps) (flat_map row_line rs ++ last_line (length ps) (length rs)),
      length-append (flat_map row_line rs) (last_line (length ps) (length rs)),
    ) in
    ap (certificate_of_text p) is ∙ certificates_read_back p (record { proofs = ps; rows = rs }) (record { proofs = are.each; rows = are.rising; few = few }) within

-- the text so far is read as this certificate, where it is closed and within the limit
pub finished : (p : Params) (text : List ℕ) (old g : Gathered) (count : ℕ) (c : Certificate) → c ≡ record { proofs = g.proofs.items; rows = g.rows.items } → text ≡ gathered_text old → count ≡ min (length (gathered_text old)) (2 ^ 64 - 1) → count ≤ certificate_text_limit
    → GathersMore old [] g → gathered_text g ≡ certificate_text p (record { proofs = g.proofs.items; rows = g.rows.items }) → certificate_of_text p text ≡ Ok c
finished p text old g count c c_is is counted few grows closes =
    let same : gathered_text g ≡ text = grows.text_is ∙ append-nil (gathered_text old) ∙ sym is in
    let long : length (gathered_text g) ≡ length (gathered_text old) = ap (λ (t : List ℕ). length t) (grows.text_is ∙ append-nil (gathered_text old)) in
    let short : length (gathered_text g) ≤ certificate_text_limit = omega (arith, counted, few, long) in
    ap (certificate_of_text p) (sym same) ∙ closed_read p g grows.are closes short
    ∙ ap (λ (x : Certificate). let y : Result Certificate CertFault = Ok x in y) (sym c_is)
