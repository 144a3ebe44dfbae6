-- What was read of the trace line and of the lines after it, said of the whole text.
use Rattle.std.proofs.Common.{◌≡◌, ℕ, suc, ◌+◌, ◌-◌, ◌^◌, ◌<◌, List, [], ◌++◌, length, take, Some, None, Result, Ok, Err, refl, sym, ap, subst, ◌∙◌, append_assoc, arith}
use Rattle.std.specs.List.{concat}
use Rattle.std.proofs.lemmas.Option.{none-some, some_pair_parts}
use Rattle.match_text.specs.declared.fault.TextFault.{TextFault}
use Rattle.match_text.specs.declared.fault.TextFault.TheVariants.{BadLine, Memory}
use Rattle.match_text.specs.declared.matched.Label.{Label}
use Rattle.match_text.specs.declared.matched.Routed.{Routed}
use Rattle.match_text.specs.declared.matched.MatchedTrace.{MatchedTrace}
use Rattle.match_text.specs.declared.place.Line.{Line}
use Rattle.match_text.specs.MatchText.{trace_line, lines_of, text_of, IsLawful, Fits, BeginsWithLines, IsFirstBadLine}
use Rattle.match_text.specs.Reading.{trace_at}
use Rattle.match_text.specs.Grammar.{start, Continues, texts_from, BeginsFrom, IsWhole, IsOnly, FailsAfter, ReadsLines}
use Rattle.match_text.proofs.Lines.{trace_takes, trace_again}
use Rattle.match_text.proofs.Laid.{trace_of, traced}
use Rattle.match_text.proofs.Lawful.{has_text}

-- ---- the trace line

-- a text that begins with the trace line of a trace
reads_trace : (m : MatchedTrace) (text : List ℕ) (n : ℕ) (rest : List ℕ) → IsLawful m → Fits m → text ≡ concat (take (suc n) (lines_of m)) ++ rest → (after : List ℕ) × (trace_at text ≡ Some (m.id, after))
reads_trace m text n rest lawful fits eq =
    let has = has_text m lawful fits in
    let after = concat (take n (texts_from (start m.id) has.lines)) ++ rest in
    (after, ap trace_at (eq ∙ ap (λ (ts : List (List ℕ)). concat (take (suc n) ts) ++ rest) has.texts ∙ append_assoc (trace_line m.id) _ rest) ∙ trace_again m.id after fits.id)

-- the texts of a lawful matched trace, from the trace line on
text_is : (m : MatchedTrace) → IsLawful m → Fits m → (lines : List Line) × Continues (start m.id) lines × (trace_of m.id lines ≡ m) × (text_of m ≡ trace_line m.id ++ concat (texts_from (start m.id) lines))
text_is m lawful fits =
    let has = has_text m lawful fits in
    (has.lines, has.continues, has.is, ap concat has.texts)

-- no line at all
no_lines : (text : List ℕ) → BeginsWithLines 0 text
no_lines text =
    let is = traced 0 [] (omega arith) refl in
    record { trace = trace_of 0 []; lawful = is.lawful; fits = is.fits; enough = omega arith; rest = text; begins = refl }

pub no_trace_line_only : (text : List ℕ) (m : MatchedTrace) → None ≡ trace_at text → IsLawful m → Fits m → text ≡ text_of m → ⊥
no_trace_line_only text m none lawful fits eq =
    let is = text_is m lawful fits in
    none-some (m.id, concat (texts_from (start m.id) is.0)) (none ∙ ap trace_at (eq ∙ is.3) ∙ trace_again m.id (concat (texts_from (start m.id) is.0)) fits.id)

pub no_trace_line : (text : List ℕ) → None ≡ trace_at text → IsFirstBadLine 1 text
no_trace_line text none = record {
  positive = omega arith;
  before = no_lines text;
  bad = λ b. let reads = reads_trace b.trace text 0 b.rest b.lawful b.fits b.begins in none-some (b.trace.id, reads.0) (none ∙ reads.1);
  not_whole = λ m lawful fits eq. no_trace_line_only text m none lawful fits eq;
}

-- ---- the lines after the trace line

-- the text is the trace line of id and the rest
record Splits (text : List ℕ) (id : ℕ) (rest : List ℕ) : Type 0 where
  parts : text ≡ trace_line id ++ rest
  small : id < 2 ^ 32

splits : (text : List ℕ) (id : ℕ) (rest : List ℕ) → Some (id, rest) ≡ trace_at text → Splits text id rest
splits text id rest e = let takes = trace_takes text id rest (sym e) in record { parts = takes.0; small = takes.1 }

-- another trace line at its front has the same id and the same rest
same_trace : (text : List ℕ) (id : ℕ) (rest : List ℕ) (other : ℕ) (after : List ℕ) → Splits text id rest → other < 2 ^ 32 → text ≡ trace_line other ++ after → (other ≡ id) × (after ≡ rest)
same_trace text id rest other after s small eq =
    some_pair_parts other id after rest (sym (trace_again other after small) ∙ ap trace_at (sym eq ∙ s.parts) ∙ trace_again id rest s.small)

-- a lawful matched trace with this text
whole_rest : (text : List ℕ) (id : ℕ) (rest : List ℕ) (m : MatchedTrace) → Splits text id rest → IsLawful m → Fits m → text ≡ text_of m → (lines : List Line) × IsWhole (start id) lines rest × (trace_of id lines ≡ m)
whole_rest text id rest m s lawful fits eq =
    let is = text_is m lawful fits in
    let same = same_trace text id rest m.id (concat (texts_from (start m.id) is.0)) s fits.id (eq ∙ is.3) in
    let whole : IsWhole (start m.id) is.0 (concat (texts_from (start m.id) is.0)) = record { allowed = is.1; whole = refl } in
    (is.0, subst (λ (x : ℕ × List ℕ). IsWhole (start x.0) is.0 x.1) (λ i. (same.0 i, same.1 i)) whole, ap (λ (n : ℕ). trace_of n is.0) (sym same.0) ∙ is.2)

pub is_found : (text : List ℕ) (id : ℕ) (rest : List ℕ) (lines : List Line) → Some (id, rest) ≡ trace_at text → IsOnly (start id) lines rest → IsLawful (trace_of id lines) × (text ≡ text_of (trace_of id lines))
is_found text id rest lines e only =
    let s = splits text id rest e in
    let is = traced id lines s.small only.is.allowed in
    (is.lawful, s.parts ∙ ap (λ (t : List ℕ). trace_line id ++ t) only.is.whole ∙ sym (ap concat is.texts))

pub is_only : (text : List ℕ) (id : ℕ) (rest : List ℕ) (lines : List Line) (m : MatchedTrace) → Some (id, rest) ≡ trace_at text → IsOnly (start id) lines rest → IsLawful m → Fits m → text ≡ text_of m → trace_of id lines ≡ m
is_only text id rest lines m e only lawful fits eq =
    let other = whole_rest text id rest m (splits text id rest e) lawful fits eq in
    ap (trace_of id) (sym (only.only other.0 other.1)) ∙ other.2

-- ---- a bad line

begins_rest : (text : List ℕ) (id : ℕ) (rest : List ℕ) (n : ℕ) → Splits text id rest → BeginsWithLines (suc n) text → BeginsFrom (start id) n rest
begins_rest text id rest n s b =
    let m = b.trace in
    let has = has_text m b.lawful b.fits in
    let texts = texts_from (start m.id) has.lines in
    let eq : text ≡ trace_line m.id ++ (concat (take n texts) ++ b.rest) = b.begins ∙ ap (λ (ts : List (List ℕ)). concat (take (suc n) ts) ++ b.rest) has.texts ∙ append_assoc (trace_line m.id) (concat (take n texts)) b.rest in
    let same = same_trace text id rest m.id (concat (take n texts) ++ b.rest) s b.fits.id eq in
    let begins : BeginsFrom (start m.id) n (concat (take n texts) ++ b.rest) = record { lines = has.lines; allowed = has.continues; enough = omega (arith, b.enough, ap length has.texts); rest = b.rest; begins = refl } in
    subst (λ (x : ℕ × List ℕ). BeginsFrom (start x.0) n x.1) (λ i. (same.0 i, same.1 i)) begins

begins_text : (text : List ℕ) (id : ℕ) (rest : List ℕ) (n : ℕ) → Splits text id rest → BeginsFrom (start id) n rest → BeginsWithLines (suc n) text
begins_text text id rest n s b =
    let is = traced id b.lines s.small b.allowed in
    let texts = texts_from (start id) b.lines in
    record {
      trace = trace_of id b.lines;
      lawful = is.lawful;
      fits = is.fits;
      enough = omega (arith, b.enough, ap length is.texts);
      rest = b.rest;
      begins = s.parts ∙ ap (λ (t : List ℕ). trace_line id ++ t) b.begins ∙ sym (append_assoc (trace_line id) (concat (take n texts)) b.rest)
          ∙ ap (λ (ts : List (List ℕ)). concat (take (suc n) ts) ++ b.rest) (sym is.texts);
    }

pub bad_line : (text : List ℕ) (id : ℕ) (rest : List ℕ) (n before : ℕ) → Some (id, rest) ≡ trace_at text → n ≡ before + 2 → FailsAfter (start id) before rest → IsFirstBadLine n text
bad_line text id rest n before e n_is fails =
    let s = splits text id rest e in
    let one : n - 1 ≡ suc before = omega (arith, n_is) in
    let two : n ≡ suc (suc before) = omega (arith, n_is) in
    record {
      positive = omega (arith, n_is);
      before = subst (λ (k : ℕ). BeginsWithLines k text) (sym one) (begins_text text id rest before s fails.before);
      bad = λ b. fails.bad (begins_rest text id rest (suc before) s (subst (λ (k : ℕ). BeginsWithLines k text) two b));
      not_whole = λ m lawful fits eq. let whole = whole_rest text id rest m s lawful fits eq in fails.not_whole whole.0 whole.1;
    }

pub bad_only : (text : List ℕ) (id : ℕ) (rest : List ℕ) (before : ℕ) (m : MatchedTrace) → Some (id, rest) ≡ trace_at text → FailsAfter (start id) before rest → IsLawful m → Fits m → text ≡ text_of m → ⊥
bad_only text id rest before m e fails lawful fits eq =
    let whole = whole_rest text id rest m (splits text id rest e) lawful fits eq in fails.not_whole whole.0 whole.1

-- ---- the answer of reading

pub found : (text : List ℕ) (id : ℕ) (rest : List ℕ) (labels : List Label) (pieces : List Routed) → Some (id, rest) ≡ trace_at text → ReadsLines id rest (Ok (labels, pieces))
    → IsLawful (record { id = id; labels = labels; pieces = pieces }) × (text ≡ text_of (record { id = id; labels = labels; pieces = pieces }))
found text id rest labels pieces e reads =
    let P : List Label × List Routed → Type 0 = λ x. let m : MatchedTrace = record { id = id; labels = x.0; pieces = x.1 } in IsLawful m × (text ≡ text_of m) in
    subst P (λ i. (sym reads.2 i, sym reads.3 i)) (is_found text id rest reads.0 e reads.1)

pub only : (text : List ℕ) (id : ℕ) (rest : List ℕ) (labels : List Label) (pieces : List Routed) (m : MatchedTrace) → Some (id, rest) ≡ trace_at text → ReadsLines id rest (Ok (labels, pieces))
    → IsLawful m → Fits m → text ≡ text_of m → record { id = id; labels = labels; pieces = pieces } ≡ m
only text id rest labels pieces m e reads lawful fits eq =
    let first : record { id = id; labels = labels; pieces = pieces } ≡ trace_of id reads.0 = λ i. record { id = id; labels = reads.2 i; pieces = reads.3 i } in
    first ∙ is_only text id rest reads.0 m e reads.1 lawful fits eq

pub fault_only : (text : List ℕ) (id : ℕ) (rest : List ℕ) (fault : TextFault) (m : MatchedTrace) → Some (id, rest) ≡ trace_at text → ReadsLines id rest (Err fault)
    → IsLawful m → Fits m → text ≡ text_of m → fault ≡ Memory
fault_only text id rest (BadLine n) m e reads lawful fits eq = absurd (bad_only text id rest reads.0 m e reads.2 lawful fits eq)
fault_only text id rest Memory m e reads lawful fits eq = refl

pub fault_line : (text : List ℕ) (id : ℕ) (rest : List ℕ) (fault : TextFault) (n : ℕ) → Some (id, rest) ≡ trace_at text → ReadsLines id rest (Err fault) → fault ≡ BadLine n → IsFirstBadLine n text
fault_line text id rest (BadLine k) n e reads is =
    let same : k ≡ n = cc in
    bad_line text id rest n reads.0 e (sym same ∙ reads.1) reads.2
fault_line text id rest Memory n e reads is = absurd cc

pub first_line : (text : List ℕ) (n : ℕ) → None ≡ trace_at text → BadLine 1 ≡ BadLine n → IsFirstBadLine n text
first_line text n none is =
    let same : 1 ≡ n = cc in
    subst (λ (k : ℕ). IsFirstBadLine k text) same (no_trace_line text none)

pub same_fault : (r : Result MatchedTrace TextFault) (x y : TextFault) → r ≡ Err x → r ≡ Err y → x ≡ y
same_fault r x y e f = cc
