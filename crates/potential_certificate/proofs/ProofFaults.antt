-- The fault of the proofs of a certificate, and of what stands behind them.
use Rattle.std.proofs.Common.{◌≡◌, ℕ, zero, suc, ◌+◌, ◌-◌, ◌^◌, ◌<◌, List, [], ◌∷◌, ◌++◌, length, map, Option, Some, None, Ok, Err, refl, sym, ap, subst, ◌∙◌, arith, length-append}
use Rattle.std.specs.List.{AllByRecursion, flat_map}
use Rattle.std.specs.Option.{IfSome, unwrap_or}
use Rattle.std.proofs.lemmas.Option.{none-some, some_pair_parts}
use Rattle.bounded_table.specs.Table.{TableRow}
use Rattle.match_text.specs.Grammar.{Continues, EndsPiece, IsAllowed, IsEnd, place_after}
use Rattle.match_text.specs.MatchText.{end_line}
use Rattle.match_text.specs.declared.matched.Routed.{Routed}
use Rattle.match_text.specs.declared.place.Place.{Place}
use Rattle.match_text.proofs.Steps.{IsSound}
use Rattle.row_text.specs.RowLine.{row_line}
use Rattle.row_text.proofs.LineFaults.{Steps, fails_at, same_lines, step}
use Rattle.potential_certificate.specs.CertificateText.{last_line, proof_lines}
use Rattle.potential_certificate.specs.HasText.{AreRowValuesFrom, IsProof}
use Rattle.potential_certificate.specs.Reading.{ProofRead, adding, certificate_fault_at, in_match, line_and_more, line_at, lines_at, lines_behind}
use Rattle.potential_certificate.specs.declared.fault.CertFault.{CertFault}
use Rattle.potential_certificate.specs.declared.fault.CertFault.TheVariants.{BadLine, Cut}
use Rattle.potential_certificate.specs.declared.proof.TraceProof.{TraceProof}
use Rattle.potential_certificate.specs.declared.proof_line.ProofLine.{ProofLine}
use Rattle.potential_certificate.specs.declared.proof_line.ProofLine.TheVariants.{Missing, Layer, Piece, End}
use Rattle.potential_certificate.proofs.EndsOfLines.{proof_line_has_one_end}
use Rattle.potential_certificate.proofs.ProofLines.{FitsLine, line_takes, line_text}
use Rattle.potential_certificate.proofs.NextLines.{line_again, line_goes_down}
use Rattle.potential_certificate.proofs.ProofsRead.{other_line, same_id, texts_of}
use Rattle.potential_certificate.proofs.RowFaults.{FaultIs, IsCounted, counted_behind, fault_here}

-- ---- proofs, rows and the last line, behind the proofs of so many traces

pub record ItemsFrom (traces : ℕ) (lines : List (List ℕ)) : Type 0 where
  pub proofs : List TraceProof
  pub rows : List TableRow
  pub proofs_are : AllByRecursion IsProof proofs
  pub rows_are : AreRowValuesFrom 0 rows
  pub few : length rows < 2 ^ 32
  pub lines_are : lines ≡ flat_map proof_lines proofs ++ (map row_line rows ++ last_line (traces + length proofs) (length rows) ∷ [])

pub no_items : (traces : ℕ) → ItemsFrom traces [] → ⊥
no_items traces r =
    let last = last_line (traces + length r.proofs) (length r.rows) ∷ [] in
    omega (arith, ap length r.lines_are, length-append (flat_map proof_lines r.proofs) (map row_line r.rows ++ last), length-append (map row_line r.rows) last)

-- ---- the lines of a proof from a place on, and then these

pub record LinesFrom (traces : ℕ) (place : Place) (lines : List (List ℕ)) : Type 0 where
  pub own : List ProofLine
  pub items : List (List ℕ)
  pub continues : Continues place (map in_match own)
  pub fit : AllByRecursion FitsLine own
  pub items_are : ItemsFrom (traces + 1) items
  pub lines_are : lines ≡ texts_of place own ++ items

no_lines : (traces : ℕ) (place : Place) → LinesFrom traces place [] → ⊥
no_lines traces place r = by_own r.own r.lines_are
  where
    by_own : (own : List ProofLine) → [] ≡ texts_of place own ++ r.items → ⊥
    by_own [] e = omega (arith, ap length e)
    by_own (line ∷ own) e = omega (arith, ap length e)

-- the line that begins the text, and what stands behind it
record Front (traces : ℕ) (place : Place) (text : List ℕ) (others : List (List ℕ)) (rest : List ℕ) : Type 0 where
  pub line : ProofLine
  pub found : line_at place text ≡ Some (line, rest)
  pub ends : IsEnd (in_match line) → ItemsFrom (traces + 1) others
  pub goes_on : ¬ IsEnd (in_match line) → LinesFrom traces (place_after place (in_match line)) others

front : (traces : ℕ) (place : Place) (text first : List ℕ) (others : List (List ℕ)) (rest : List ℕ) → place.id < 2 ^ 32 → LinesFrom traces place (first ∷ others) → text ≡ first ++ rest → Front traces place text others rest
front traces place text first others rest small t begins = by_own t.own t.continues t.fit t.lines_are
  where
    by_own : (own : List ProofLine) → Continues place (map in_match own) → AllByRecursion FitsLine own → first ∷ others ≡ texts_of place own ++ t.items → Front traces place text others rest
    by_own [] continues fit lines_are =
        let parts = same_lines first (end_line place.id) others t.items lines_are in
        record {
          line = End;
          found = ap (line_at place) (begins ∙ ap (λ (l : List ℕ). l ++ rest) parts.0) ∙ line_again place End rest small continues tt;
          ends = λ end. subst (λ (ls : List (List ℕ)). ItemsFrom (traces + 1) ls) (sym parts.1) t.items_are;
          goes_on = λ other. absurd (other tt);
        }
    by_own (line ∷ own) continues fit lines_are =
        let parts = same_lines first (line_text place line) others (texts_of (place_after place (in_match line)) own ++ t.items) lines_are in
        record {
          line = line;
          found = ap (line_at place) (begins ∙ ap (λ (l : List ℕ). l ++ rest) parts.0) ∙ line_again place line rest small continues.1 fit.0;
          ends = λ end. absurd (continues.0 end);
          goes_on = λ other. record { own = own; items = t.items; continues = continues.2; fit = fit.1; items_are = t.items_are; lines_are = parts.1 };
        }

last_items : (traces : ℕ) → ItemsFrom traces (last_line (traces + 0) 0 ∷ [])
last_items traces = record { proofs = []; rows = []; proofs_are = tt; rows_are = tt; few = omega arith; lines_are = refl }

-- lines of a proof that may come, to its end
some_continue : (place : Place) → IsSound place → (own : List ProofLine) × Continues place (map in_match own) × AllByRecursion FitsLine own
some_continue place sound = by_waiting place.waiting refl sound.waits
  where
    by_waiting : (waiting : Option ℕ) → place.waiting ≡ waiting → IfSome waiting (λ first. first < place.next) → (own : List ProofLine) × Continues place (map in_match own) × AllByRecursion FitsLine own
    by_waiting None e waits = ([], e, tt)
    by_waiting (Some first) e waits =
        let piece : Routed = record { first = first; last = place.next - 1; cost = 0; route = 0 ∷ [] } in
        let near = sound.near in
        let ends : EndsPiece place piece = record {
          first = e;
          last = omega (arith, waits);
          route = λ none. cc none;
          fits = record { first = omega (arith, waits, near); last = omega (arith, near); cost = omega arith; route = (omega arith, tt) };
        } in
        (Piece piece ∷ [], ((λ end. end), ends, refl), (tt, tt))

sound_after : (place : Place) (line : ProofLine) → IsAllowed place (in_match line) → IsSound place → IsSound (place_after place (in_match line))
sound_after place Missing allowed sound = record { near = omega (arith, allowed.0); waits = rw allowed.1 tt }
sound_after place (Layer rank cells) allowed sound = record { near = omega (arith, allowed.0); waits = waits place.waiting sound.waits }
  where
    waits : (waiting : Option ℕ) → IfSome waiting (λ first. first < place.next) → unwrap_or waiting place.next < place.next + 1
    waits None h = omega arith
    waits (Some first) h = omega (arith, h)
sound_after place (Piece piece) allowed sound = record { near = sound.near; waits = tt }
sound_after place End allowed sound = sound

-- a fault behind a proof that was read, or the fault that was read
abbrev pub IsLater : (whole : List ℕ) (traces : ℕ) → CertFault → ProofRead → Type 0
IsLater whole traces fault (Ok read) = (m : ℕ) → IsCounted whole m read.1 → FaultIs m (ItemsFrom (traces + 1)) read.1 fault
IsLater whole traces fault (Err found) = fault ≡ found

later_added : (whole : List ℕ) (traces : ℕ) (fault : CertFault) (line : ProofLine) (read : ProofRead) → IsLater whole traces fault (adding line read) → IsLater whole traces fault read
later_added whole traces fault line (Ok read) later = later
later_added whole traces fault line (Err found) later = later

-- what the lines from here on say of the fault
pub record Here (whole : List ℕ) (traces : ℕ) (place : Place) (number : ℕ) (text : List ℕ) : Type 0 where
  pub small : place.id < 2 ^ 32
  pub sound : IsSound place
  pub counted : IsCounted whole number text

no_line_fault : (whole : List ℕ) (traces : ℕ) (place : Place) (number : ℕ) (text : List ℕ) (fault : CertFault) → Here whole traces place number text → line_at place text ≡ None → fault ≡ certificate_fault_at whole text → FaultIs number (LinesFrom traces place) text fault
no_line_fault whole traces place number text fault here none e =
    let some = some_continue place here.sound in
    fails_at (λ n. BadLine n) Cut number text fault (
    record {
      lines = texts_of place some.0 ++ last_line (traces + 1 + 0) 0 ∷ [];
      is = record { own = some.0; items = last_line (traces + 1 + 0) 0 ∷ []; continues = some.1; fit = some.2; items_are = last_items (traces + 1); lines_are = refl };
      some = no_lines traces place;
      none = λ first others rest t begins.
          let f = front traces place text first others rest here.small t begins in
          none-some (f.line, rest) (sym none ∙ f.found);
    }
    ) (e ∙ fault_here whole number text here.counted)

end_steps : (traces : ℕ) (place : Place) (text next : List ℕ) → place.id < 2 ^ 32 → IsSound place → line_at place text ≡ Some (End, next) → Steps (LinesFrom traces place) (ItemsFrom (traces + 1)) text (line_text place End) next
end_steps traces place text next small sound first =
    let taken = line_takes place text End next first in
    record {
      one = proof_line_has_one_end place End small sound taken.allowed tt;
      text_is = taken.text_is;
      more = λ others u. record { own = []; items = others; continues = taken.allowed; fit = tt; items_are = u; lines_are = refl };
      some = no_lines traces place;
      only = λ line others rest t begins.
          let f = front traces place text line others rest small t begins in
          let same = some_pair_parts f.line End rest next (sym f.found ∙ first) in
          (f.ends (subst (λ (l : ProofLine). IsEnd (in_match l)) (sym same.0) tt), same.1);
    }

line_steps : (traces : ℕ) (place : Place) (text : List ℕ) (line : ProofLine) (next : List ℕ) → place.id < 2 ^ 32 → IsSound place → line_at place text ≡ Some (line, next) → ¬ IsEnd (in_match line)
    → Steps (LinesFrom traces place) (LinesFrom traces (place_after place (in_match line))) text (line_text place line) next
line_steps traces place text line next small sound first other =
    let taken = line_takes place text line next first in
    record {
      one = proof_line_has_one_end place line small sound taken.allowed taken.fits;
      text_is = taken.text_is;
      more = λ others u. record {
        own = line ∷ u.own;
        items = u.items;
        continues = (other, taken.allowed, u.continues);
        fit = (taken.fits, u.fit);
        items_are = u.items_are;
        lines_are = ap (λ (ls : List (List ℕ)). line_text place line ∷ ls) u.lines_are;
      };
      some = no_lines traces place;
      only = λ front_line others rest t begins.
          let f = front traces place text front_line others rest small t begins in
          let same = some_pair_parts f.line line rest next (sym f.found ∙ first) in
          (subst (λ (l : ProofLine). ¬ IsEnd (in_match l) → LinesFrom traces (place_after place (in_match l)) others) same.0 f.goes_on other, same.1);
    }

abbrev MoreLines : (whole : List ℕ) (fuel traces : ℕ) → CertFault → Type 0
MoreLines whole fuel traces fault =
    (p : Place) (m : ℕ) (t : List ℕ) → Here whole traces p m t → length t < fuel → IsLater whole traces fault (lines_at whole fuel p t) → FaultIs m (LinesFrom traces p) t fault

pub lines_fault : (whole : List ℕ) (fuel traces : ℕ) (place : Place) (number : ℕ) (text : List ℕ) (fault : CertFault) → Here whole traces place number text → length text < fuel
    → IsLater whole traces fault (lines_at whole fuel place text) → FaultIs number (LinesFrom traces place) text fault
lines_fault whole zero traces place number text fault here enough later = absurd (omega (arith, enough))
lines_fault whole (suc fuel) traces place number text fault here enough later =
    by_line (λ p m t h enough later. lines_fault whole fuel traces p m t fault h enough later) (line_at place text) refl later
  where
    other_kind : MoreLines whole fuel traces fault → (line : ProofLine) (next : List ℕ) → line_at place text ≡ Some (line, next) → ¬ IsEnd (in_match line)
        → IsLater whole traces fault (line_and_more (lines_at whole fuel) place line next) → FaultIs number (LinesFrom traces place) text fault
    other_kind more line next is other later =
        let taken = line_takes place text line next is in
        let steps = line_steps traces place text line next here.small here.sound is other in
        let after = place_after place (in_match line) in
        let behind : Here whole traces after (number + 1) next = record {
          small = subst (λ (n : ℕ). n < 2 ^ 32) (sym (same_id place line)) here.small;
          sound = sound_after place line taken.allowed here.sound;
          counted = counted_behind whole number text (line_text place line) next steps.one steps.text_is here.counted;
        } in
        let added : IsLater whole traces fault (adding line (lines_at whole fuel after next)) = subst (IsLater whole traces fault) (other_line whole fuel place line next other) later in
        step (λ n. BadLine n) Cut number fault steps
        (more after (number + 1) next behind (omega (arith, enough, line_goes_down place text line next is)) (later_added whole traces fault line (lines_at whole fuel after next) added))

    by_kind : MoreLines whole fuel traces fault → (line : ProofLine) (next : List ℕ) → line_at place text ≡ Some (line, next) → IsLater whole traces fault (line_and_more (lines_at whole fuel) place line next) → FaultIs number (LinesFrom traces place) text fault
    by_kind more Missing next is later = other_kind more Missing next is (λ h. h) later
    by_kind more (Layer rank cells) next is later = other_kind more (Layer rank cells) next is (λ h. h) later
    by_kind more (Piece piece) next is later = other_kind more (Piece piece) next is (λ h. h) later
    by_kind more End next is later =
        let steps = end_steps traces place text next here.small here.sound is in
        step (λ n. BadLine n) Cut number fault steps (later (number + 1) (counted_behind whole number text (line_text place End) next steps.one steps.text_is here.counted))

    by_line : MoreLines whole fuel traces fault → (read : Option (ProofLine × List ℕ)) → line_at place text ≡ read → IsLater whole traces fault (lines_behind (lines_at whole fuel) whole place text read) → FaultIs number (LinesFrom traces place) text fault
    by_line more None is later = no_line_fault whole traces place number text fault here is later
    by_line more (Some (line, next)) is later = by_kind more line next is later
