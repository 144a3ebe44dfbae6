-- What one line says of the whole text, where the lines after it are known.
use Rattle.std.proofs.Common.{◌≡◌, ℕ, suc, ◌+◌, ◌-◌, ◌*◌, ◌<◌, ◌≤◌, List, [], ◌∷◌, ◌++◌, length, take, Option, Some, None, Result, Ok, Err, refl, sym, ap, subst, ◌∙◌, append_assoc, arith}
use Rattle.std.specs.Option.{IfSome, unwrap_or}
use Rattle.std.specs.List.{concat}
use Rattle.std.proofs.lemmas.List.{append-nil, length-append}
use Rattle.std.proofs.lemmas.Option.{none-some, some_pair_parts}
use Rattle.match_text.specs.declared.matched.Label.{Label}
use Rattle.match_text.specs.declared.matched.Label.TheVariants.{Missing, On}
use Rattle.match_text.specs.declared.matched.Routed.{Routed}
use Rattle.match_text.specs.declared.place.Line.{Line}
use Rattle.match_text.specs.declared.place.Line.TheVariants.{Point, Piece, End}
use Rattle.match_text.specs.declared.place.Place.{Place}
use Rattle.match_text.specs.Grammar.{IsAllowed, EndsPiece, IsEnd, text_at, place_after, start, Continues, texts_from, BeginsFrom, IsWhole, IsOnly, FailsAfter, Means, ReadsLine, labels_of, pieces_of}

-- ---- the line at the front

-- the text begins with this line
begins_with : (place : Place) (text : List ℕ) (line : Line) (texts : List (List ℕ)) (n : ℕ) (rest : List ℕ) → text ≡ concat (take (suc n) (text_at place line ∷ texts)) ++ rest → text ≡ text_at place line ++ (concat (take n texts) ++ rest)
begins_with place text line texts n rest eq = eq ∙ append_assoc (text_at place line) (concat (take n texts)) rest

-- what is read where this line begins the text
reads_it : (place : Place) (text : List ℕ) (read : Option (Line × List ℕ)) (line : Line) (texts : List (List ℕ)) (n : ℕ) (rest : List ℕ) → ReadsLine place text read → IsAllowed place line → text ≡ concat (take (suc n) (text_at place line ∷ texts)) ++ rest → read ≡ Some (line, concat (take n texts) ++ rest)
reads_it place text read line texts n rest reads allowed eq = reads.only line (concat (take n texts) ++ rest) allowed (begins_with place text line texts n rest eq)

not_end : (line : Line) → line ≡ End → IsEnd line
not_end line e = subst IsEnd (sym e) tt

-- ---- no line

none_begins : (place : Place) (text : List ℕ) (lines : List Line) (rest : List ℕ) → ReadsLine place text None → Continues place lines → text ≡ concat (take 1 (texts_from place lines)) ++ rest → ⊥
none_begins place text [] rest reads allowed eq = none-some _ (reads_it place text None End [] 0 rest reads allowed eq)
none_begins place text (line ∷ lines) rest reads allowed eq = none-some _ (reads_it place text None line (texts_from (place_after place line) lines) 0 rest reads allowed.1 eq)

none_whole : (place : Place) (text : List ℕ) (lines : List Line) → ReadsLine place text None → Continues place lines → text ≡ concat (texts_from place lines) → ⊥
none_whole place text [] reads allowed eq = none-some _ (reads.only End [] allowed eq)
none_whole place text (line ∷ lines) reads allowed eq = none-some _ (reads.only line (concat (texts_from (place_after place line) lines)) allowed.1 eq)

pub no_line : (place : Place) (text : List ℕ) (lines : List Line) → Continues place lines → ReadsLine place text None → FailsAfter place 0 text
no_line place text lines continues reads = record {
  before = record { lines = lines; allowed = continues; enough = omega arith; rest = text; begins = refl };
  bad = λ b. none_begins place text b.lines b.rest reads b.allowed b.begins;
  not_whole = λ others w. none_whole place text others reads w.allowed w.whole;
}

-- ---- the end line

only_end : (place : Place) (text : List ℕ) (others : List Line) → ReadsLine place text (Some (End, [])) → Continues place others → text ≡ concat (texts_from place others) → others ≡ []
only_end place text [] reads allowed eq = refl
only_end place text (line ∷ lines) reads allowed eq =
    let parts = some_pair_parts End line [] _ (reads.only line (concat (texts_from (place_after place line) lines)) allowed.1 eq) in
    absurd (allowed.0 (not_end line (sym parts.0)))

pub ends : (place : Place) (text : List ℕ) → ReadsLine place text (Some (End, [])) → IsOnly place [] text
ends place text reads = record {
  is = record { allowed = reads.found.0; whole = reads.found.1 };
  only = λ others w. only_end place text others reads w.allowed w.whole;
}

end_is_last : (place : Place) (text : List ℕ) (b : ℕ) (bs : List ℕ) (lines : List Line) (rest : List ℕ) → ReadsLine place text (Some (End, b ∷ bs)) → Continues place lines → 2 ≤ length (texts_from place lines) → text ≡ concat (take 2 (texts_from place lines)) ++ rest → ⊥
end_is_last place text b bs [] rest reads allowed enough eq = absurd (omega (arith, enough))
end_is_last place text b bs (line ∷ lines) rest reads allowed enough eq =
    let parts = some_pair_parts End line (b ∷ bs) _ (reads_it place text (Some (End, b ∷ bs)) line (texts_from (place_after place line) lines) 1 rest reads allowed.1 eq) in
    allowed.0 (not_end line (sym parts.0))

end_not_whole : (place : Place) (text : List ℕ) (b : ℕ) (bs : List ℕ) (lines : List Line) → ReadsLine place text (Some (End, b ∷ bs)) → Continues place lines → text ≡ concat (texts_from place lines) → ⊥
end_not_whole place text b bs [] reads allowed eq =
    let parts = some_pair_parts End End (b ∷ bs) [] (reads.only End [] allowed eq) in
    absurd (cc parts.1)
end_not_whole place text b bs (line ∷ lines) reads allowed eq =
    let parts = some_pair_parts End line (b ∷ bs) _ (reads.only line (concat (texts_from (place_after place line) lines)) allowed.1 eq) in
    allowed.0 (not_end line (sym parts.0))

pub goes_past_end : (place : Place) (text : List ℕ) (b : ℕ) (bs : List ℕ) → ReadsLine place text (Some (End, b ∷ bs)) → FailsAfter place 1 text
goes_past_end place text b bs reads = record {
  before = record { lines = []; allowed = reads.found.0; enough = omega arith; rest = b ∷ bs; begins = reads.found.1 ∙ ap (λ (t : List ℕ). t ++ b ∷ bs) (sym (append-nil (text_at place End))) };
  bad = λ begins. end_is_last place text b bs begins.lines begins.rest reads begins.allowed begins.enough begins.begins;
  not_whole = λ lines w. end_not_whole place text b bs lines reads w.allowed w.whole;
}

-- ---- another line, and then the rest

abbrev pub with_line : Line → Result (List Line) ℕ → Result (List Line) ℕ
with_line line (Ok lines) = Ok (line ∷ lines)
with_line line (Err n) = Err (suc n)

more_begins : (place : Place) (text : List ℕ) (line : Line) (rest : List ℕ) (n : ℕ) (lines : List Line) (others : List ℕ) → ReadsLine place text (Some (line, rest)) → Continues place lines → suc (suc n) ≤ length (texts_from place lines)
    → text ≡ concat (take (suc (suc n)) (texts_from place lines)) ++ others → BeginsFrom (place_after place line) (suc n) rest
more_begins place text line rest n [] others reads allowed enough eq = absurd (omega (arith, enough))
more_begins place text line rest n (l ∷ lines) others reads allowed enough eq =
    let after = texts_from (place_after place l) lines in
    let parts = some_pair_parts line l rest _ (reads_it place text (Some (line, rest)) l after (suc n) others reads allowed.1 eq) in
    let begins : BeginsFrom (place_after place l) (suc n) (concat (take (suc n) after) ++ others) = record { lines = lines; allowed = allowed.2; enough = omega (arith, enough); rest = others; begins = refl } in
    subst (λ (x : Line × List ℕ). BeginsFrom (place_after place x.0) (suc n) x.1) (λ i. (sym parts.0 i, sym parts.1 i)) begins

only_more : (place : Place) (text : List ℕ) (line : Line) (rest : List ℕ) (lines others : List Line) → ReadsLine place text (Some (line, rest)) → ¬ IsEnd line → ((others : List Line) → IsWhole (place_after place line) others rest → others ≡ lines)
    → Continues place others → text ≡ concat (texts_from place others) → others ≡ line ∷ lines
only_more place text line rest lines [] reads other only allowed eq =
    let parts = some_pair_parts line End rest [] (reads.only End [] allowed eq) in
    absurd (other (not_end line parts.0))
only_more place text line rest lines (l ∷ ls) reads other only allowed eq =
    let after = texts_from (place_after place l) ls in
    let parts = some_pair_parts line l rest (concat after) (reads.only l (concat after) allowed.1 eq) in
    let whole : IsWhole (place_after place l) ls (concat after) = record { allowed = allowed.2; whole = refl } in
    let same : ls ≡ lines = only ls (subst (λ (x : Line × List ℕ). IsWhole (place_after place x.0) ls x.1) (λ i. (sym parts.0 i, sym parts.1 i)) whole) in
    λ i. sym parts.0 i ∷ same i

more_whole : (place : Place) (text : List ℕ) (line : Line) (rest : List ℕ) (lines : List Line) → ReadsLine place text (Some (line, rest)) → ¬ IsEnd line → Continues place lines → text ≡ concat (texts_from place lines)
    → (others : List Line) × IsWhole (place_after place line) others rest
more_whole place text line rest [] reads other allowed eq =
    let parts = some_pair_parts line End rest [] (reads.only End [] allowed eq) in
    absurd (other (not_end line parts.0))
more_whole place text line rest (l ∷ lines) reads other allowed eq =
    let after = texts_from (place_after place l) lines in
    let parts = some_pair_parts line l rest (concat after) (reads.only l (concat after) allowed.1 eq) in
    let whole : IsWhole (place_after place l) lines (concat after) = record { allowed = allowed.2; whole = refl } in
    (lines, subst (λ (x : Line × List ℕ). IsWhole (place_after place x.0) lines x.1) (λ i. (sym parts.0 i, sym parts.1 i)) whole)

pub more : (place : Place) (text : List ℕ) (line : Line) (rest : List ℕ) (r : Result (List Line) ℕ) → ReadsLine place text (Some (line, rest)) → ¬ IsEnd line → Means (place_after place line) rest r → Means place text (with_line line r)
more place text line rest (Ok lines) reads other means = record {
  is = record {
    allowed = (other, reads.found.0, means.is.allowed);
    whole = reads.found.1 ∙ ap (λ (t : List ℕ). text_at place line ++ t) means.is.whole;
  };
  only = λ others w. only_more place text line rest lines others reads other means.only w.allowed w.whole;
}
more place text line rest (Err n) reads other means = record {
  before =
      let b = means.before in
      record {
        lines = line ∷ b.lines;
        allowed = (other, reads.found.0, b.allowed);
        enough = omega (arith, b.enough);
        rest = b.rest;
        begins = reads.found.1 ∙ ap (λ (t : List ℕ). text_at place line ++ t) b.begins ∙ sym (append_assoc (text_at place line) _ b.rest);
      };
  bad = λ b. means.bad (more_begins place text line rest n b.lines b.rest reads b.allowed b.enough b.begins);
  not_whole = λ lines w. let whole = more_whole place text line rest lines reads other w.allowed w.whole in means.not_whole whole.0 whole.1;
}

-- ---- the lines so far

abbrev pub with_front : List Line → Result (List Line) ℕ → Result (List Line) ℕ
with_front front (Ok lines) = Ok (front ++ lines)
with_front front (Err n) = Err (length front + n)

-- a place that lawful lines lead to
pub record IsSound (place : Place) : Type 0 where
  pub near : place.next ≤ 100000
  pub waits : IfSome place.waiting (λ first. first < place.next)

-- the lines read so far, and that what the rest is decides what the whole text is
pub record SoFar (id : ℕ) (text : List ℕ) (place : Place) (rest : List ℕ) (number : ℕ) (labels : List Label) (pieces : List Routed) : Type 0 where
  pub done : List Line
  pub labels_are : labels ≡ labels_of done
  pub pieces_are : pieces ≡ pieces_of done
  pub counted : number ≡ length done + 2
  pub short : 2 * length done + length rest ≤ length text
  pub sound : IsSound place
  pub goes_on : (r : Result (List Line) ℕ) → Means place rest r → Means (start id) text (with_front done r)

with_front-none : (r : Result (List Line) ℕ) → with_front [] r ≡ r
with_front-none (Ok lines) = refl
with_front-none (Err n) = ap (λ (k : ℕ). let r : Result (List Line) ℕ = Err k in r) (omega arith)

with_front-push : (front : List Line) (line : Line) (r : Result (List Line) ℕ) → with_front (front ++ line ∷ []) r ≡ with_front front (with_line line r)
with_front-push front line (Ok lines) = ap (λ (ls : List Line). let r : Result (List Line) ℕ = Ok ls in r) (append_assoc front (line ∷ []) lines)
with_front-push front line (Err n) = ap (λ (k : ℕ). let r : Result (List Line) ℕ = Err k in r) (omega (arith, length-append front (line ∷ [])))

labels_of-push : (lines : List Line) (line : Line) → labels_of (lines ++ line ∷ []) ≡ labels_of lines ++ labels_of (line ∷ [])
labels_of-push [] line = refl
labels_of-push (Point label ∷ lines) line = ap (λ (ls : List Label). label ∷ ls) (labels_of-push lines line)
labels_of-push (Piece piece ∷ lines) line = labels_of-push lines line
labels_of-push (End ∷ lines) line = labels_of-push lines line

pieces_of-push : (lines : List Line) (line : Line) → pieces_of (lines ++ line ∷ []) ≡ pieces_of lines ++ pieces_of (line ∷ [])
pieces_of-push [] line = refl
pieces_of-push (Point label ∷ lines) line = pieces_of-push lines line
pieces_of-push (Piece piece ∷ lines) line = ap (λ (ps : List Routed). piece ∷ ps) (pieces_of-push lines line)
pieces_of-push (End ∷ lines) line = pieces_of-push lines line

-- a line has two bytes at least
pub length-text_at : (place : Place) (line : Line) → 2 ≤ length (text_at place line)
length-text_at place (Point Missing) = omega arith
length-text_at place (Point (On edge offset d2)) = omega arith
length-text_at place (Piece piece) = omega arith
length-text_at place End = omega arith

sound_after : (place : Place) (line : Line) → IsAllowed place line → IsSound place → IsSound (place_after place line)
sound_after place (Point Missing) allowed sound = record { near = omega (arith, allowed.0); waits = rw allowed.1 tt }
sound_after place (Point (On edge offset d2)) allowed sound = record { near = omega (arith, allowed.0); waits = waits place.waiting sound.waits }
  where
    waits : (waiting : Option ℕ) → IfSome waiting (λ first. first < place.next) → unwrap_or waiting place.next < place.next + 1
    waits None h = omega arith
    waits (Some first) h = omega (arith, h)
sound_after place (Piece piece) allowed sound = record { near = sound.near; waits = tt }
sound_after place End allowed sound = sound

-- the lines can go on to the end
pub completed : (place : Place) → IsSound place → (lines : List Line) × Continues place lines
completed place sound = by_waiting place.waiting refl sound.waits
  where
    by_waiting : (waiting : Option ℕ) → place.waiting ≡ waiting → IfSome waiting (λ first. first < place.next) → (lines : List Line) × Continues place lines
    by_waiting None e waits = ([], e)
    by_waiting (Some first) e waits =
        let piece : Routed = record { first = first; last = place.next - 1; cost = 0; route = 0 ∷ [] } in
        let near = sound.near in
        let ends : EndsPiece place piece = record {
          first = e;
          last = omega (arith, waits);
          route = λ none. cc none;
          fits = record { first = omega (arith, waits, near); last = omega (arith, near); cost = omega arith; route = (omega arith, tt) };
        } in
        (Piece piece ∷ [], ((λ end. end), ends, refl))

pub begins : (id : ℕ) (text : List ℕ) → SoFar id text (start id) text 2 [] []
begins id text = record {
  done = [];
  labels_are = refl;
  pieces_are = refl;
  counted = refl;
  short = omega arith;
  sound = record { near = omega arith; waits = tt };
  goes_on = λ r means. rw with_front-none means;
}

pub goes_on : (id : ℕ) (text : List ℕ) (place : Place) (rest : List ℕ) (number : ℕ) (labels : List Label) (pieces : List Routed) (line : Line) (after : List ℕ)
    → ReadsLine place rest (Some (line, after)) → ¬ IsEnd line → SoFar id text place rest number labels pieces
    → SoFar id text (place_after place line) after (number + 1) (labels ++ labels_of (line ∷ [])) (pieces ++ pieces_of (line ∷ []))
goes_on id text place rest number labels pieces line after reads other so_far = record {
  done = so_far.done ++ line ∷ [];
  labels_are = ap (λ (ls : List Label). ls ++ labels_of (line ∷ [])) so_far.labels_are ∙ sym (labels_of-push so_far.done line);
  pieces_are = ap (λ (ps : List Routed). ps ++ pieces_of (line ∷ [])) so_far.pieces_are ∙ sym (pieces_of-push so_far.done line);
  counted = omega (arith, so_far.counted, length-append so_far.done (line ∷ []));
  short = omega (arith, so_far.short, length-append so_far.done (line ∷ []), ap length reads.found.1, length-append (text_at place line) after, length-text_at place line);
  sound = sound_after place line reads.found.0 so_far.sound;
  goes_on = λ r means. rw (with_front-push so_far.done line r) (so_far.goes_on (with_line line r) (more place rest line after r reads other means));
}

pub goes_down : (place : Place) (rest : List ℕ) (line : Line) (after : List ℕ) → ReadsLine place rest (Some (line, after)) → length after < length rest
goes_down place rest line after reads = omega (arith, ap length reads.found.1, length-append (text_at place line) after, length-text_at place line)

pub point_goes_on : (id : ℕ) (text : List ℕ) (place : Place) (rest : List ℕ) (number : ℕ) (labels : List Label) (pieces : List Routed) (line : Line) (after : List ℕ) (label : Label) (place' : Place) (labels' : List Label)
    → ReadsLine place rest (Some (line, after)) → line ≡ Point label → place' ≡ place_after place line → labels' ≡ labels ++ label ∷ [] → SoFar id text place rest number labels pieces
    → SoFar id text place' after (number + 1) labels' pieces
point_goes_on id text place rest number labels pieces line after label place' labels' reads is place_is labels_is so_far =
    let other : ¬ IsEnd line = subst (λ (l : Line). ¬ IsEnd l) (sym is) (λ e. e) in
    let next = goes_on id text place rest number labels pieces line after reads other so_far in
    let labels_are : labels ++ labels_of (line ∷ []) ≡ labels' = ap (λ (l : Line). labels ++ labels_of (l ∷ [])) is ∙ sym labels_is in
    let pieces_are : pieces ++ pieces_of (line ∷ []) ≡ pieces = ap (λ (l : Line). pieces ++ pieces_of (l ∷ [])) is ∙ append-nil pieces in
    subst (λ (x : Place × List Label × List Routed). SoFar id text x.0 after (number + 1) x.1 x.2) (λ i. (sym place_is i, labels_are i, pieces_are i)) next

pub piece_goes_on : (id : ℕ) (text : List ℕ) (place : Place) (rest : List ℕ) (number : ℕ) (labels : List Label) (pieces : List Routed) (line : Line) (after : List ℕ) (piece : Routed) (place' : Place) (pieces' : List Routed)
    → ReadsLine place rest (Some (line, after)) → line ≡ Piece piece → place' ≡ place_after place line → pieces' ≡ pieces ++ piece ∷ [] → SoFar id text place rest number labels pieces
    → SoFar id text place' after (number + 1) labels pieces'
piece_goes_on id text place rest number labels pieces line after piece place' pieces' reads is place_is pieces_is so_far =
    let other : ¬ IsEnd line = subst (λ (l : Line). ¬ IsEnd l) (sym is) (λ e. e) in
    let next = goes_on id text place rest number labels pieces line after reads other so_far in
    let labels_are : labels ++ labels_of (line ∷ []) ≡ labels = ap (λ (l : Line). labels ++ labels_of (l ∷ [])) is ∙ append-nil labels in
    let pieces_are : pieces ++ pieces_of (line ∷ []) ≡ pieces' = ap (λ (l : Line). pieces ++ pieces_of (l ∷ [])) is ∙ sym pieces_is in
    subst (λ (x : Place × List Label × List Routed). SoFar id text x.0 after (number + 1) x.1 x.2) (λ i. (sym place_is i, labels_are i, pieces_are i)) next

-- ---- where the loop ends

pub fails : (id : ℕ) (text : List ℕ) (place : Place) (rest : List ℕ) (number : ℕ) (labels : List Label) (pieces : List Routed) → ReadsLine place rest None → SoFar id text place rest number labels pieces
    → (before : ℕ) × (number ≡ before + 2) × FailsAfter (start id) before text
fails id text place rest number labels pieces reads so_far =
    let lines = completed place so_far.sound in
    (length so_far.done + 0, omega (arith, so_far.counted), so_far.goes_on (Err 0) (no_line place rest lines.0 lines.1 reads))

pub is_whole : (id : ℕ) (text : List ℕ) (place : Place) (rest : List ℕ) (number : ℕ) (labels : List Label) (pieces : List Routed) (line : Line) (after : List ℕ)
    → ReadsLine place rest (Some (line, after)) → line ≡ End → after ≡ [] → SoFar id text place rest number labels pieces
    → (lines : List Line) × IsOnly (start id) lines text × (labels ≡ labels_of lines) × (pieces ≡ pieces_of lines)
is_whole id text place rest number labels pieces line after reads is none so_far =
    let end : ReadsLine place rest (Some (End, [])) = subst (λ (x : Line × List ℕ). ReadsLine place rest (Some x)) (λ i. (is i, none i)) reads in
    (so_far.done, subst (λ (lines : List Line). IsOnly (start id) lines text) (append-nil so_far.done) (so_far.goes_on (Ok []) (ends place rest end)), so_far.labels_are, so_far.pieces_are)

past_end : (place : Place) (rest after : List ℕ) → ReadsLine place rest (Some (End, after)) → (length after ≡ 0 → ⊥) → FailsAfter place 1 rest
past_end place rest [] reads some = absurd (some refl)
past_end place rest (b ∷ bs) reads some = goes_past_end place rest b bs reads

pub fails_past_end : (id : ℕ) (text : List ℕ) (place : Place) (rest : List ℕ) (number : ℕ) (labels : List Label) (pieces : List Routed) (line : Line) (after : List ℕ)
    → ReadsLine place rest (Some (line, after)) → line ≡ End → (length after ≡ 0 → ⊥) → SoFar id text place rest number labels pieces
    → (before : ℕ) × (number + 1 ≡ before + 2) × FailsAfter (start id) before text
fails_past_end id text place rest number labels pieces line after reads is some so_far =
    let end : ReadsLine place rest (Some (End, after)) = subst (λ (l : Line). ReadsLine place rest (Some (l, after))) is reads in
    (length so_far.done + 1, omega (arith, so_far.counted), so_far.goes_on (Err 1) (past_end place rest after end some))
