-- What the fault of a whole text means.
use Rattle.std.proofs.Common.{◌≡◌, ◌≢◌, ℕ, suc, ◌+◌, ◌-◌, ◌<◌, ◌≤◌, ◌⊎◌, inl, inr, Bool, true, false, cond, List, [], ◌∷◌, ◌++◌, length, take, drop, refl, sym, ap, subst, ◌∙◌, append_assoc, arith, take-append-drop, take-take}
use Rattle.std.specs.List.{concat}
use Rattle.std.proofs.lemmas.List.{append-nil}
use Rattle.std.proofs.lemmas.List.Folds.{concat-append}
use Rattle.row_text.specs.LineFaults.{BeginsWithLinesOf, GoesPastWholeOf, IsCutOf, IsFirstBadLineOf, line_count}
use Rattle.row_text.proofs.LineFaults.{line_count-append, line_count-lines, has_line, line_there, no_line, Fails, GoesPast, IsFaultOf}

-- ---- what the fault of a whole text means

one_less : (n : ℕ) → n ≡ suc n - 1
one_less n = omega arith

pub bad_at_left : {T : List (List ℕ) → Type 0} {text : List ℕ} (f : Fails T text) → has_line f.left ≡ true → IsFirstBadLineOf T (suc (length f.front)) text
bad_at_left {T = T} {text = text} f line = record {
  positive = omega arith;
  before = subst (λ (n : ℕ). BeginsWithLinesOf T n text) (one_less (length f.front)) f.before;
  bad = f.bad;
  not_whole = λ lines is e. f.not_whole (record { lines = lines; is = is; rest = []; begins = e ∙ sym (append-nil (concat lines)) });
  ended = inl (omega (arith, ap line_count f.text_is, line_count-append (concat f.front) f.left, line_count-lines f.front f.each, line_there f.left line));
}

pub cut_at_left : {T : List (List ℕ) → Type 0} {text : List ℕ} (f : Fails T text) → has_line f.left ≡ false → IsCutOf T text
cut_at_left {T = T} {text = text} f none = record {
  allowed = subst (λ (n : ℕ). BeginsWithLinesOf T n text) (omega (arith, ap line_count f.text_is, line_count-append (concat f.front) f.left, line_count-lines f.front f.each, no_line f.left none)) f.before;
  missing = f.not_whole;
}

pub bad_past : {T : List (List ℕ) → Type 0} {text : List ℕ} (g : GoesPast T text) → ((lines : List (List ℕ)) → T lines → text ≢ concat lines) → IsFirstBadLineOf T (suc (length g.lines)) text
bad_past {T = T} {text = text} g not_whole = record {
  positive = omega arith;
  before = subst (λ (n : ℕ). BeginsWithLinesOf T n text) (one_less (length g.lines))
      (record { lines = g.lines; is = g.is; enough = omega arith; rest = g.byte ∷ g.rest; begins = g.text_is ∙ ap (λ (ls : List (List ℕ)). concat ls ++ g.byte ∷ g.rest) (sym (take_whole g.lines)) });
  bad = g.bad;
  not_whole = not_whole;
  ended = inr (record { lines = g.lines; is = g.is; count = one_less (length g.lines); byte = g.byte; rest = g.rest; goes = g.text_is });
}
  where
    take_whole : (lines : List (List ℕ)) → take (length lines) lines ≡ lines
    take_whole [] = refl
    take_whole (line ∷ lines) = ap (λ (ls : List (List ℕ)). line ∷ ls) (take_whole lines)

-- ---- each text has one meaning

pub fewer : {T : List (List ℕ) → Type 0} {text : List ℕ} (m n : ℕ) → m ≤ n → BeginsWithLinesOf T n text → BeginsWithLinesOf T m text
fewer m n le b =
    let front = take n b.lines in
    let parts : front ≡ take m b.lines ++ drop m front = sym (take-append-drop m front) ∙ ap (λ (ls : List (List ℕ)). ls ++ drop m front) (take-take m n b.lines le) in
    record {
      lines = b.lines;
      is = b.is;
      enough = omega (arith, le, b.enough);
      rest = concat (drop m front) ++ b.rest;
      begins = b.begins ∙ ap (λ (ls : List (List ℕ)). concat ls ++ b.rest) parts ∙ ap (λ (t : List ℕ). t ++ b.rest) (concat-append (take m b.lines) (drop m front))
          ∙ append_assoc (concat (take m b.lines)) (concat (drop m front)) b.rest;
    }

-- of two first bad lines none comes before the other
not_before : {T : List (List ℕ) → Type 0} {text : List ℕ} (m n : ℕ) → IsFirstBadLineOf T m text → IsFirstBadLineOf T n text → m < n → ⊥
not_before m n first second lt = first.bad (fewer m (n - 1) (omega (arith, lt)) second.before)

pub one_bad_line : {T : List (List ℕ) → Type 0} {text : List ℕ} (m n : ℕ) → IsFirstBadLineOf T m text → IsFirstBadLineOf T n text → m ≡ n
one_bad_line m n first second = omega (arith, not_before m n first second, not_before n m second first)

pub bad_or_cut : {T : List (List ℕ) → Type 0} {text : List ℕ} (n : ℕ) → IsFirstBadLineOf T n text → IsCutOf T text → ⊥
bad_or_cut {T = T} {text = text} n bad cut = by_end bad.ended
  where
    by_end : (n ≤ line_count text) ⊎ GoesPastWholeOf T (n - 1) text → ⊥
    by_end (inl few) = bad.bad (fewer n (line_count text) few cut.allowed)
    by_end (inr past) = cut.missing (record { lines = past.lines; is = past.is; rest = past.byte ∷ past.rest; begins = past.goes })

-- what the fault means
pub record Means {F : Type 0} (bad_line : ℕ → F) (cut : F) (T : List (List ℕ) → Type 0) (text : List ℕ) (fault : F) : Type 0 where
  pub says : ((n : ℕ) × (fault ≡ bad_line n) × IsFirstBadLineOf T n text) ⊎ ((fault ≡ cut) × IsCutOf T text)

pub fault_means : {F : Type 0} (bad_line : ℕ → F) (cut : F) {T : List (List ℕ) → Type 0} {text : List ℕ} (fault : F) → ((lines : List (List ℕ)) → T lines → text ≢ concat lines) → IsFaultOf bad_line cut 1 T text fault → Means bad_line cut T text fault
fault_means bad_line cut {T = T} {text = text} fault not_whole is = by_kind is.stops
  where
    number : (k : ℕ) → 1 + k ≡ suc k
    number k = omega arith

    at_left : (f : Fails T text) (line : Bool) → has_line f.left ≡ line → fault ≡ cond line (bad_line (1 + length f.front)) cut → Means bad_line cut T text fault
    at_left f true line e = record { says = inl (suc (length f.front), e ∙ ap bad_line (number (length f.front)), bad_at_left f line) }
    at_left f false line e = record { says = inr (e, cut_at_left f line) }

    by_kind : ((f : Fails T text) × (fault ≡ cond (has_line f.left) (bad_line (1 + length f.front)) cut)) ⊎ ((g : GoesPast T text) × (fault ≡ bad_line (1 + length g.lines))) → Means bad_line cut T text fault
    by_kind (inl (f, e)) = at_left f (has_line f.left) refl e
    by_kind (inr (g, e)) = record { says = inl (suc (length g.lines), e ∙ ap bad_line (number (length g.lines)), bad_past g not_whole) }

pub is_bad_line : {F : Type 0} (bad_line : ℕ → F) (cut : F) {T : List (List ℕ) → Type 0} {text : List ℕ} (fault : F) (n : ℕ) → Means bad_line cut T text fault → IsFirstBadLineOf T n text → fault ≡ bad_line n
is_bad_line bad_line cut {T = T} {text = text} fault n means bad = by_kind means.says
  where
    by_kind : ((m : ℕ) × (fault ≡ bad_line m) × IsFirstBadLineOf T m text) ⊎ ((fault ≡ cut) × IsCutOf T text) → fault ≡ bad_line n
    by_kind (inl (m, e, first)) = e ∙ ap bad_line (one_bad_line m n first bad)
    by_kind (inr (e, cut_is)) = absurd (bad_or_cut n bad cut_is)

pub is_cut : {F : Type 0} (bad_line : ℕ → F) (cut : F) {T : List (List ℕ) → Type 0} {text : List ℕ} (fault : F) → Means bad_line cut T text fault → IsCutOf T text → fault ≡ cut
is_cut bad_line cut {T = T} {text = text} fault means cut_is = by_kind means.says
  where
    by_kind : ((m : ℕ) × (fault ≡ bad_line m) × IsFirstBadLineOf T m text) ⊎ ((fault ≡ cut) × IsCutOf T text) → fault ≡ cut
    by_kind (inl (m, e, first)) = absurd (bad_or_cut m first cut_is)
    by_kind (inr (e, same)) = e
