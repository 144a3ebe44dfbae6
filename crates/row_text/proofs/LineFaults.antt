-- What a fault means follows from where the reading of lines stops.
use Rattle.std.proofs.Common.{◌≡◌, ℕ, suc, ◌+◌, ◌≤◌, ◌⊎◌, inl, inr, Bool, true, false, cond, eqb, ◌||◌, List, [], ◌∷◌, ◌++◌, length, take, refl, sym, ap, ◌∙◌, append_assoc, arith}
use Rattle.std.specs.List.{AllByRecursion, concat, list_any}
use Rattle.std.proofs.lemmas.List.{append-nil}
use Rattle.std.proofs.lemmas.List.Sums.{sum_by-append, sum_by-cons}
use Rattle.row_text.specs.LineFaults.{BeginsWithLinesOf, BeginsWithWholeOf, line_count}

-- the parts of lines that are the same
pub same_lines : (x y : List ℕ) (xs ys : List (List ℕ)) → x ∷ xs ≡ y ∷ ys → (x ≡ y) × (xs ≡ ys)
same_lines x y xs ys e = (cc, cc)

-- ---- how many lines

pub line_count-append : (a b : List ℕ) → line_count (a ++ b) ≡ line_count a + line_count b
line_count-append a b = sum_by-append (λ x. cond (eqb x 10) 1 0) a b

-- a line with LF
abbrev pub HasOneEnd : List ℕ → Type 0
HasOneEnd line = line_count line ≡ 1

pub line_count-lines : (lines : List (List ℕ)) → AllByRecursion HasOneEnd lines → line_count (concat lines) ≡ length lines
line_count-lines [] each = refl
line_count-lines (line ∷ lines) each = omega (arith, line_count-append line (concat lines), each.0, line_count-lines lines each.1)

pub line_count-cons : (b : ℕ) (bs : List ℕ) → line_count (b ∷ bs) ≡ cond (eqb b 10) 1 0 + line_count bs
line_count-cons b bs = sum_by-cons (λ x. cond (eqb x 10) 1 0) b bs

abbrev pub has_line : List ℕ → Bool
has_line text = list_any (λ b. eqb b 10) text

pub line_there : (text : List ℕ) → has_line text ≡ true → 1 ≤ line_count text
line_there [] h = absurd cc
line_there (b ∷ bs) h = by_byte (line_there bs) (eqb b 10) (line_count-cons b bs) h
  where
    by_byte : (has_line bs ≡ true → 1 ≤ line_count bs) → (is : Bool) → line_count (b ∷ bs) ≡ cond is 1 0 + line_count bs → is || has_line bs ≡ true → 1 ≤ line_count (b ∷ bs)
    by_byte later true count h = omega (arith, count)
    by_byte later false count h = omega (arith, count, later h)

pub no_line : (text : List ℕ) → has_line text ≡ false → line_count text ≡ 0
no_line [] h = refl
no_line (b ∷ bs) h = by_byte (no_line bs) (eqb b 10) (line_count-cons b bs) h
  where
    by_byte : (has_line bs ≡ false → line_count bs ≡ 0) → (is : Bool) → line_count (b ∷ bs) ≡ cond is 1 0 + line_count bs → is || has_line bs ≡ false → line_count (b ∷ bs) ≡ 0
    by_byte later true count h = absurd cc
    by_byte later false count h = omega (arith, count, later h)

-- ---- where the reading stops, in a text whose kind is T from here on

-- the line that begins `left` is not allowed behind these
pub record Fails (T : List (List ℕ) → Type 0) (text : List ℕ) : Type 0 where
  pub front : List (List ℕ)
  pub left : List ℕ
  pub each : AllByRecursion HasOneEnd front
  pub text_is : text ≡ concat front ++ left
  pub before : BeginsWithLinesOf T (length front) text
  pub bad : ¬ BeginsWithLinesOf T (suc (length front)) text
  pub not_whole : ¬ BeginsWithWholeOf T text

-- a byte follows the last line
pub record GoesPast (T : List (List ℕ) → Type 0) (text : List ℕ) : Type 0 where
  pub lines : List (List ℕ)
  pub byte : ℕ
  pub rest : List ℕ
  pub is : T lines
  pub text_is : text ≡ concat lines ++ byte ∷ rest
  pub bad : ¬ BeginsWithLinesOf T (suc (length lines)) text

-- this fault says so, where the text begins with line `number`
pub record IsFaultOf {F : Type 0} (bad_line : ℕ → F) (cut : F) (number : ℕ) (T : List (List ℕ) → Type 0) (text : List ℕ) (fault : F) : Type 0 where
  pub stops : ((f : Fails T text) × (fault ≡ cond (has_line f.left) (bad_line (number + length f.front)) cut))
      ⊎ ((g : GoesPast T text) × (fault ≡ bad_line (number + length g.lines)))

-- no line is allowed here
pub record NoLine (T : List (List ℕ) → Type 0) (text : List ℕ) : Type 0 where
  pub lines : List (List ℕ)
  pub is : T lines
  pub some : T [] → ⊥
  pub none : (first : List ℕ) (others : List (List ℕ)) (rest : List ℕ) → T (first ∷ others) → text ≡ first ++ rest → ⊥

no_first : {T : List (List ℕ) → Type 0} {text : List ℕ} → NoLine T text → (lines : List (List ℕ)) (n : ℕ) (rest : List ℕ) → T lines → text ≡ concat (take (suc n) lines) ++ rest → ⊥
no_first stop [] n rest is begins = stop.some is
no_first stop (first ∷ others) n rest is begins = stop.none first others (concat (take n others) ++ rest) is (begins ∙ append_assoc first (concat (take n others)) rest)

no_whole : {T : List (List ℕ) → Type 0} {text : List ℕ} → NoLine T text → (lines : List (List ℕ)) (rest : List ℕ) → T lines → text ≡ concat lines ++ rest → ⊥
no_whole stop [] rest is begins = stop.some is
no_whole stop (first ∷ others) rest is begins = stop.none first others (concat others ++ rest) is (begins ∙ append_assoc first (concat others) rest)

fails_here : {T : List (List ℕ) → Type 0} (text : List ℕ) → NoLine T text → Fails T text
fails_here text stop = record {
  front = [];
  left = text;
  each = tt;
  text_is = refl;
  before = record { lines = stop.lines; is = stop.is; enough = omega arith; rest = text; begins = refl };
  bad = λ b. no_first stop b.lines 0 b.rest b.is b.begins;
  not_whole = λ w. no_whole stop w.lines w.rest w.is w.begins;
}

-- the last line is here, and a byte behind it
pub record LastLine (T : List (List ℕ) → Type 0) (text line : List ℕ) (byte : ℕ) (rest : List ℕ) : Type 0 where
  pub is : T (line ∷ [])
  pub text_is : text ≡ line ++ byte ∷ rest
  pub last : (first second : List ℕ) (others : List (List ℕ)) (rest : List ℕ) → T (first ∷ second ∷ others) → text ≡ first ++ rest → ⊥

no_second : {T : List (List ℕ) → Type 0} {text line : List ℕ} {byte : ℕ} {after : List ℕ} → LastLine T text line byte after
    → (lines : List (List ℕ)) (rest : List ℕ) → T lines → 2 ≤ length lines → text ≡ concat (take 2 lines) ++ rest → ⊥
no_second l [] rest is enough begins = absurd (omega (arith, enough))
no_second l (first ∷ []) rest is enough begins = absurd (omega (arith, enough))
no_second l (first ∷ second ∷ others) rest is enough begins =
    l.last first second others (concat (take 1 (second ∷ others)) ++ rest) is (begins ∙ append_assoc first (concat (take 1 (second ∷ others))) rest)

goes_past_here : {T : List (List ℕ) → Type 0} (text line : List ℕ) (byte : ℕ) (rest : List ℕ) → LastLine T text line byte rest → GoesPast T text
goes_past_here text line byte rest l = record {
  lines = line ∷ [];
  byte = byte;
  rest = rest;
  is = l.is;
  text_is = l.text_is ∙ ap (λ (t : List ℕ). t ++ byte ∷ rest) (sym (append-nil line));
  bad = λ b. no_second l b.lines b.rest b.is b.enough b.begins;
}

pub fails_at : {F : Type 0} (bad_line : ℕ → F) (cut : F) (number : ℕ) {T : List (List ℕ) → Type 0} (text : List ℕ) (fault : F)
    → NoLine T text → fault ≡ cond (has_line text) (bad_line number) cut → IsFaultOf bad_line cut number T text fault
unfolding fails_here
fails_at bad_line cut number text fault stop e =
    let same : number ≡ number + 0 = omega arith in
    record { stops = inl (fails_here text stop, e ∙ ap (λ (n : ℕ). cond (has_line text) (bad_line n) cut) same) }

pub past_at : {F : Type 0} (bad_line : ℕ → F) (cut : F) (number : ℕ) {T : List (List ℕ) → Type 0} (text line : List ℕ) (byte : ℕ) (rest : List ℕ) (fault : F)
    → LastLine T text line byte rest → fault ≡ bad_line (number + 1) → IsFaultOf bad_line cut number T text fault
unfolding goes_past_here
past_at bad_line cut number text line byte rest fault l e = record { stops = inr (goes_past_here text line byte rest l, e) }

-- ---- a line that is allowed, and behind it a text of the kind U

pub record Steps (T U : List (List ℕ) → Type 0) (text line next : List ℕ) : Type 0 where
  pub one : HasOneEnd line
  pub text_is : text ≡ line ++ next
  pub more : (others : List (List ℕ)) → U others → T (line ∷ others)
  pub some : T [] → ⊥
  pub only : (first : List ℕ) (others : List (List ℕ)) (rest : List ℕ) → T (first ∷ others) → text ≡ first ++ rest → U others × (rest ≡ next)

next_begins : {T U : List (List ℕ) → Type 0} {text line next : List ℕ} → Steps T U text line next
    → (n : ℕ) (lines : List (List ℕ)) (rest : List ℕ) → T lines → suc n ≤ length lines → text ≡ concat (take (suc n) lines) ++ rest → BeginsWithLinesOf U n next
next_begins s n [] rest is enough begins = absurd (s.some is)
next_begins s n (first ∷ others) rest is enough begins =
    let found = s.only first others (concat (take n others) ++ rest) is (begins ∙ append_assoc first (concat (take n others)) rest) in
    record { lines = others; is = found.0; enough = omega (arith, enough); rest = rest; begins = sym found.1 }

whole_behind : {T U : List (List ℕ) → Type 0} {text line next : List ℕ} → Steps T U text line next
    → (lines : List (List ℕ)) (rest : List ℕ) → T lines → text ≡ concat lines ++ rest → BeginsWithWholeOf U next
whole_behind s [] rest is begins = absurd (s.some is)
whole_behind s (first ∷ others) rest is begins =
    let found = s.only first others (concat others ++ rest) is (begins ∙ append_assoc first (concat others) rest) in
    record { lines = others; is = found.0; rest = rest; begins = sym found.1 }

step_fails : {T U : List (List ℕ) → Type 0} {text line next : List ℕ} → Steps T U text line next → Fails U next → Fails T text
step_fails {line = line} s f = record {
  front = line ∷ f.front;
  left = f.left;
  each = (s.one, f.each);
  text_is = s.text_is ∙ ap (λ (t : List ℕ). line ++ t) f.text_is ∙ sym (append_assoc line (concat f.front) f.left);
  before =
      let b = f.before in
      record {
        lines = line ∷ b.lines;
        is = s.more b.lines b.is;
        enough = omega (arith, b.enough);
        rest = b.rest;
        begins = s.text_is ∙ ap (λ (t : List ℕ). line ++ t) b.begins ∙ sym (append_assoc line (concat (take (length f.front) b.lines)) b.rest);
      };
  bad = λ b. f.bad (next_begins s (suc (length f.front)) b.lines b.rest b.is b.enough b.begins);
  not_whole = λ w. f.not_whole (whole_behind s w.lines w.rest w.is w.begins);
}

step_goes_past : {T U : List (List ℕ) → Type 0} {text line next : List ℕ} → Steps T U text line next → GoesPast U next → GoesPast T text
step_goes_past {line = line} s g = record {
  lines = line ∷ g.lines;
  byte = g.byte;
  rest = g.rest;
  is = s.more g.lines g.is;
  text_is = s.text_is ∙ ap (λ (t : List ℕ). line ++ t) g.text_is ∙ sym (append_assoc line (concat g.lines) (g.byte ∷ g.rest));
  bad = λ b. g.bad (next_begins s (suc (length g.lines)) b.lines b.rest b.is b.enough b.begins);
}

pub step : {F : Type 0} (bad_line : ℕ → F) (cut : F) (number : ℕ) {T U : List (List ℕ) → Type 0} {text line next : List ℕ} (fault : F)
    → Steps T U text line next → IsFaultOf bad_line cut (number + 1) U next fault → IsFaultOf bad_line cut number T text fault
unfolding step_fails step_goes_past
step bad_line cut number {T = T} {U = U} {text = text} {line = line} {next = next} fault s is = by_kind is.stops
  where
    moved : (k : ℕ) → number + 1 + k ≡ number + suc k
    moved k = omega arith

    by_kind : ((f : Fails U next) × (fault ≡ cond (has_line f.left) (bad_line (number + 1 + length f.front)) cut)) ⊎ ((g : GoesPast U next) × (fault ≡ bad_line (number + 1 + length g.lines)))
        → IsFaultOf bad_line cut number T text fault
    by_kind (inl (f, e)) = record { stops = inl (step_fails s f, e ∙ ap (λ (n : ℕ). cond (has_line f.left) (bad_line n) cut) (moved (length f.front))) }
    by_kind (inr (g, e)) = record { stops = inr (step_goes_past s g, e ∙ ap bad_line (moved (length g.lines))) }

-- ---- the same text, of which less may come

pub record Narrows (T U : List (List ℕ) → Type 0) (text : List ℕ) : Type 0 where
  pub more : (lines : List (List ℕ)) → U lines → T lines
  pub some : T [] → ⊥
  pub only : (first : List ℕ) (others : List (List ℕ)) (rest : List ℕ) → T (first ∷ others) → text ≡ first ++ rest → U (first ∷ others)

narrower : {T U : List (List ℕ) → Type 0} {text : List ℕ} → Narrows T U text → (n : ℕ) (lines : List (List ℕ)) (rest : List ℕ) → T lines → suc n ≤ length lines → text ≡ concat (take (suc n) lines) ++ rest → BeginsWithLinesOf U (suc n) text
narrower s n [] rest is enough begins = absurd (s.some is)
narrower s n (first ∷ others) rest is enough begins = record {
  lines = first ∷ others;
  is = s.only first others (concat (take n others) ++ rest) is (begins ∙ append_assoc first (concat (take n others)) rest);
  enough = enough;
  rest = rest;
  begins = begins;
}

narrower_whole : {T U : List (List ℕ) → Type 0} {text : List ℕ} → Narrows T U text → (lines : List (List ℕ)) (rest : List ℕ) → T lines → text ≡ concat lines ++ rest → BeginsWithWholeOf U text
narrower_whole s [] rest is begins = absurd (s.some is)
narrower_whole s (first ∷ others) rest is begins =
    record { lines = first ∷ others; is = s.only first others (concat others ++ rest) is (begins ∙ append_assoc first (concat others) rest); rest = rest; begins = begins }

pub narrow : {F : Type 0} (bad_line : ℕ → F) (cut : F) (number : ℕ) {T U : List (List ℕ) → Type 0} {text : List ℕ} (fault : F)
    → Narrows T U text → IsFaultOf bad_line cut number U text fault → IsFaultOf bad_line cut number T text fault
narrow bad_line cut number {T = T} {U = U} {text = text} fault s is = by_kind is.stops
  where
    fails : Fails U text → Fails T text
    fails f = record {
      front = f.front;
      left = f.left;
      each = f.each;
      text_is = f.text_is;
      before = let b = f.before in record { lines = b.lines; is = s.more b.lines b.is; enough = b.enough; rest = b.rest; begins = b.begins };
      bad = λ b. f.bad (narrower s (length f.front) b.lines b.rest b.is b.enough b.begins);
      not_whole = λ w. f.not_whole (narrower_whole s w.lines w.rest w.is w.begins);
    }

    by_kind : ((f : Fails U text) × (fault ≡ cond (has_line f.left) (bad_line (number + length f.front)) cut)) ⊎ ((g : GoesPast U text) × (fault ≡ bad_line (number + length g.lines)))
        → IsFaultOf bad_line cut number T text fault
    by_kind (inl (f, e)) = record { stops = inl (fails f, e) }
    by_kind (inr (g, e)) = record {
      stops = inr (
        record { lines = g.lines; byte = g.byte; rest = g.rest; is = s.more g.lines g.is; text_is = g.text_is; bad = λ b. g.bad (narrower s (length g.lines) b.lines b.rest b.is b.enough b.begins) },
        e,
      );
    }
