-- Traces and a last part as a list of parts: what was taken is what was put.
use Rattle.std.proofs.Common.{◌≡◌, List, [], ◌∷◌, ◌++◌, refl, sym, ap, subst, ◌∙◌, ◌⊎◌, inl, inr, rules}
use Rattle.trace_reader.specs.declared.trace.Trace.{Trace}
use Rattle.live_pipeline.specs.Pieces.{IsLast, AreWholeParts, part_of, parts_of, whole_of}
use Rattle.live_pipeline.specs.declared.part.Part.{Part}
use Rattle.live_pipeline.specs.declared.part.Part.TheVariants as parts

pub parts_of-append : (front back : List Trace) → parts_of (front ++ back) ≡ parts_of front ++ parts_of back
parts_of-append [] back = refl
parts_of-append (trace ∷ front) back = ap (λ l. part_of trace ∷ l) (parts_of-append front back)

abbrev head_or : Part → List Part → Part
head_or d [] = d
head_or d (x ∷ xs) = x

abbrev tail_of : List Part → List Part
tail_of [] = []
tail_of (x ∷ xs) = xs

abbrev trace_or : Trace → Part → Trace
trace_or d (parts.Trace t) = t
trace_or d parts.End = d
trace_or d (parts.Fault f) = d
trace_or d parts.ReadFailed = d
trace_or d parts.NoMemory = d

-- of two rows of traces with a last part, one is a prefix of the other only where they are the same
pub same_whole : (ts us : List Trace) (l m : Part) (rest : List Part) → IsLast l → IsLast m → whole_of ts l ≡ whole_of us m ++ rest → (ts ≡ us) × (l ≡ m)
same_whole [] [] l m rest is_l is_m e = (refl, ap (head_or l) e)
same_whole [] (u ∷ us) l m rest is_l is_m e = absurd (subst IsLast (ap (head_or l) e) is_l)
same_whole (t ∷ ts) [] l m rest is_l is_m e = absurd (subst IsLast (sym (ap (head_or m) e)) is_m)
same_whole (t ∷ ts) (u ∷ us) l m rest is_l is_m e =
    let more = same_whole ts us l m rest is_l is_m (ap tail_of e) in
    let first : t ≡ u = ap (λ x. trace_or t (head_or l x)) e in
    (ap (λ x. x ∷ ts) first ∙ ap (λ x. u ∷ x) more.0, more.1)

-- nothing has no such row as a prefix
no_whole : (us : List Trace) (m : Part) (rest : List Part) → [] ≡ whole_of us m ++ rest → ⊥
no_whole [] m rest e = absurd (search rules)
no_whole (u ∷ us) m rest e = absurd (search rules)

-- a front of a row that ends with a last part is the whole row
pub front_is_whole : (put taken rest : List Part) → (put ≡ []) ⊎ AreWholeParts put → AreWholeParts taken → put ≡ taken ++ rest → taken ≡ put
front_is_whole put taken rest (inl none) t e = absurd (no_whole t.0 t.1 rest (sym none ∙ e ∙ ap (λ l. l ++ rest) t.3))
front_is_whole put taken rest (inr p) t e =
    let same = same_whole p.0 t.0 p.1 t.1 rest p.2 t.2 (sym p.3 ∙ e ∙ ap (λ l. l ++ rest) t.3) in
    t.3 ∙ sym (ap (λ ts. whole_of ts t.1) same.0) ∙ sym (ap (λ l. whole_of p.0 l) same.1) ∙ sym p.3
