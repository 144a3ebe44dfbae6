-- A line that is read is the line that was written, and what was written is read again.
use Rattle.std.proofs.Common.{◌≡◌, ℕ, ◌-◌, ◌^◌, ◌<◌, Bool, true, false, cond, not, ◌||◌, eqb, eq-eqb, List, [], ◌∷◌, ◌++◌, Option, Some, None, is_some, refl, sym, ap, subst, ◌∙◌, append_assoc, arith}
use Rattle.std.specs.Prelude.{codes}
use Rattle.std.proofs.lemmas.Bool.{eqb-true}
use Rattle.std.proofs.lemmas.Option.{some_pair_parts, same_Some}
use Rattle.decimal_text.specs.Number.{decimal}
use Rattle.match_text.specs.declared.matched.Label.TheVariants.{Missing, On}
use Rattle.match_text.specs.declared.place.Line.{Line}
use Rattle.match_text.specs.declared.place.Line.TheVariants.{Point, End}
use Rattle.match_text.specs.declared.place.Place.{Place}
use Rattle.match_text.specs.Grammar.{IsAllowed, text_at}
use Rattle.match_text.specs.MatchText.{trace_line, label_line, end_line}
use Rattle.match_text.specs.Reading.{◌>>=◌, after_bytes, number_after, most32, trace_at, end_at, numbered_at, none_at, label_at}
use Rattle.match_text.specs.PieceHead.{head_at, Head}
use Rattle.match_text.proofs.Fields.{EndsDigits, bind_some, bind_found, test_passed, after_takes, number_after_takes, number_after_again}

abbrev lf : List ℕ
lf = 10 ∷ []

fits32 : most32 < 2 ^ 64
fits32 = omega arith

fits64 : 2 ^ 64 - 1 < 2 ^ 64
fits64 = omega arith

-- ---- the trace line

trace_text : (id : ℕ) (rest : List ℕ) → trace_line id ++ rest ≡ codes "trace " ++ (decimal id ++ (lf ++ rest))
trace_text id rest = simp append_assoc

pub trace_takes : (text : List ℕ) (id : ℕ) (rest : List ℕ) → trace_at text ≡ Some (id, rest) → (text ≡ trace_line id ++ rest) × (id < 2 ^ 32)
unfolding trace_at
trace_takes text id rest e =
    let a = bind_found (number_after (codes "trace ") most32 text) (λ n. after_bytes lf n.1 >>= λ r. Some (n.0, r)) (id, rest) e in
    let b = bind_found (after_bytes lf a.0.1) (λ r. Some (a.0.0, r)) (id, rest) a.2 in
    let parts = some_pair_parts a.0.0 id b.0 rest b.2 in
    let number = number_after_takes (codes "trace ") most32 a.0.0 text a.0.1 fits32 a.1 in
    let end = after_takes lf a.0.1 b.0 b.1 in
    let whole : text ≡ trace_line a.0.0 ++ b.0 = number.0 ∙ ap (λ (t : List ℕ). codes "trace " ++ (decimal a.0.0 ++ t)) end ∙ sym (trace_text a.0.0 b.0) in
    (whole ∙ ap (λ (p : ℕ × List ℕ). trace_line p.0 ++ p.1) (λ i. (parts.0 i, parts.1 i)), subst (λ (n : ℕ). n < 2 ^ 32) parts.0 (omega (arith, number.1)))

pub trace_again : (id : ℕ) (rest : List ℕ) → id < 2 ^ 32 → trace_at (trace_line id ++ rest) ≡ Some (id, rest)
unfolding trace_at
trace_again id rest small =
    ap trace_at (trace_text id rest)
    ∙ bind_some (number_after (codes "trace ") most32 (codes "trace " ++ (decimal id ++ (lf ++ rest)))) (λ n. after_bytes lf n.1 >>= λ r. Some (n.0, r)) (id, lf ++ rest)
    (number_after_again (codes "trace ") most32 id (lf ++ rest) (omega arith) fits32 refl)

-- ---- the end line

end_text : (id : ℕ) (rest : List ℕ) → end_line id ++ rest ≡ codes "end " ++ (decimal id ++ (lf ++ rest))
end_text id rest = simp append_assoc

-- neither another id nor a point that waits
free : (b c : Bool) {A : Type 0} (r : Option A) (y : A) → cond (not b || c) None r ≡ Some y → (b ≡ true) × (c ≡ false) × (r ≡ Some y)
free true true r y e = absurd cc
free true false r y e = (refl, refl, e)
free false c r y e = absurd cc

is_some-false : {A : Type 0} (o : Option A) → is_some o ≡ false → o ≡ None
is_some-false None h = refl
is_some-false (Some x) h = absurd cc

-- what was read of a line, and that it may stand there
pub record Takes (place : Place) (text : List ℕ) (line : Line) (rest : List ℕ) : Type 0 where
  pub allowed : IsAllowed place line
  pub parts : text ≡ text_at place line ++ rest

takes_is : (place : Place) (text : List ℕ) (line line' : Line) (rest rest' : List ℕ) → (line ≡ line') × (rest ≡ rest') → Takes place text line rest → Takes place text line' rest'
takes_is place text line line' rest rest' is takes = subst (λ (x : Line × List ℕ). Takes place text x.0 x.1) (λ i. (is.0 i, is.1 i)) takes

pub end_takes : (place : Place) (text : List ℕ) (line : Line) (rest : List ℕ) → end_at place text ≡ Some (line, rest) → Takes place text line rest
unfolding end_at
end_takes place text line rest e =
    let id = place.id in
    let a = bind_found (number_after (codes "end ") most32 text) (λ n. cond (not (eqb n.0 place.id) || is_some place.waiting) None (after_bytes lf n.1 >>= λ r. Some (End, r))) (line, rest) e in
    let t = free (eqb a.0.0 id) (is_some place.waiting) (after_bytes lf a.0.1 >>= λ r. Some (End, r)) (line, rest) a.2 in
    let b = bind_found (after_bytes lf a.0.1) (λ r. Some (End, r)) (line, rest) t.2 in
    let same : a.0.0 ≡ id = eqb-true a.0.0 id t.0 in
    let number = number_after_takes (codes "end ") most32 a.0.0 text a.0.1 fits32 a.1 in
    let parts : text ≡ end_line id ++ b.0 =
    number.0 ∙ ap (λ (n : ℕ). codes "end " ++ (decimal n ++ a.0.1)) same ∙ ap (λ (t : List ℕ). codes "end " ++ (decimal id ++ t)) (after_takes lf a.0.1 b.0 b.1) ∙ sym (end_text id b.0) in
    takes_is place text End line b.0 rest (some_pair_parts End line b.0 rest b.2) (record { allowed = is_some-false place.waiting t.1; parts = parts })

pub end_again : (place : Place) (rest : List ℕ) → place.id < 2 ^ 32 → place.waiting ≡ None → end_at place (end_line place.id ++ rest) ≡ Some (End, rest)
unfolding end_at
end_again place rest small free_of =
    let id = place.id in
    ap (end_at place) (end_text id rest)
    ∙ bind_some (number_after (codes "end ") most32 (codes "end " ++ (decimal id ++ (lf ++ rest)))) (λ n. cond (not (eqb n.0 place.id) || is_some place.waiting) None (after_bytes lf n.1 >>= λ r. Some (End, r))) (id, lf ++ rest)
    (number_after_again (codes "end ") most32 id (lf ++ rest) (omega arith) fits32 refl)
    ∙ rw (eq-eqb id id refl, free_of) refl

-- ---- the lines of a point

numbered_takes : (bytes : List ℕ) (next : ℕ) (text rest : List ℕ) → numbered_at bytes next text ≡ Some rest → (text ≡ bytes ++ (decimal next ++ rest)) × (next < 100000)
unfolding numbered_at
numbered_takes bytes next text rest e =
    let a = bind_found (number_after bytes 99999 text) (λ n. cond (eqb n.0 next) (Some n.1) None) rest e in
    let t = test_passed (eqb a.0.0 next) (Some a.0.1) rest a.2 in
    let same : a.0.0 ≡ next = eqb-true a.0.0 next t.0 in
    let after : a.0.1 ≡ rest = same_Some a.0.1 rest t.1 in
    let number = number_after_takes bytes 99999 a.0.0 text a.0.1 (omega arith) a.1 in
    (number.0 ∙ ap (λ (p : ℕ × List ℕ). bytes ++ (decimal p.0 ++ p.1)) (λ i. (same i, after i)), subst (λ (n : ℕ). n < 100000) same (omega (arith, number.1)))

numbered_again : (bytes : List ℕ) (next : ℕ) (rest : List ℕ) → next < 100000 → EndsDigits rest → numbered_at bytes next (bytes ++ (decimal next ++ rest)) ≡ Some rest
unfolding numbered_at
numbered_again bytes next rest small ends =
    bind_some (number_after bytes 99999 (bytes ++ (decimal next ++ rest))) (λ n. cond (eqb n.0 next) (Some n.1) None) (next, rest)
    (number_after_again bytes 99999 next rest (omega arith) (omega arith) ends)
    ∙ rw (eq-eqb next next refl) refl

none_text : (next : ℕ) (rest : List ℕ) → label_line next Missing ++ rest ≡ codes "none " ++ (decimal next ++ (lf ++ rest))
none_text next rest = simp append_assoc

pub none_takes : (place : Place) (text : List ℕ) (line : Line) (rest : List ℕ) → none_at place text ≡ Some (line, rest) → Takes place text line rest
unfolding none_at
none_takes place text line rest e =
    let next = place.next in
    let a = bind_found (numbered_at (codes "none ") next text) (λ p. cond (is_some place.waiting) None (after_bytes lf p >>= λ r. Some (Point Missing, r))) (line, rest) e in
    let t = free true (is_some place.waiting) (after_bytes lf a.0 >>= λ r. Some (Point Missing, r)) (line, rest) a.2 in
    let b = bind_found (after_bytes lf a.0) (λ r. Some (Point Missing, r)) (line, rest) t.2 in
    let number = numbered_takes (codes "none ") next text a.0 a.1 in
    let parts : text ≡ label_line next Missing ++ b.0 = number.0 ∙ ap (λ (t : List ℕ). codes "none " ++ (decimal next ++ t)) (after_takes lf a.0 b.0 b.1) ∙ sym (none_text next b.0) in
    takes_is place text (Point Missing) line b.0 rest (some_pair_parts (Point Missing) line b.0 rest b.2) (record { allowed = (number.1, is_some-false place.waiting t.1); parts = parts })

pub none_again : (place : Place) (rest : List ℕ) → IsAllowed place (Point Missing) → none_at place (label_line place.next Missing ++ rest) ≡ Some (Point Missing, rest)
unfolding none_at
none_again place rest allowed =
    let next = place.next in
    ap (none_at place) (none_text next rest)
    ∙ bind_some (numbered_at (codes "none ") next (codes "none " ++ (decimal next ++ (lf ++ rest)))) (λ p. cond (is_some place.waiting) None (after_bytes lf p >>= λ r. Some (Point Missing, r))) (lf ++ rest)
    (numbered_again (codes "none ") next (lf ++ rest) allowed.0 refl)
    ∙ rw allowed.1 refl

at_text : (next edge offset d2 : ℕ) (rest : List ℕ) → label_line next (On edge offset d2) ++ rest
    ≡ codes "at " ++ (decimal next ++ (codes " edge " ++ (decimal edge ++ (codes " offset " ++ (decimal offset ++ (codes " d2 " ++ (decimal d2 ++ (lf ++ rest))))))))
at_text next edge offset d2 rest = simp append_assoc

label_parts : (next edge offset d2 : ℕ) (text one two three four rest : List ℕ) → text ≡ codes "at " ++ (decimal next ++ one) → one ≡ codes " edge " ++ (decimal edge ++ two) → two ≡ codes " offset " ++ (decimal offset ++ three)
    → three ≡ codes " d2 " ++ (decimal d2 ++ four) → four ≡ lf ++ rest → text ≡ label_line next (On edge offset d2) ++ rest
label_parts next edge offset d2 text one two three four rest p q r s t =
    p ∙ ap (λ (x : List ℕ). codes "at " ++ (decimal next ++ x)) q
    ∙ ap (λ (x : List ℕ). codes "at " ++ (decimal next ++ (codes " edge " ++ (decimal edge ++ x)))) r
    ∙ ap (λ (x : List ℕ). codes "at " ++ (decimal next ++ (codes " edge " ++ (decimal edge ++ (codes " offset " ++ (decimal offset ++ x)))))) s
    ∙ ap (λ (x : List ℕ). codes "at " ++ (decimal next ++ (codes " edge " ++ (decimal edge ++ (codes " offset " ++ (decimal offset ++ (codes " d2 " ++ (decimal d2 ++ x)))))))) t
    ∙ sym (at_text next edge offset d2 rest)

pub label_takes : (place : Place) (text : List ℕ) (line : Line) (rest : List ℕ) → label_at place text ≡ Some (line, rest) → Takes place text line rest
unfolding label_at
label_takes place text line rest e =
    let next = place.next in
    let a = bind_found (numbered_at (codes "at ") next text) (λ p. number_after (codes " edge ") most32 p >>= λ e. number_after (codes " offset ") most32 e.1 >>= λ o. number_after (codes " d2 ") (2 ^ 64 - 1) o.1 >>= λ d. after_bytes lf d.1 >>= λ r. Some (Point (On e.0 o.0 d.0), r)) (line, rest) e in
    let b = bind_found (number_after (codes " edge ") most32 a.0) (λ e. number_after (codes " offset ") most32 e.1 >>= λ o. number_after (codes " d2 ") (2 ^ 64 - 1) o.1 >>= λ d. after_bytes lf d.1 >>= λ r. Some (Point (On e.0 o.0 d.0), r)) (line, rest) a.2 in
    let c = bind_found (number_after (codes " offset ") most32 b.0.1) (λ o. number_after (codes " d2 ") (2 ^ 64 - 1) o.1 >>= λ d. after_bytes lf d.1 >>= λ r. Some (Point (On b.0.0 o.0 d.0), r)) (line, rest) b.2 in
    let d = bind_found (number_after (codes " d2 ") (2 ^ 64 - 1) c.0.1) (λ d. after_bytes lf d.1 >>= λ r. Some (Point (On b.0.0 c.0.0 d.0), r)) (line, rest) c.2 in
    let f = bind_found (after_bytes lf d.0.1) (λ r. Some (Point (On b.0.0 c.0.0 d.0.0), r)) (line, rest) d.2 in
    let point = numbered_takes (codes "at ") next text a.0 a.1 in
    let edge = number_after_takes (codes " edge ") most32 b.0.0 a.0 b.0.1 fits32 b.1 in
    let offset = number_after_takes (codes " offset ") most32 c.0.0 b.0.1 c.0.1 fits32 c.1 in
    let d2 = number_after_takes (codes " d2 ") (2 ^ 64 - 1) d.0.0 c.0.1 d.0.1 fits64 d.1 in
    let end = after_takes lf d.0.1 f.0 f.1 in
    let parts = label_parts next b.0.0 c.0.0 d.0.0 text a.0 b.0.1 c.0.1 d.0.1 f.0 point.0 edge.0 offset.0 d2.0 end in
    takes_is place text (Point (On b.0.0 c.0.0 d.0.0)) line f.0 rest (some_pair_parts (Point (On b.0.0 c.0.0 d.0.0)) line f.0 rest f.2)
    (record { allowed = (point.1, (omega (arith, edge.1), omega (arith, offset.1), omega (arith, d2.1))); parts = parts })

pub label_again : (place : Place) (edge offset d2 : ℕ) (rest : List ℕ) → IsAllowed place (Point (On edge offset d2)) → label_at place (label_line place.next (On edge offset d2) ++ rest) ≡ Some (Point (On edge offset d2), rest)
unfolding label_at
label_again place edge offset d2 rest allowed =
    let next = place.next in
    let at_d2 = codes " d2 " ++ (decimal d2 ++ (lf ++ rest)) in
    let at_offset = codes " offset " ++ (decimal offset ++ at_d2) in
    let at_edge = codes " edge " ++ (decimal edge ++ at_offset) in
    ap (label_at place) (at_text next edge offset d2 rest)
    ∙ bind_some (numbered_at (codes "at ") next (codes "at " ++ (decimal next ++ at_edge))) (λ p. number_after (codes " edge ") most32 p >>= λ e. number_after (codes " offset ") most32 e.1 >>= λ o. number_after (codes " d2 ") (2 ^ 64 - 1) o.1 >>= λ d. after_bytes lf d.1 >>= λ r. Some (Point (On e.0 o.0 d.0), r)) at_edge
    (numbered_again (codes "at ") next at_edge allowed.0 refl)
    ∙ bind_some (number_after (codes " edge ") most32 at_edge) (λ e. number_after (codes " offset ") most32 e.1 >>= λ o. number_after (codes " d2 ") (2 ^ 64 - 1) o.1 >>= λ d. after_bytes lf d.1 >>= λ r. Some (Point (On e.0 o.0 d.0), r)) (edge, at_offset)
    (number_after_again (codes " edge ") most32 edge at_offset (omega (arith, allowed.1.0)) fits32 refl)
    ∙ bind_some (number_after (codes " offset ") most32 at_offset) (λ o. number_after (codes " d2 ") (2 ^ 64 - 1) o.1 >>= λ d. after_bytes lf d.1 >>= λ r. Some (Point (On edge o.0 d.0), r)) (offset, at_d2)
    (number_after_again (codes " offset ") most32 offset at_d2 (omega (arith, allowed.1.1)) fits32 refl)
    ∙ bind_some (number_after (codes " d2 ") (2 ^ 64 - 1) at_d2) (λ d. after_bytes lf d.1 >>= λ r. Some (Point (On edge offset d.0), r)) (d2, lf ++ rest)
    (number_after_again (codes " d2 ") (2 ^ 64 - 1) d2 (lf ++ rest) (omega (arith, allowed.1.2)) fits64 refl)

-- ---- a piece line up to the word `route`

abbrev pub head_text : ℕ → ℕ → ℕ → List ℕ → List ℕ
head_text first last cost rest = codes "piece " ++ (decimal first ++ (codes " " ++ (decimal last ++ (codes " cost " ++ (decimal cost ++ (codes " route" ++ rest))))))

pub record TakesHead (text : List ℕ) (head : Head) : Type 0 where
  pub parts : text ≡ head_text head.first head.last head.cost head.rest
  pub first : head.first < 2 ^ 32
  pub last : head.last < 2 ^ 32
  pub cost : head.cost < 2 ^ 64

abbrev some_head : Head → Option Head
some_head head = Some head

head_is : (h head : Head) → some_head h ≡ some_head head → h ≡ head
head_is h head e = cc

head_parts : (first last cost : ℕ) (text one two three rest : List ℕ) → text ≡ codes "piece " ++ (decimal first ++ one) → one ≡ codes " " ++ (decimal last ++ two) → two ≡ codes " cost " ++ (decimal cost ++ three) → three ≡ codes " route" ++ rest
    → text ≡ head_text first last cost rest
head_parts first last cost text one two three rest p q r s =
    p ∙ ap (λ (x : List ℕ). codes "piece " ++ (decimal first ++ x)) q
    ∙ ap (λ (x : List ℕ). codes "piece " ++ (decimal first ++ (codes " " ++ (decimal last ++ x)))) r
    ∙ ap (λ (x : List ℕ). codes "piece " ++ (decimal first ++ (codes " " ++ (decimal last ++ (codes " cost " ++ (decimal cost ++ x)))))) s

head_is_taken : (text : List ℕ) (h head : Head) → h ≡ head → TakesHead text h → TakesHead text head
head_is_taken text h head is takes = subst (λ (x : Head). TakesHead text x) is takes

pub head_takes : (text : List ℕ) (head : Head) → head_at text ≡ Some head → TakesHead text head
unfolding head_at
head_takes text head e =
    let a = bind_found (number_after (codes "piece ") most32 text) (λ f. number_after (codes " ") most32 f.1 >>= λ l. number_after (codes " cost ") (2 ^ 64 - 1) l.1 >>= λ c. after_bytes (codes " route") c.1 >>= λ r. some_head (record { first = f.0; last = l.0; cost = c.0; rest = r })) head e in
    let b = bind_found (number_after (codes " ") most32 a.0.1) (λ l. number_after (codes " cost ") (2 ^ 64 - 1) l.1 >>= λ c. after_bytes (codes " route") c.1 >>= λ r. some_head (record { first = a.0.0; last = l.0; cost = c.0; rest = r })) head a.2 in
    let c = bind_found (number_after (codes " cost ") (2 ^ 64 - 1) b.0.1) (λ c. after_bytes (codes " route") c.1 >>= λ r. some_head (record { first = a.0.0; last = b.0.0; cost = c.0; rest = r })) head b.2 in
    let d = bind_found (after_bytes (codes " route") c.0.1) (λ r. some_head (record { first = a.0.0; last = b.0.0; cost = c.0.0; rest = r })) head c.2 in
    let first = number_after_takes (codes "piece ") most32 a.0.0 text a.0.1 fits32 a.1 in
    let last = number_after_takes (codes " ") most32 b.0.0 a.0.1 b.0.1 fits32 b.1 in
    let cost = number_after_takes (codes " cost ") (2 ^ 64 - 1) c.0.0 b.0.1 c.0.1 fits64 c.1 in
    let end = after_takes (codes " route") c.0.1 d.0 d.1 in
    let parts = head_parts a.0.0 b.0.0 c.0.0 text a.0.1 b.0.1 c.0.1 d.0 first.0 last.0 cost.0 end in
    let made : Head = record { first = a.0.0; last = b.0.0; cost = c.0.0; rest = d.0 } in
    head_is_taken text made head (head_is made head d.2) (record { parts = parts; first = omega (arith, first.1); last = omega (arith, last.1); cost = omega (arith, cost.1) })

pub head_again : (first last cost : ℕ) (rest : List ℕ) → first < 2 ^ 32 → last < 2 ^ 32 → cost < 2 ^ 64
    → head_at (head_text first last cost rest) ≡ Some (record { first = first; last = last; cost = cost; rest = rest })
unfolding head_at
head_again first last cost rest first_fits last_fits cost_fits =
    let at_cost = codes " cost " ++ (decimal cost ++ (codes " route" ++ rest)) in
    let at_last = codes " " ++ (decimal last ++ at_cost) in
    bind_some (number_after (codes "piece ") most32 (head_text first last cost rest)) (λ f. number_after (codes " ") most32 f.1 >>= λ l. number_after (codes " cost ") (2 ^ 64 - 1) l.1 >>= λ c. after_bytes (codes " route") c.1 >>= λ r. some_head (record { first = f.0; last = l.0; cost = c.0; rest = r })) (first, at_last)
    (number_after_again (codes "piece ") most32 first at_last (omega arith) fits32 refl)
    ∙ bind_some (number_after (codes " ") most32 at_last) (λ l. number_after (codes " cost ") (2 ^ 64 - 1) l.1 >>= λ c. after_bytes (codes " route") c.1 >>= λ r. some_head (record { first = first; last = l.0; cost = c.0; rest = r })) (last, at_cost)
    (number_after_again (codes " ") most32 last at_cost (omega arith) fits32 refl)
    ∙ bind_some (number_after (codes " cost ") (2 ^ 64 - 1) at_cost) (λ c. after_bytes (codes " route") c.1 >>= λ r. some_head (record { first = first; last = last; cost = c.0; rest = r })) (cost, codes " route" ++ rest)
    (number_after_again (codes " cost ") (2 ^ 64 - 1) cost (codes " route" ++ rest) (omega arith) fits64 refl)
