-- Lines that are written one after the other.
use Rattle.std.proofs.Common.{◌≡◌, ℕ, ◌+◌, ◌<◌, List, [], ◌∷◌, ◌++◌, Option, refl, sym, ap, ◌∙◌, subst, arith, length, map, take, get_or, codes}
use Rattle.std.specs.List.{concat}
use Rattle.decimal_text.specs.Number.{decimal}
use Rattle.std.proofs.lemmas.List.{append_assoc, append-nil, length-append, map-append, take-take, take_all, take_at, take_more}
use Rattle.road_network.specs.Net.{Net}
use Rattle.match_text.proofs.Written.{concat-append}
use Rattle.online_commit.specs.declared.items.Item.{Item}
use Rattle.match_text.specs.MatchText.{end_line}
use Rattle.trace_sessions.specs.FollowText.{finish_line, fix_line}
use Rattle.trace_sessions.specs.inside.StreamingInside.{rest_lines, step_lines, KeepsFront}
use Rattle.trace_sessions.specs.ItemText.{AddsPrefix, item_line, item_lines, lead_of}

-- the lines of one item more
pub lines_more : (n : Net) (id : Option ℕ) (items : List Item) (i : ℕ) (x : Item) (old before lead new : List ℕ) → i < length items → x ≡ get_or items i x
    → before ≡ old ++ concat (item_lines n id (take i items)) → lead ≡ before ++ lead_of id → new ≡ lead ++ item_line n x
    → new ≡ old ++ concat (item_lines n id (take (i + 1) items))
lines_more n id items i x old before lead new lt is first second third =
    let line : Item → List ℕ = λ item. lead_of id ++ item_line n item in
    let lines = concat (item_lines n id (take i items)) in
    let all : concat (item_lines n id (take (i + 1) items)) ≡ lines ++ line x =
    ap (λ xs. concat (map line xs)) (take_more items i x lt ∙ ap (λ y. take i items ++ y ∷ []) (sym is))
    ∙ ap concat (map-append line (take i items) (x ∷ []))
    ∙ concat-append (map line (take i items)) (line x ∷ [])
    ∙ ap (λ t. lines ++ t) (append-nil (line x)) in
    third ∙ ap (λ t. t ++ item_line n x) (second ∙ ap (λ t. t ++ lead_of id) first)
    ∙ append_assoc (old ++ lines) (lead_of id) (item_line n x)
    ∙ append_assoc old lines (line x)
    ∙ ap (λ t. old ++ t) (sym all)

-- the lines at the end
pub rest-written : (n : Net) (lead : Option ℕ) (id : ℕ) (items : List Item) (t0 t1 t2 t3 t4 t5 : List ℕ) → t1 ≡ t0 ++ lead_of lead → t2 ≡ t1 ++ finish_line → t3 ≡ t2 ++ concat (item_lines n lead items)
    → t4 ≡ t3 ++ lead_of lead → t5 ≡ t4 ++ end_line id → t5 ≡ t0 ++ concat (rest_lines n lead id items)
rest-written n lead id items t0 t1 t2 t3 t4 t5 one two three four five =
    let own = item_lines n lead items in
    let first = lead_of lead ++ finish_line in
    let last = lead_of lead ++ end_line id in
    let front : t3 ≡ t0 ++ (first ++ concat own) =
    three ∙ ap (λ t. t ++ concat own) (two ∙ ap (λ t. t ++ finish_line) one ∙ append_assoc t0 (lead_of lead) finish_line) ∙ append_assoc t0 first (concat own) in
    five ∙ ap (λ t. t ++ end_line id) four ∙ append_assoc t3 (lead_of lead) (end_line id)
    ∙ ap (λ t. t ++ last) front
    ∙ append_assoc t0 (first ++ concat own) last
    ∙ ap (λ t. t0 ++ t)
    (append_assoc first (concat own) last
    ∙ ap (λ t. first ++ (concat own ++ t)) (sym (append-nil last))
    ∙ ap (λ t. first ++ t) (sym (concat-append own (last ∷ []))))

-- ---- what stood stays

pub stays-itself : (text : List ℕ) → KeepsFront text text
stays-itself text = take_all (length text) text (omega arith)

-- behind what was appended
pub stays-behind : (old lines mid new : List ℕ) → mid ≡ old ++ lines → KeepsFront mid new → KeepsFront old new
stays-behind old lines mid new written stays =
    let count : length mid ≡ length old + length lines = ap length written ∙ length-append old lines in
    sym (take-take (length old) (length mid) new (omega (arith, count))) ∙ ap (take (length old)) (stays ∙ written) ∙ take_at old lines (length old) refl

-- ---- a prefix of a text was written

pub adds-none : (old more new : List ℕ) → new ≡ old → AddsPrefix old more new
adds-none old more new same = record { front = []; rest = more; is = refl; written = same ∙ sym (append-nil old) }

-- more was to follow
pub adds-first : (old a b new : List ℕ) → AddsPrefix old a new → AddsPrefix old (a ++ b) new
adds-first old a b new h = record {
  front = h.front;
  rest = h.rest ++ b;
  is = ap (λ t. t ++ b) h.is ∙ append_assoc h.front h.rest b;
  written = h.written;
}

-- behind what was written whole
pub adds-then : (old a b mid new : List ℕ) → mid ≡ old ++ a → AddsPrefix mid b new → AddsPrefix old (a ++ b) new
adds-then old a b mid new whole h = record {
  front = a ++ h.front;
  rest = h.rest;
  is = ap (λ t. a ++ t) h.is ∙ sym (append_assoc a h.front h.rest);
  written = h.written ∙ ap (λ t. t ++ h.front) whole ∙ append_assoc old a h.front;
}

pub adds-stays : (old more new : List ℕ) → AddsPrefix old more new → KeepsFront old new
adds-stays old more new h = ap (take (length old)) h.written ∙ take_at old h.front (length old) refl

-- the line of a point is written in three parts
pub fix-begun : (point : ℕ) (old mid new : List ℕ) → mid ≡ old ++ codes "fix " → new ≡ mid → AddsPrefix old (fix_line point) new
fix-begun point old mid new one same = adds-then old (codes "fix ") (decimal point ++ 10 ∷ []) mid new one (adds-none mid (decimal point ++ 10 ∷ []) new same)

pub fix-numbered : (point : ℕ) (old mid next new : List ℕ) → mid ≡ old ++ codes "fix " → next ≡ mid ++ decimal point → new ≡ next → AddsPrefix old (fix_line point) new
fix-numbered point old mid next new one two same =
    adds-then old (codes "fix ") (decimal point ++ 10 ∷ []) mid new one (adds-then mid (decimal point) (10 ∷ []) next new two (adds-none next (10 ∷ []) new same))

-- so are the lines of a point, and those at the end
pub step-begun : (n : Net) (lead : Option ℕ) (point : ℕ) (items : List Item) (t0 t1 t2 : List ℕ) → t1 ≡ t0 ++ lead_of lead → AddsPrefix t1 (fix_line point) t2
    → AddsPrefix t0 (concat (step_lines n lead point items)) t2
step-begun n lead point items t0 t1 t2 one h =
    adds-first t0 (lead_of lead ++ fix_line point) (concat (item_lines n lead items)) t2 (adds-then t0 (lead_of lead) (fix_line point) t1 t2 one h)

pub step-fixed : (n : Net) (lead : Option ℕ) (point : ℕ) (items : List Item) (t0 t1 t2 t3 : List ℕ) → t1 ≡ t0 ++ lead_of lead → t2 ≡ t1 ++ fix_line point → t3 ≡ t2
    → AddsPrefix t0 (concat (step_lines n lead point items)) t3
step-fixed n lead point items t0 t1 t2 t3 one two same =
    let whole : t2 ≡ t0 ++ (lead_of lead ++ fix_line point) = two ∙ ap (λ t. t ++ fix_line point) one ∙ append_assoc t0 (lead_of lead) (fix_line point) in
    adds-then t0 (lead_of lead ++ fix_line point) (concat (item_lines n lead items)) t2 t3 whole (adds-none t2 (concat (item_lines n lead items)) t3 same)

-- the lines at the end, of which those before the last were written
rest-parts : (n : Net) (lead : Option ℕ) (id : ℕ) (items : List Item)
    → concat (rest_lines n lead id items) ≡ (lead_of lead ++ finish_line) ++ (concat (item_lines n lead items) ++ (lead_of lead ++ end_line id))
rest-parts n lead id items =
    ap (λ t. (lead_of lead ++ finish_line) ++ t) (concat-append (item_lines n lead items) ((lead_of lead ++ end_line id) ∷ []) ∙ ap (λ t. concat (item_lines n lead items) ++ t) (append-nil (lead_of lead ++ end_line id)))

pub rest-led-only : (n : Net) (lead : Option ℕ) (id : ℕ) (items : List Item) (t0 t1 t2 : List ℕ) → t1 ≡ t0 ++ lead_of lead → t2 ≡ t1 → AddsPrefix t0 (concat (rest_lines n lead id items)) t2
rest-led-only n lead id items t0 t1 t2 one same =
    adds-first t0 (lead_of lead ++ finish_line) (concat (item_lines n lead items ++ (lead_of lead ++ end_line id) ∷ [])) t2
    (adds-then t0 (lead_of lead) finish_line t1 t2 one (adds-none t1 finish_line t2 same))

pub rest-finished : (n : Net) (lead : Option ℕ) (id : ℕ) (items : List Item) (t0 t1 t2 t3 : List ℕ) → t1 ≡ t0 ++ lead_of lead → t2 ≡ t1 ++ finish_line → t3 ≡ t2
    → AddsPrefix t0 (concat (rest_lines n lead id items)) t3
rest-finished n lead id items t0 t1 t2 t3 one two same =
    let more = concat (item_lines n lead items ++ (lead_of lead ++ end_line id) ∷ []) in
    let whole : t2 ≡ t0 ++ (lead_of lead ++ finish_line) = two ∙ ap (λ t. t ++ finish_line) one ∙ append_assoc t0 (lead_of lead) finish_line in
    adds-then t0 (lead_of lead ++ finish_line) more t2 t3 whole (adds-none t2 more t3 same)

pub rest-listed : (n : Net) (lead : Option ℕ) (id : ℕ) (items : List Item) (t0 t1 t2 t3 t4 : List ℕ) → t1 ≡ t0 ++ lead_of lead → t2 ≡ t1 ++ finish_line → t3 ≡ t2 ++ concat (item_lines n lead items)
    → AddsPrefix t3 (lead_of lead ++ end_line id) t4 → AddsPrefix t0 (concat (rest_lines n lead id items)) t4
rest-listed n lead id items t0 t1 t2 t3 t4 one two three h =
    let own = concat (item_lines n lead items) in
    let whole : t2 ≡ t0 ++ (lead_of lead ++ finish_line) = two ∙ ap (λ t. t ++ finish_line) one ∙ append_assoc t0 (lead_of lead) finish_line in
    subst (λ more. AddsPrefix t0 more t4) (sym (rest-parts n lead id items))
    (adds-then t0 (lead_of lead ++ finish_line) (own ++ (lead_of lead ++ end_line id)) t2 t4 whole (adds-then t2 own (lead_of lead ++ end_line id) t3 t4 three h))

pub led-only : (lead : Option ℕ) (line t0 t1 t2 : List ℕ) → t1 ≡ t0 ++ lead_of lead → t2 ≡ t1 → AddsPrefix t0 (lead_of lead ++ line) t2
led-only lead line t0 t1 t2 one same = adds-then t0 (lead_of lead) line t1 t2 one (adds-none t1 line t2 same)
