-- The lines of a stream in its bytes: each has one LF, at its end.
use Rattle.std.proofs.Common.{◌≡◌, ℕ, zero, suc, ◌+◌, ◌/◌, ◌%◌, ◌^◌, ◌<◌, ◌&&◌, ◌==◌, not, Bool, true, false, cond, List, [], ◌∷◌, ◌++◌, Some, None, refl, sym, ap, ◌∙◌, arith, codes, length, map, drop, nat_eq, nat_lt}
use Rattle.std.specs.Fmt.{decimal, digit_glyph, digits, digits_onto}
use Rattle.std.specs.List.{All, concat, filter, list_all, slice_split, starts_with}
use Rattle.std.proofs.lemmas.Bool.Decides.{Decides-eqb, nat_tests}
use Rattle.std.proofs.lemmas.List.{append_assoc, append-nil, drop-append-le, length-append}
use Rattle.std.proofs.lemmas.List.Elements.{All-append, All-cons, All-head, All-nil, All-tail}
use Rattle.std.proofs.lemmas.List.Folds.{concat-append}
use Rattle.std.proofs.lemmas.List.Splits.{slice_split_at}
use Rattle.std.proofs.lemmas.Slice.Eq.{starts_is}
use Rattle.cost_model.specs.declared.params.Params.{Params}
use Rattle.road_network.specs.Net.{Net}
use Rattle.match_text.specs.declared.matched.Label.{Label}
use Rattle.match_text.specs.declared.matched.Label.TheVariants.{Missing as MissingLabel, On}
use Rattle.match_text.specs.declared.matched.Routed.{Routed}
use Rattle.match_text.specs.MatchText.{end_line, label_line, line, piece_line, trace_line, words_after}
use Rattle.match_text.specs.Reading.{number_at}
use Rattle.match_text.proofs.Fields.{number_again}
use Rattle.trace_match.specs.Match.{label_on, layer_of, routed_over}
use Rattle.trace_reader.specs.declared.trace.Fix.{Fix}
use Rattle.matching.specs.declared.parts.Layer.{Layer}
use Rattle.online_commit.specs.declared.items.Item.{Item}
use Rattle.online_commit.specs.declared.items.Item.TheVariants.{At, Missing, Closed}
use Rattle.route_rebuild.specs.Numbers.{numbers}
use Rattle.trace_sessions.specs.FollowText.{finish_line, fix_line, follow_text, handed_at, last_lines, left_of, followed_lines}
use Rattle.trace_sessions.specs.ItemText.{item_line, item_lines, lead_of}
use Rattle.trace_sessions.specs.Sessions.{Pair, fixes_of, with_fix}
use Rattle.trace_sessions.specs.StreamText.{IdsHaveFollowTexts, Point, all_lines, closing_lines, trace_first_line, fixes_among, full_id, has_room, led_by, lines_at_end, lines_led_by, lines_of_fix, stream_lines, text_led_by, with_points}
use Rattle.trace_sessions.proofs.StreamAlone.{ids_are_followed_alone, led-append}

-- ---- texts without LF

abbrev pub IsPlain : ℕ → Type 0
IsPlain b = nat_eq b 10 ≡ false

pub plain-word : (word : List ℕ) → list_all (λ b. not (nat_eq b 10)) word ≡ true → All IsPlain word
plain-word [] h = All-nil IsPlain
plain-word (b ∷ word) h = step (nat_eq b 10) refl h (plain-word word)
  where
    step : (is : Bool) → nat_eq b 10 ≡ is → not is && list_all (λ b. not (nat_eq b 10)) word ≡ true → (list_all (λ b. not (nat_eq b 10)) word ≡ true → All IsPlain word) → All IsPlain (b ∷ word)
    step true e h more = absurd cc
    step false e h more = All-cons IsPlain b word e (more h)

glyph-plain : (d : ℕ) → d < 10 → IsPlain (digit_glyph false d)
glyph-plain d low =
    let t : nat_lt d 10 ≡ true = grind (arith, nat_tests) in
    let e : digit_glyph false d ≡ 48 + d = ap (λ b. cond b (48 + d) (87 + d)) t in
    let f : nat_eq (48 + d) 10 ≡ false = grind (arith, nat_tests) in
    ap (λ b. nat_eq b 10) e ∙ f

onto-plain : (k n : ℕ) (acc : List ℕ) → All IsPlain acc → All IsPlain (digits_onto k 10 false n acc)
onto-plain zero n acc are = are
onto-plain (suc k) n acc are =
    let low : n % 10 < 10 = omega arith in
    let now = All-cons IsPlain (digit_glyph false (n % 10)) acc (glyph-plain (n % 10) low) are in
    step (n / 10 == 0) now (onto-plain k (n / 10) (digit_glyph false (n % 10) ∷ acc) now)
  where
    step : (b : Bool) → All IsPlain (digit_glyph false (n % 10) ∷ acc) → All IsPlain (digits_onto k 10 false (n / 10) (digit_glyph false (n % 10) ∷ acc))
        → All IsPlain (cond b (digit_glyph false (n % 10) ∷ acc) (digits_onto k 10 false (n / 10) (digit_glyph false (n % 10) ∷ acc)))
    step true here more = here
    step false here more = more

pub decimal-plain : (n : ℕ) → All IsPlain (decimal n)
unfolding digits
decimal-plain n = onto-plain 64 n [] (All-nil IsPlain)

-- ---- lines

pub record IsOneLine (text : List ℕ) : Type 0 where
  pub body : List ℕ
  pub plain : All IsPlain body
  pub is : text ≡ body ++ 10 ∷ []

words-line : (words : List (List ℕ)) → All (All IsPlain) words → IsOneLine (words_after words)
words-line [] are = record { body = []; plain = All-nil IsPlain; is = refl }
words-line (word ∷ words) are =
    let rest = words-line words (All-tail (All IsPlain) word words are) in
    let own = All-append IsPlain word rest.body (All-head (All IsPlain) word words are) rest.plain in
    record {
      body = 32 ∷ (word ++ rest.body);
      plain = All-cons IsPlain 32 (word ++ rest.body) refl own;
      is = ap (λ t. 32 ∷ (word ++ t)) rest.is ∙ ap (λ t. 32 ∷ t) (sym (append_assoc word rest.body (10 ∷ [])));
    }

line-after_plain : (front text : List ℕ) → All IsPlain front → IsOneLine text → IsOneLine (front ++ text)
line-after_plain front text plain one = record {
  body = front ++ one.body;
  plain = All-append IsPlain front one.body plain one.plain;
  is = ap (λ t. front ++ t) one.is ∙ sym (append_assoc front one.body (10 ∷ []));
}

one-line : (word : List ℕ) (words : List (List ℕ)) → All IsPlain word → All (All IsPlain) words → IsOneLine (line word words)
one-line word words first are = line-after_plain word (words_after words) first (words-line words are)

abbrev Words : List (List ℕ) → Type 0
Words words = All (All IsPlain) words

no-words : Words []
no-words = All-nil (All IsPlain)

and-word : (word : List ℕ) (words : List (List ℕ)) → list_all (λ b. not (nat_eq b 10)) word ≡ true → Words words → Words (word ∷ words)
and-word word words plain are = All-cons (All IsPlain) word words (plain-word word plain) are

and-number : (n : ℕ) (words : List (List ℕ)) → Words words → Words (decimal n ∷ words)
and-number n words are = All-cons (All IsPlain) (decimal n) words (decimal-plain n) are

number-words : (ns : List ℕ) → Words (map decimal ns)
number-words [] = no-words
number-words (n ∷ ns) = and-number n (map decimal ns) (number-words ns)

numbered : (word : List ℕ) (n : ℕ) → list_all (λ b. not (nat_eq b 10)) word ≡ true → IsOneLine (line word (decimal n ∷ []))
numbered word n plain = one-line word (decimal n ∷ []) (plain-word word plain) (and-number n [] no-words)

label-one : (i : ℕ) (label : Label) → IsOneLine (label_line i label)
label-one i MissingLabel = numbered (codes "none") i refl
label-one i (On edge offset d2) =
    let last = decimal d2 ∷ [] in
    let back = codes "offset" ∷ decimal offset ∷ codes "d2" ∷ last in
    let front = codes "edge" ∷ decimal edge ∷ back in
    one-line (codes "at") (decimal i ∷ front) (plain-word (codes "at") refl)
    (and-number i front (and-word (codes "edge") (decimal edge ∷ back) refl (and-number edge back
    (and-word (codes "offset") (decimal offset ∷ codes "d2" ∷ last) refl (and-number offset (codes "d2" ∷ last)
    (and-word (codes "d2") last refl (and-number d2 [] no-words)))))))

piece-one : (piece : Routed) → IsOneLine (piece_line piece)
piece-one piece =
    let route = codes "route" ∷ map decimal piece.route in
    let cost = codes "cost" ∷ decimal piece.cost ∷ route in
    one-line (codes "piece") (decimal piece.first ∷ decimal piece.last ∷ cost) (plain-word (codes "piece") refl)
    (and-number piece.first (decimal piece.last ∷ cost) (and-number piece.last cost
    (and-word (codes "cost") (decimal piece.cost ∷ route) refl (and-number piece.cost route
    (and-word (codes "route") (map decimal piece.route) refl (number-words piece.route))))))

item-one : (n : Net) (item : Item) → IsOneLine (item_line n item)
item-one n (At index candidate) = label-one index (label_on n candidate)
item-one n (Missing index) = label-one index MissingLabel
item-one n (Closed piece route) = piece-one (routed_over n piece (numbers route))

items-one : (n : Net) (items : List Item) → All IsOneLine (item_lines n None items)
items-one n [] = All-nil IsOneLine
items-one n (item ∷ items) = All-cons IsOneLine (item_line n item) (item_lines n None items) (item-one n item) (items-one n items)

-- with the id before each
pub led-one : (id : ℕ) (lines : List (List ℕ)) → All IsOneLine lines → All IsOneLine (led_by id lines)
led-one id [] are = All-nil IsOneLine
led-one id (text ∷ lines) are =
    let lead = All-append IsPlain (decimal id) (32 ∷ []) (decimal-plain id) (All-cons IsPlain 32 [] refl (All-nil IsPlain)) in
    All-cons IsOneLine (lead_of (Some id) ++ text) (led_by id lines) (line-after_plain (lead_of (Some id)) text lead (All-head IsOneLine text lines are)) (led-one id lines (All-tail IsOneLine text lines are))

-- ---- the lines of a stream

first-one : (id : ℕ) (fixes : List Fix) → All IsOneLine (trace_first_line id fixes)
first-one id [] = All-cons IsOneLine (trace_line id) [] (numbered (codes "trace") id refl) (All-nil IsOneLine)
first-one id (fix ∷ fixes) = All-nil IsOneLine

point-one : (n : Net) (p : Params) (layers : List Layer) (i : ℕ) → All IsOneLine (followed_lines n p layers i)
point-one n p layers i = All-cons IsOneLine (fix_line i) (item_lines n None (handed_at n p layers i)) (numbered (codes "fix") i refl) (items-one n (handed_at n p layers i))

pub fix-one : (n : Net) (p : Params) (id : ℕ) (fixes : List Fix) (fix : Fix) → All IsOneLine (lines_of_fix n p id fixes fix)
fix-one n p id fixes fix =
    let layers = map (layer_of n p) (fixes ++ fix ∷ []) in
    All-append IsOneLine (trace_first_line id fixes) (followed_lines n p layers (length fixes)) (first-one id fixes) (point-one n p layers (length fixes))

stream-one : (n : Net) (p : Params) (pairs : List Pair) (points : List Point) → All IsOneLine (stream_lines n p pairs points)
stream-one n p pairs [] = All-nil IsOneLine
stream-one n p pairs (x ∷ more) = step (has_room pairs x.0) (stream-one n p (with_fix pairs x.0 x.1) more)
  where
    own : List (List ℕ)
    own = led_by x.0 (lines_of_fix n p x.0 (fixes_of pairs x.0) x.1)

    rest : List (List ℕ)
    rest = stream_lines n p (with_fix pairs x.0 x.1) more

    step : (b : Bool) → All IsOneLine rest → All IsOneLine (cond b (own ++ rest) [])
    step true are = All-append IsOneLine own rest (led-one x.0 (lines_of_fix n p x.0 (fixes_of pairs x.0) x.1) (fix-one n p x.0 (fixes_of pairs x.0) x.1)) are
    step false are = All-nil IsOneLine

end-one : (n : Net) (p : Params) (pair : Pair) → All IsOneLine (lines_at_end n p pair)
end-one n p pair =
    let layers = map (layer_of n p) pair.1 in
    let last = All-cons IsOneLine finish_line (item_lines n None (left_of n p layers)) (one-line (codes "finish") [] (plain-word (codes "finish") refl) no-words) (items-one n (left_of n p layers)) in
    led-one pair.0 (last_lines n p layers ++ end_line pair.0 ∷ [])
    (All-append IsOneLine (last_lines n p layers) (end_line pair.0 ∷ []) last (All-cons IsOneLine (end_line pair.0) [] (numbered (codes "end") pair.0 refl) (All-nil IsOneLine)))

pub closing-one : (n : Net) (p : Params) (pairs : List Pair) → All IsOneLine (closing_lines n p pairs)
closing-one n p [] = All-nil IsOneLine
closing-one n p (pair ∷ pairs) = All-append IsOneLine (lines_at_end n p pair) (closing_lines n p pairs) (end-one n p pair) (closing-one n p pairs)

all-one : (n : Net) (p : Params) (points : List Point) → All IsOneLine (all_lines n p points)
all-one n p points =
    All-append IsOneLine (stream_lines n p [] points) (closing_lines n p (with_points [] points)) (stream-one n p [] points) (closing-one n p (with_points [] points))

-- ---- the lines of a text

abbrev pub begins : List ℕ → List ℕ → Bool
begins lead text = starts_with nat_eq text lead

-- a line begins with a lead exactly where it does without its LF
same-start : (body lead : List ℕ) → All IsPlain lead → begins lead (body ++ 10 ∷ []) ≡ begins lead body
same-start [] [] are = refl
same-start (x ∷ body) [] are = refl
same-start [] (y ∷ lead) are =
    ap (λ b. b && starts_with nat_eq [] lead) (All-head IsPlain y lead are)
same-start (x ∷ body) (y ∷ lead) are = ap (λ b. nat_eq y x && b) (same-start body lead (All-tail IsPlain y lead are))

-- the rest of a line behind the lead
rest-of-line : (body lead : List ℕ) → begins lead body ≡ true → drop (length lead) body ++ 10 ∷ [] ≡ drop (length lead) (body ++ 10 ∷ [])
rest-of-line body lead is =
    let whole : body ≡ lead ++ drop (length lead) body = (starts_is Decides-eqb body lead true (sym is)).0 refl in
    let count = ap length whole ∙ length-append lead (drop (length lead) body) in
    sym (drop-append-le (length lead) body (10 ∷ []) (omega (arith, count)))

-- what the lines behind a lead are, in the bytes and in the lines
abbrev in_parts : List ℕ → List (List ℕ) → List ℕ
in_parts lead parts = concat (map (λ part. drop (length lead) part ++ 10 ∷ []) (filter (begins lead) parts))

abbrev in_lines : List ℕ → List (List ℕ) → List ℕ
in_lines lead lines = concat (map (drop (length lead)) (filter (begins lead) lines))

one-more : (lead body : List ℕ) (parts lines : List (List ℕ)) (b : Bool) → begins lead body ≡ b → in_parts lead parts ≡ in_lines lead lines
    → concat (map (λ part. drop (length lead) part ++ 10 ∷ []) (cond b (body ∷ filter (begins lead) parts) (filter (begins lead) parts)))
    ≡ concat (map (drop (length lead)) (cond b ((body ++ 10 ∷ []) ∷ filter (begins lead) lines) (filter (begins lead) lines)))
one-more lead body parts lines true is same =
    ap (λ t. t ++ in_parts lead parts) (rest-of-line body lead is) ∙ ap (λ t. drop (length lead) (body ++ 10 ∷ []) ++ t) same
one-more lead body parts lines false is same = same

-- the part behind the last LF does not begin with a lead
none-begins : (lead : List ℕ) → 0 < length lead → begins lead [] ≡ false
none-begins [] some = absurd (omega (arith, some))
none-begins (y ∷ lead) some = refl

pub parts-are-lines : (lead : List ℕ) (lines : List (List ℕ)) → 0 < length lead → All IsPlain lead → All IsOneLine lines
    → in_parts lead (slice_split (λ b. nat_eq b 10) (concat lines)) ≡ in_lines lead lines
parts-are-lines lead [] some plain are =
    ap (λ b. concat (map (λ part. drop (length lead) part ++ 10 ∷ []) (cond b ([] ∷ []) []))) (none-begins lead some)
parts-are-lines lead (text ∷ lines) some plain are =
    let one = All-head IsOneLine text lines are in
    let body = one.body in
    let rest = slice_split (λ b. nat_eq b 10) (concat lines) in
    let parts : slice_split (λ b. nat_eq b 10) (text ++ concat lines) ≡ body ∷ rest =
    ap (λ t. slice_split (λ b. nat_eq b 10) (t ++ concat lines)) one.is
    ∙ ap (slice_split (λ b. nat_eq b 10)) (append_assoc body (10 ∷ []) (concat lines))
    ∙ slice_split_at (λ b. nat_eq b 10) body 10 (concat lines) one.plain refl in
    let later = parts-are-lines lead lines some plain (All-tail IsOneLine text lines are) in
    let now = one-more lead body rest lines (begins lead body) refl later in
    let whole : concat (map (drop (length lead)) (cond (begins lead body) ((body ++ 10 ∷ []) ∷ filter (begins lead) lines) (filter (begins lead) lines))) ≡ in_lines lead (text ∷ lines) =
    ap (λ b. concat (map (drop (length lead)) (cond b ((body ++ 10 ∷ []) ∷ filter (begins lead) lines) (filter (begins lead) lines)))) (sym (same-start body lead plain))
    ∙ ap (λ t. in_lines lead (t ∷ lines)) (sym one.is) in
    ap (in_parts lead) parts ∙ now ∙ whole

pub ids_have_follow_texts : IdsHaveFollowTexts
ids_have_follow_texts n p points id small own room some =
    let lead = lead_of (Some id) in
    let plain = All-append IsPlain (decimal id) (32 ∷ []) (decimal-plain id) (All-cons IsPlain 32 [] refl (All-nil IsPlain)) in
    let count = length-append (decimal id) (32 ∷ []) in
    parts-are-lines lead (all_lines n p points) (omega (arith, count)) plain (all-one n p points) ∙ ap concat (ids_are_followed_alone n p points id small own room some)

-- ---- with a last line that is no id's

-- a text that begins with no number begins with no id
pub none-leads : (id : ℕ) (text : List ℕ) → id < 2 ^ 32 → number_at (2 ^ 32) text ≡ None → begins (lead_of (Some id)) text ≡ false
none-leads id text small none = step (begins (lead_of (Some id)) text) refl
  where
    rest : List ℕ
    rest = drop (length (lead_of (Some id))) text

    step : (b : Bool) → begins (lead_of (Some id)) text ≡ b → b ≡ false
    step false is = refl
    step true is =
        let front : text ≡ lead_of (Some id) ++ rest = (starts_is Decides-eqb text (lead_of (Some id)) true (sym is)).0 refl in
        let found : number_at (2 ^ 32) text ≡ Some (id, 32 ∷ rest) =
        ap (number_at (2 ^ 32)) (front ∙ append_assoc (decimal id) (32 ∷ []) rest) ∙ number_again (2 ^ 32) id (32 ∷ rest) (omega (arith, small)) (omega arith) refl in
        absurd (cc (none, found))

pub ids_have_follow_texts_before : (n : Net) (p : Params) (points : List Point) (id : ℕ) (last : List ℕ) → All (λ x. x.0 < 2 ^ 32) points → id < 2 ^ 32 → full_id [] points ≡ None → 0 < length (fixes_among id points)
    → IsOneLine last → begins (lead_of (Some id)) last ≡ false
    → text_led_by id (concat (all_lines n p points) ++ last) ≡ follow_text n p (record { id = id; fixes = fixes_among id points })
ids_have_follow_texts_before n p points id last small own room some one other =
    let lead = lead_of (Some id) in
    let lines = all_lines n p points in
    let plain = All-append IsPlain (decimal id) (32 ∷ []) (decimal-plain id) (All-cons IsPlain 32 [] refl (All-nil IsPlain)) in
    let count = length-append (decimal id) (32 ∷ []) in
    let are = All-append IsOneLine lines (last ∷ []) (all-one n p points) (All-cons IsOneLine last [] one (All-nil IsOneLine)) in
    let whole : concat (lines ++ last ∷ []) ≡ concat lines ++ last = concat-append lines (last ∷ []) ∙ ap (λ t. concat lines ++ t) (append-nil last) in
    let none : lines_led_by id (last ∷ []) ≡ [] = ap (λ b. map (drop (length lead)) (cond b (last ∷ []) [])) other in
    let led : lines_led_by id (lines ++ last ∷ []) ≡ lines_led_by id lines =
    led-append id lines (last ∷ []) ∙ ap (λ ls. lines_led_by id lines ++ ls) none ∙ append-nil (lines_led_by id lines) in
    ap (text_led_by id) (sym whole)
    ∙ parts-are-lines lead (lines ++ last ∷ []) (omega (arith, count)) plain are
    ∙ ap concat (led ∙ ids_are_followed_alone n p points id small own room some)
