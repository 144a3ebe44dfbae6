-- An entry and its word, and the entries of a line.
use Rattle.std.proofs.Common.{◌≡◌, ℕ, zero, suc, ◌+◌, ◌^◌, ◌<◌, ◌≤◌, get_or, List, [], ◌∷◌, ◌++◌, length, map, Option, Some, None, refl, sym, ap, subst, ◌∙◌, append_assoc, arith, length-append}
use Rattle.std.specs.Prelude.{codes}
use Rattle.std.specs.List.{AllByRecursion}
use Rattle.std.specs.Option.{IfSome, option_map}
use Rattle.std.proofs.lemmas.Bool.{ne_eqb}
use Rattle.std.proofs.lemmas.List.{append-nil}
use Rattle.std.proofs.lemmas.Option.{none-some, some_pair_parts}
use Rattle.bounded_table.specs.declared.table_row.Entry.{Entry}
use Rattle.decimal_text.specs.Number.{decimal}
use Rattle.decimal_text.proofs.Laws.{digit_in-decimal, length-decimal}
use Rattle.match_text.specs.MatchText.{words_after}
use Rattle.match_text.specs.Reading.{after_bytes, most32, number_after}
use Rattle.match_text.proofs.Fields.{EndsDigits, after_takes, bind_found, bind_some, number_after_again, number_after_takes}
use Rattle.road_network.specs.declared.EdgeId.{EdgeId}
use Rattle.row_text.specs.Laws.{EntryFits}
use Rattle.row_text.specs.Reading.{edge_or_none, entries_at, entries_behind, entry_at, last_at}
use Rattle.row_text.specs.RowLine.{entry_word, last_word}

abbrev LastFits : Option EdgeId → Type 0
LastFits last = IfSome last (λ e. e.0 < 2 ^ 32)

-- ---- the last edge

-- a number does not begin with `-`
not_minus : (n : ℕ) (rest : List ℕ) → n < 2 ^ 64 → after_bytes (codes ":-") (58 ∷ (decimal n ++ rest)) ≡ None
not_minus n rest small = by_digits (decimal n) (length-decimal n small).0 (digit_in-decimal n 0 small (length-decimal n small).0).0
  where
    by_digits : (digits : List ℕ) → 1 ≤ length digits → 48 ≤ get_or digits 0 0 → after_bytes (codes ":-") (58 ∷ (digits ++ rest)) ≡ None
    by_digits [] some first = absurd (omega (arith, some))
    by_digits (d ∷ ds) some first = rw (ne_eqb 45 d (omega (arith, first))) refl

last_again : (last : Option EdgeId) (rest : List ℕ) → LastFits last → EndsDigits rest → last_at (58 ∷ (last_word last ++ rest)) ≡ Some (last, rest)
unfolding last_at
last_again None rest fits ends = refl
last_again (Some e) rest fits ends =
    rw (not_minus e.0 rest (omega (arith, fits))) (ap (option_map (λ (x : ℕ × List ℕ). let y : Option EdgeId × List ℕ = (Some (record { 0 = x.0 }), x.1) in y)) (number_after_again (codes ":") most32 e.0 rest (omega (arith, fits)) (omega arith) ends))

-- what was read of a last edge
record LastTaken (text : List ℕ) (last : Option EdgeId) (rest : List ℕ) : Type 0 where
  pub text_is : text ≡ 58 ∷ (last_word last ++ rest)
  pub fits : LastFits last

last_takes : (text : List ℕ) (last : Option EdgeId) (rest : List ℕ) → last_at text ≡ Some (last, rest) → LastTaken text last rest
unfolding last_at
last_takes text last rest e = by_end (after_bytes (codes ":-") text) refl e
  where
    by_number : (number : Option (ℕ × List ℕ)) → number_after (codes ":") most32 text ≡ number
        → option_map (λ x. let y : Option EdgeId × List ℕ = (Some (record { 0 = x.0 }), x.1) in y) number ≡ Some (last, rest) → LastTaken text last rest
    by_number None is e = absurd (none-some (last, rest) e)
    by_number (Some x) is e =
        let parts = some_pair_parts (Some (record { 0 = x.0 })) last x.1 rest e in
        let taken = number_after_takes (codes ":") most32 x.0 text x.1 (omega arith) is in
        subst (λ (y : Option EdgeId × List ℕ). LastTaken text y.0 y.1) (λ i. (parts.0 i, parts.1 i))
        (record { text_is = taken.0; fits = omega (arith, taken.1) })

    by_end : (end : Option (List ℕ)) → after_bytes (codes ":-") text ≡ end → edge_or_none end text ≡ Some (last, rest) → LastTaken text last rest
    by_end (Some behind) is e =
        let parts = some_pair_parts None last behind rest e in
        subst (λ (y : Option EdgeId × List ℕ). LastTaken text y.0 y.1) (λ i. (parts.0 i, parts.1 i))
        (record { text_is = after_takes (codes ":-") text behind is; fits = tt })
    by_end None is e = by_number (number_after (codes ":") most32 text) refl e

-- ---- an entry

-- the entry with the space before it
abbrev pub spaced : Entry → List ℕ → List ℕ
spaced x rest = 32 ∷ (entry_word x ++ rest)

spaced_parts : (x : Entry) (rest : List ℕ) → spaced x rest ≡ codes " " ++ (decimal x.node.0 ++ (codes ":" ++ (decimal x.distance ++ 58 ∷ (last_word x.last ++ rest))))
spaced_parts x rest = ap (λ (t : List ℕ). 32 ∷ t)
    (append_assoc (decimal x.node.0) (58 ∷ (decimal x.distance ++ 58 ∷ last_word x.last)) rest
    ∙ ap (λ (t : List ℕ). decimal x.node.0 ++ 58 ∷ t) (append_assoc (decimal x.distance) (58 ∷ last_word x.last) rest))

pub entry_again : (x : Entry) (rest : List ℕ) → EntryFits x → EndsDigits rest → entry_at (spaced x rest) ≡ Some (x, rest)
unfolding entry_at
entry_again x rest fits ends =
    let behind = 58 ∷ (last_word x.last ++ rest) in
    let node = number_after_again (codes " ") most32 x.node.0 (58 ∷ (decimal x.distance ++ behind)) (omega (arith, fits.node)) (omega arith) refl in
    let distance = number_after_again (codes ":") most32 x.distance behind (omega (arith, fits.distance)) (omega arith) refl in
    ap entry_at (spaced_parts x rest)
    ∙ bind_some _ _ (x.node.0, 58 ∷ (decimal x.distance ++ behind)) node
    ∙ bind_some _ _ (x.distance, behind) distance
    ∙ bind_some _ _ (x.last, rest) (last_again x.last rest fits.last ends)

-- what was read of an entry
pub record EntryTaken (text : List ℕ) (x : Entry) (rest : List ℕ) : Type 0 where
  pub text_is : text ≡ spaced x rest
  pub fits : EntryFits x

pub entry_takes : (text : List ℕ) (x : Entry) (rest : List ℕ) → entry_at text ≡ Some (x, rest) → EntryTaken text x rest
unfolding entry_at
entry_takes text x rest e =
    let node = bind_found (number_after (codes " ") most32 text) _ (x, rest) e in
    let distance = bind_found (number_after (codes ":") most32 node.0.1) _ (x, rest) node.2 in
    let last = bind_found (last_at distance.0.1) _ (x, rest) distance.2 in
    let found : Entry = record { node = record { 0 = node.0.0 }; distance = distance.0.0; last = last.0.0 } in
    let parts = some_pair_parts found x last.0.1 rest last.2 in
    let first = number_after_takes (codes " ") most32 node.0.0 text node.0.1 (omega arith) node.1 in
    let second = number_after_takes (codes ":") most32 distance.0.0 node.0.1 distance.0.1 (omega arith) distance.1 in
    let third = last_takes distance.0.1 last.0.0 last.0.1 last.1 in
    let taken : EntryTaken text found last.0.1 = record {
      text_is = first.0 ∙ ap (λ (t : List ℕ). codes " " ++ (decimal node.0.0 ++ t)) (second.0 ∙ ap (λ (t : List ℕ). codes ":" ++ (decimal distance.0.0 ++ t)) third.text_is) ∙ sym (spaced_parts found last.0.1);
      fits = record { node = omega (arith, first.1); distance = omega (arith, second.1); last = third.fits };
    } in
    subst (λ (y : Entry × List ℕ). EntryTaken text y.0 y.1) (λ i. (parts.0 i, parts.1 i)) taken

pub entry_goes_down : (text : List ℕ) (x : Entry) (rest : List ℕ) → entry_at text ≡ Some (x, rest) → length rest < length text
entry_goes_down text x rest e =
    omega (arith, ap length (entry_takes text x rest e).text_is, length-append (entry_word x) rest)

-- ---- the entries of a line

abbrev pub entries_line : List Entry → List ℕ
entries_line entries = words_after (map entry_word entries)

abbrev AllFit : List Entry → Type 0
AllFit entries = AllByRecursion EntryFits entries

ends_digits : (entries : List Entry) (rest : List ℕ) → EndsDigits (entries_line entries ++ rest)
ends_digits [] rest = refl
ends_digits (x ∷ entries) rest = refl

first_entry : (x : Entry) (entries : List Entry) (rest : List ℕ) → entries_line (x ∷ entries) ++ rest ≡ spaced x (entries_line entries ++ rest)
first_entry x entries rest = ap (λ (t : List ℕ). 32 ∷ t) (append_assoc (entry_word x) (entries_line entries) rest)

no_entry : (rest : List ℕ) → entry_at (10 ∷ rest) ≡ None
unfolding entry_at number_after
no_entry rest = refl

pub entries_again : (entries : List Entry) (rest : List ℕ) (fuel : ℕ) → AllFit entries → length (entries_line entries ++ rest) < fuel
    → entries_at fuel (entries_line entries ++ rest) ≡ Some (entries, rest)
entries_again entries rest zero fits enough = absurd (omega (arith, enough))
entries_again [] rest (suc fuel) fits enough = rw (no_entry rest) refl
entries_again (x ∷ entries) rest (suc fuel) fits enough =
    let text_is = first_entry x entries rest in
    let first : entry_at (entries_line (x ∷ entries) ++ rest) ≡ Some (x, entries_line entries ++ rest) = ap entry_at text_is ∙ entry_again x (entries_line entries ++ rest) fits.0 (ends_digits entries rest) in
    let more = entries_again entries rest fuel fits.1 (omega (arith, enough, ap length text_is, length-append (entry_word x) (entries_line entries ++ rest))) in
    ap (entries_behind (entries_at fuel) (entries_line (x ∷ entries) ++ rest)) first ∙ ap (option_map (λ (m : List Entry × List ℕ). (x ∷ m.0, m.1))) more

-- what was read of the entries of a line
pub record EntriesTaken (text : List ℕ) (entries : List Entry) (rest : List ℕ) : Type 0 where
  pub text_is : text ≡ entries_line entries ++ rest
  pub fit : AllFit entries

-- what so much fuel reads is the text of it
abbrev Takes : ℕ → Type 0
Takes fuel = (next : List ℕ) (es : List Entry) (r : List ℕ) → entries_at fuel next ≡ Some (es, r) → EntriesTaken next es r

pub entries_take : (fuel : ℕ) (text : List ℕ) (entries : List Entry) (rest : List ℕ) → entries_at fuel text ≡ Some (entries, rest) → EntriesTaken text entries rest
entries_take zero text entries rest e = absurd (none-some (entries, rest) e)
entries_take (suc fuel) text entries rest e = by_entry (λ next es r h. entries_take fuel next es r h) (entry_at text) refl e
  where
    by_end : (end : Option (List ℕ)) → after_bytes (10 ∷ []) text ≡ end → option_map (λ behind. let y : List Entry × List ℕ = ([], behind) in y) end ≡ Some (entries, rest) → EntriesTaken text entries rest
    by_end None is e = absurd (none-some (entries, rest) e)
    by_end (Some behind) is e =
        let parts = some_pair_parts [] entries behind rest e in
        subst (λ (y : List Entry × List ℕ). EntriesTaken text y.0 y.1) (λ i. (parts.0 i, parts.1 i))
        (record { text_is = after_takes (10 ∷ []) text behind is; fit = tt })

    by_more : Takes fuel → (x : Entry) (next : List ℕ) → entry_at text ≡ Some (x, next) → (more : Option (List Entry × List ℕ)) → entries_at fuel next ≡ more
        → option_map (λ m. let y : List Entry × List ℕ = (x ∷ m.0, m.1) in y) more ≡ Some (entries, rest) → EntriesTaken text entries rest
    by_more takes x next is None more_is e = absurd (none-some (entries, rest) e)
    by_more takes x next is (Some m) more_is e =
        let parts = some_pair_parts (x ∷ m.0) entries m.1 rest e in
        let first = entry_takes text x next is in
        let others = takes next m.0 m.1 more_is in
        subst (λ (y : List Entry × List ℕ). EntriesTaken text y.0 y.1) (λ i. (parts.0 i, parts.1 i))
        (record { text_is = first.text_is ∙ ap (spaced x) others.text_is ∙ sym (first_entry x m.0 m.1); fit = (first.fits, others.fit) })

    by_entry : Takes fuel → (entry : Option (Entry × List ℕ)) → entry_at text ≡ entry → entries_behind (entries_at fuel) text entry ≡ Some (entries, rest) → EntriesTaken text entries rest
    by_entry takes None is e = by_end (after_bytes (10 ∷ []) text) refl e
    by_entry takes (Some x) is e = by_more takes x.0 x.1 is (entries_at fuel x.1) refl e

-- ---- the loop over the entries

abbrev pub prepended : List Entry → Option (List Entry × List ℕ) → Option (List Entry × List ℕ)
prepended front read = option_map (λ more. (front ++ more.0, more.1)) read

-- the entries so far and those of what is left are those of all
pub record GoesOn (text : List ℕ) (front : List Entry) (left : List ℕ) : Type 0 where
  pub fuel : ℕ
  pub enough : length left < fuel
  pub are : prepended front (entries_at fuel left) ≡ entries_at (length text + 1) text

prepended_none : (read : Option (List Entry × List ℕ)) → prepended [] read ≡ read
prepended_none None = refl
prepended_none (Some m) = refl

prepended_more : (front : List Entry) (x : Entry) (read : Option (List Entry × List ℕ)) → prepended (front ++ x ∷ []) read ≡ prepended front (option_map (λ more. (x ∷ more.0, more.1)) read)
prepended_more front x None = refl
prepended_more front x (Some m) = ap (λ (t : List Entry). let y : Option (List Entry × List ℕ) = Some (t, m.1) in y) (append_assoc front (x ∷ []) m.0)

pub begins : (text : List ℕ) → GoesOn text [] text
begins text = record { fuel = length text + 1; enough = omega arith; are = prepended_none (entries_at (length text + 1) text) }

pub goes_on : (text : List ℕ) (front : List Entry) (left : List ℕ) (x : Entry) (next : List ℕ) → entry_at left ≡ Some (x, next) → GoesOn text front left → GoesOn text (front ++ x ∷ []) next
goes_on text front left x next first so_far = by_fuel so_far.fuel so_far.enough so_far.are
  where
    by_fuel : (fuel : ℕ) → length left < fuel → prepended front (entries_at fuel left) ≡ entries_at (length text + 1) text → GoesOn text (front ++ x ∷ []) next
    by_fuel zero enough are = absurd (omega (arith, enough))
    by_fuel (suc fuel) enough are = record {
      fuel = fuel;
      enough = omega (arith, enough, entry_goes_down left x next first);
      are = prepended_more front x (entries_at fuel next) ∙ ap (prepended front) (sym (ap (entries_behind (entries_at fuel) left) first)) ∙ are;
    }

pub ends : (text : List ℕ) (front : List Entry) (left : List ℕ) → entry_at left ≡ None → GoesOn text front left
    → option_map (λ rest. let y : List Entry × List ℕ = (front, rest) in y) (after_bytes (10 ∷ []) left) ≡ entries_at (length text + 1) text
ends text front left no_more so_far = by_fuel so_far.fuel so_far.enough so_far.are
  where
    by_end : (end : Option (List ℕ)) → option_map (λ rest. let y : List Entry × List ℕ = (front, rest) in y) end ≡ prepended front (option_map (λ rest. ([], rest)) end)
    by_end None = refl
    by_end (Some rest) = ap (λ (t : List Entry). let y : Option (List Entry × List ℕ) = Some (t, rest) in y) (sym (append-nil front))

    by_fuel : (fuel : ℕ) → length left < fuel → prepended front (entries_at fuel left) ≡ entries_at (length text + 1) text
        → option_map (λ rest. let y : List Entry × List ℕ = (front, rest) in y) (after_bytes (10 ∷ []) left) ≡ entries_at (length text + 1) text
    by_fuel zero enough are = absurd (omega (arith, enough))
    by_fuel (suc fuel) enough are = by_end (after_bytes (10 ∷ []) left) ∙ ap (prepended front) (sym (ap (entries_behind (entries_at fuel) left) no_more)) ∙ are
