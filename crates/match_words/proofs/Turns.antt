-- Words that are no options, and the walk over the words of a command without a fault.
use Rattle.std.proofs.Common.{◌≡◌, ℕ, ◌<◌, ◌≤◌, ◌^◌, ◌==◌, false, cond, List, [], ◌∷◌, get_or, fold, Option, Some, None, refl, ap, ap₂, ◌∙◌, arith}
use Rattle.std.specs.Option.{option_map_or}
use Rattle.std.specs.Str.{bytes_eq}
use Rattle.std.proofs.lemmas.Bool.{ne_eqb}
use Rattle.clap.specs.Faults.{bundle_fault, flag_word_fault, other_fault, step_fault, turn_fault, walk_fault}
use Rattle.clap.specs.Kinds.{or_else}
use Rattle.clap.specs.Lexer.{long_of, short_of}
use Rattle.clap.specs.Simple.{Shape}
use Rattle.clap.specs.Walk.{Held, Row, Rule, Text, Waiting, Walk, after_step, arg_by_index, idle, long_or_other, next, option, plain_word, short_or_plain, to_positional, trailing, value, walked, word_met}
use Rattle.decimal_text.specs.Number.{decimal}
use Rattle.decimal_text.proofs.Laws.{digit_in-decimal, length-decimal}
use Rattle.match_words.specs.MatchWords.{IsName}

-- ---- a word that is no option

pub record IsValue (v : Text) : Type 0 where
  pub dashes : bytes_eq v (45 ∷ 45 ∷ []) ≡ false
  pub long : long_of v ≡ None
  pub short : short_of v ≡ None

pub value-of : (v : Text) → IsName v → IsValue v
value-of [] is = record { dashes = refl; long = refl; short = refl }
value-of (byte ∷ word) is =
    let other : (byte == 45) ≡ false = ne_eqb byte 45 is in
    record { dashes = rw other refl; long = rw other refl; short = rw other refl }

name-of : (text : List ℕ) → 48 ≤ get_or text 0 0 → IsName text
name-of [] high = tt
name-of (byte ∷ text) high = λ same. omega (arith, high, same)

pub number-of : (n : ℕ) → n < 2 ^ 64 → IsValue (decimal n)
number-of n small =
    let digit = digit_in-decimal n 0 small (let some = (length-decimal n small).0 in omega (arith, some)) in
    value-of (decimal n) (name-of (decimal n) digit.0)

met-idle : (c : List Rule) (position : ℕ) (v : Text) (h : Held) → IsValue v → word_met c [] false idle position v h ≡ (h, value)
met-idle c position v h is =
    ap (λ b. cond b (h, trailing position) (long_or_other c idle v (long_of v) h)) is.dashes
    ∙ ap (λ o. long_or_other c idle v o h) is.long
    ∙ ap (λ o. short_or_plain c idle v o h) is.short

met-option : (c : List Rule) (id : Text) (position : ℕ) (v : Text) (h : Held) → IsValue v → word_met c [] false (option id) position v h ≡ plain_word c (option id) v h
met-option c id position v h is =
    ap (λ b. cond b (h, trailing position) (long_or_other c (option id) v (long_of v) h)) is.dashes
    ∙ ap (λ o. long_or_other c (option id) v o h) is.long
    ∙ ap (λ o. short_or_plain c (option id) v o h) is.short

free-word : (s : Shape) (v : Text) (h : Held) → IsValue v → other_fault s None v h ≡ []
free-word s v h is =
    ap (λ b. cond b [] (flag_word_fault s.rules s.args_override_self (long_of v) v h)) is.dashes
    ∙ ap (λ o. flag_word_fault s.rules s.args_override_self o v h) is.long
    ∙ ap (λ o. option_map_or (λ flags. bundle_fault s.rules s.args_override_self flags h) o []) is.short

-- ---- the walk over the words of `match`, without a fault

abbrev pub at : List Row → Option (Text × List Text) → Waiting → ℕ → Walk
at rows pending waiting position = record {
  held = record { rows = rows; pending = pending; skip = 0 };
  waiting = waiting;
  position = position;
  is_trailing = false;
  stopped = None;
}

pub record Turns (s : Shape) (w : Walk) (words : List Text) (end : Walk) : Type 0 where
  pub walks : fold (walked s.rules []) w words ≡ end
  pub free : walk_fault s [] w words ≡ []

pub turns-end : (s : Shape) (w : Walk) → Turns s w [] w
unfolding walk_fault
turns-end s w = record { walks = refl; free = refl }

turns-more : (s : Shape) (w after : Walk) (word : Text) (words : List Text) (end : Walk) → walked s.rules [] w word ≡ after → turn_fault s [] w word ≡ [] → Turns s after words end → Turns s w (word ∷ words) end
unfolding walk_fault
turns-more s w after word words end walks free rest = record {
  walks = ap (λ x. fold (walked s.rules []) x words) walks ∙ rest.walks;
  free = ap₂ (λ k x. or_else k (walk_fault s [] x words)) free walks ∙ rest.free;
}

-- a word goes to a positional argument
pub turns-place : (s : Shape) (rows : List Row) (pending : Option (Text × List Text)) (position : ℕ) (v : Text) (words : List Text) (end : Walk) → IsValue v
    → step_fault s position (record { rows = rows; pending = pending; skip = 0 }) value ≡ []
    → Turns s (to_positional s.rules (arg_by_index s.rules position) v (at rows pending idle position) (record { rows = rows; pending = pending; skip = 0 })) words end
    → Turns s (at rows pending idle position) (v ∷ words) end
unfolding walked
turns-place s rows pending position v words end is free rest =
    let h : Held = record { rows = rows; pending = pending; skip = 0 } in
    let met = met-idle s.rules position v h is in
    turns-more s (at rows pending idle position) (to_positional s.rules (arg_by_index s.rules position) v (at rows pending idle position) h) v words end
    (ap (λ m. after_step s.rules v (at rows pending idle position) m.0 m.1) met)
    (ap₂ (λ k m. or_else k (step_fault s position m.0 m.1)) (free-word s v h is) met ∙ free)
    rest

-- an option and its value
pub turns-option : (s : Shape) (rows after : List Row) (pending : Option (Text × List Text)) (id flag v : Text) (words : List Text) (end : Walk) → IsValue v
    → walked s.rules [] (at rows pending idle 3) flag ≡ at after (Some (id, [])) (option id) 3
    → turn_fault s [] (at rows pending idle 3) flag ≡ []
    → plain_word s.rules (option id) v (record { rows = after; pending = Some (id, []); skip = 0 }) ≡ (record { rows = after; pending = Some (id, v ∷ []); skip = 0 }, next idle)
    → Turns s (at after (Some (id, v ∷ [])) idle 3) words end
    → Turns s (at rows pending idle 3) (flag ∷ v ∷ words) end
unfolding walked
turns-option s rows after pending id flag v words end is walks free plain rest =
    let h : Held = record { rows = after; pending = Some (id, []); skip = 0 } in
    let met = met-option s.rules id 3 v h is ∙ plain in
    turns-more s (at rows pending idle 3) (at after (Some (id, [])) (option id) 3) flag (v ∷ words) end walks free
    (turns-more s (at after (Some (id, [])) (option id) 3) (at after (Some (id, v ∷ [])) idle 3) v words end
    (ap (λ m. after_step s.rules v (at after (Some (id, [])) (option id) 3) m.0 m.1) met)
    (ap₂ (λ k m. or_else k (step_fault s 3 m.0 m.1)) (free-word s v h is) met)
    rest)
