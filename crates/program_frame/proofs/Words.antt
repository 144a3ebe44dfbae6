-- The words that are read of the arguments of a program.
use Rattle.std.proofs.Common.{◌≡◌, ℕ, true, false, ◌+◌, ◌<◌, ◌≤◌, zero, suc, List, [], ◌∷◌, ◌++◌, All, length, take, drop, get_or, map, Option, Some, None, IfSome, String, string_bytes, refl, sym, ◌∙◌, ap, subst, arith, length-take, take_all}
use Rattle.std.specs.Str.{IsUtf8}
use Rattle.std.proofs.lemmas.List.{take_more}
use Rattle.std.proofs.lemmas.List.Elements.{All-map}
use Rattle.std.proofs.lemmas.Str.{IsUtf8-string_bytes}
use Rattle.program_frame.specs.Outside.{AreWordsOf, IsArgument}

-- where the arguments are known: the words are those before argument i, without the program's name
abbrev pub AreWordsBefore : {Z : Type 0} → Option (List (List ℕ)) → ℕ → List (String Z) → Type 0
AreWordsBefore told i words = IfSome told (λ given. map string_bytes words ≡ drop 1 (take i given))

-- argument i, where the arguments are known
abbrev pub IsArgumentOf : Option (List (List ℕ)) → ℕ → Option (List ℕ) → Type 0
IsArgumentOf told i argument = IfSome told (λ given. IsArgument given i argument)

none_before : (given : List (List ℕ)) → [] ≡ drop 1 (take 1 given)
none_before [] = refl
none_before (name ∷ rest) = refl

pub no_words_yet : {Z : Type 0} (told : Option (List (List ℕ))) (words : List (String Z)) → words ≡ [] → AreWordsBefore told 1 words
no_words_yet None words none = tt
no_words_yet (Some given) words none = ap (map string_bytes) none ∙ none_before given

map_push : {Z : Type 0} (words : List (String Z)) (word : String Z) → map string_bytes (words ++ word ∷ []) ≡ map string_bytes words ++ string_bytes word ∷ []
map_push [] word = refl
map_push (first ∷ words) word = ap (λ (l : List (List ℕ)). string_bytes first ∷ l) (map_push words word)

drop_push : (front : List (List ℕ)) (last : List ℕ) → 1 ≤ length front → drop 1 (front ++ last ∷ []) ≡ drop 1 front ++ last ∷ []
drop_push [] last some = absurd (omega (arith, some))
drop_push (name ∷ front) last some = refl

pub one_word_more : {Z : Type 0} (told : Option (List (List ℕ))) (i : ℕ) (argument : Option (List ℕ)) (words : List (String Z)) (word : String Z)
    → 1 ≤ i → argument ≡ Some (string_bytes word) → IsArgumentOf told i argument → AreWordsBefore told i words → AreWordsBefore told (i + 1) (words ++ word ∷ [])
one_word_more None i argument words word some is at before = tt
one_word_more (Some given) i argument words word some is at before =
    let here : IsArgument given i (Some (string_bytes word)) = subst (IsArgument given i) is at in
    let front : 1 ≤ length (take i given) = omega (arith, length-take i given, some, here.0) in
    map_push words word
    ∙ ap (λ (l : List (List ℕ)). l ++ string_bytes word ∷ []) before
    ∙ ap (λ (w : List ℕ). drop 1 (take i given) ++ w ∷ []) here.1
    ∙ sym (drop_push (take i given) (get_or given i []) front)
    ∙ ap (λ (l : List (List ℕ)). drop 1 l) (sym (take_more given i [] here.0))

-- each word is text
all_text : {Z : Type 0} (words : List (String Z)) → All IsUtf8 (map string_bytes words)
all_text words = All-map IsUtf8 string_bytes words (λ k d within. IsUtf8-string_bytes (get_or words k d))

pub all_words : {Z : Type 0} (told : Option (List (List ℕ))) (i : ℕ) (argument : Option (List ℕ)) (words : List (String Z))
    → argument ≡ None → IsArgumentOf told i argument → AreWordsBefore told i words → IfSome told (λ given. AreWordsOf given (map string_bytes words))
all_words None i argument words none at before = tt
all_words (Some given) i argument words none at before =
    let past : length given ≤ i = subst (IsArgument given i) none at in
    let whole : map string_bytes words ≡ drop 1 given = before ∙ ap (λ (l : List (List ℕ)). drop 1 l) (take_all i given past) in
    record { utf8 = λ _. whole; other = λ not. absurd (not (subst (All IsUtf8) whole (all_text words))) }

pub never_true : false ≡ true → ⊥
never_true is = cc

-- one of the words is no text
text_here : (given : List (List ℕ)) (i : ℕ) → 1 ≤ i → i < length given → All IsUtf8 (drop 1 given) → IsUtf8 (get_or given i [])
text_here [] i some within all = absurd (omega (arith, within))
text_here (name ∷ rest) zero some within all = absurd (omega (arith, some))
text_here (name ∷ rest) (suc k) some within all = all k [] (omega (arith, within))

pub no_words : {Z : Type 0} (told : Option (List (List ℕ))) (i : ℕ) (argument : Option (List ℕ)) (bytes : List ℕ) (words : List (String Z))
    → 1 ≤ i → argument ≡ Some bytes → IsArgumentOf told i argument → ¬ IsUtf8 bytes → words ≡ [] → IfSome told (λ given. AreWordsOf given (map string_bytes words))
no_words None i argument bytes words some is at other none = tt
no_words (Some given) i argument bytes words some is at other none =
    let here : IsArgument given i (Some bytes) = subst (IsArgument given i) is at in
    record {
      utf8 = λ all. absurd (other (subst IsUtf8 (sym here.1) (text_here given i some here.0 all)));
      other = λ _. ap (map string_bytes) none;
    }
