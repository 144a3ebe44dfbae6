-- Records of four fields without quotes, as `csv` writes and reads them.
use Rattle.std.proofs.Common.{◌≡◌, ℕ, zero, suc, ◌≤◌, false, List, [], ◌∷◌, ◌++◌, length, map, codes, refl, ap, ◌∙◌, arith, append_assoc}
use Rattle.std.specs.List.{list_any}
use Rattle.std.proofs.lemmas.List.{append-nil}
use Rattle.csv.specs.Reading.{default_config, records_from, records_next}
use Rattle.csv.specs.Machine.{next_record}
use Rattle.csv.specs.Writing.{default_writer, fields_text, is_blank as is_blank_record, needs_byte, read_back, row_text}
use Rattle.csv.specs.declared.parser.State.TheVariants as st
use Rattle.csv.proofs.RoundTrip.{read-write}

-- no byte of the field needs quotes
abbrev pub IsPlainField : List ℕ → Type 0
IsPlainField field = list_any (needs_byte default_writer) field ≡ false

four-bytes : (a b c d : List ℕ) → IsPlainField a → IsPlainField b → IsPlainField c → IsPlainField d
    → row_text default_writer (a ∷ b ∷ c ∷ d ∷ []) ≡ a ++ 44 ∷ (b ++ 44 ∷ (c ++ 44 ∷ (d ++ []))) ++ 10 ∷ []
unfolding fields_text is_blank_record
four-bytes a b c d ha hb hc hd = rw (ha, hb, hc, hd) refl

four-joined : (a b c d : List ℕ) → a ++ 44 ∷ (b ++ 44 ∷ (c ++ 44 ∷ (d ++ []))) ++ 10 ∷ [] ≡ a ++ codes "," ++ b ++ codes "," ++ c ++ codes "," ++ d ++ codes "\n"
four-joined a b c d = rw (append-nil d) (simp append_assoc)

pub four-plain : (a b c d : List ℕ) → IsPlainField a → IsPlainField b → IsPlainField c → IsPlainField d
    → row_text default_writer (a ∷ b ∷ c ∷ d ∷ []) ≡ a ++ codes "," ++ b ++ codes "," ++ c ++ codes "," ++ d ++ codes "\n"
four-plain a b c d ha hb hc hd = four-bytes a b c d ha hb hc hd ∙ four-joined a b c d

-- the text of records, one after the other
unfoldable pub text_of_records : List (List (List ℕ)) → List ℕ
text_of_records [] = []
text_of_records (fields ∷ rest) = row_text default_writer fields ++ text_of_records rest

-- they are read back, whatever the number of turns
pub records-back : (rows : List (List (List ℕ))) (turns : ℕ) → length rows ≤ turns → records_from default_config turns st.StartRecord (text_of_records rows) ≡ map read_back rows
unfolding records_from text_of_records next_record
records-back [] zero few = refl
records-back [] (suc turns) few = refl
records-back (fields ∷ rows) zero few = absurd (omega (arith, few))
records-back (fields ∷ rows) (suc turns) few =
    ap (records_next (records_from default_config turns)) (read-write fields (text_of_records rows))
    ∙ ap (λ t. read_back fields ∷ t) (records-back rows turns (omega (arith, few)))
