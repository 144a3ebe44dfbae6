-- What the words of labels say.
use Rattle.std.proofs.Common.{◌≡◌, ◌≢◌, ℕ, ◌-◌, ◌/◌, ◌%◌, ◌^◌, ◌<◌, ◌≤◌, inl, inr, List, length, set, length-set, get_or-set_same, get_or-set_other, Some, refl, ap, ◌∙◌, arith}
use Rattle.std.proofs.lemmas.Bool.{cases_eq, cases_lt, eq-eqb, ne_eqb}
use Rattle.std.proofs.lemmas.Bool.Decides.{eqb_tells}
use Rattle.std.proofs.lemmas.List.{get_or_past}
use Rattle.bounded_table.specs.declared.table_row.Label.{Label}
use Rattle.bounded_table.proofs.ClosedTables.{none_some}
use Rattle.bounded_table.specs.LabelWords.{label_in_word, last_in, no_label, word_at, word_by}

-- a word that is not that of no label has its label
pub label_there : (bound : ℕ) (word : ℕ) → word ≢ no_label bound → label_in_word bound word ≡ Some (record { distance = word / 2 ^ 32; last = last_in (word % 2 ^ 32) })
label_there bound word apart = elim (eqb_tells word (no_label bound)) [ inl t ↦ absurd (apart t.1) | inr t ↦ rw t.0 refl ]

-- where a word has a label it is another than that of no label
pub word_there : (bound : ℕ) (word : ℕ) (l : Label) → label_in_word bound word ≡ Some l → word ≢ no_label bound
word_there bound word l h same = none_some refl (rw (eq-eqb word (no_label bound) same) at h)

pub last_there : (e : ℕ) → e < 2 ^ 32 - 1 → last_in e ≡ Some (record { 0 = e })
last_there e lt = let apart : e ≢ 2 ^ 32 - 1 = omega arith in rw (ne_eqb e (2 ^ 32 - 1) apart) refl

-- the parts of a word
pub distance_by : (d e : ℕ) → e < 2 ^ 32 → word_by d e / 2 ^ 32 ≡ d
distance_by d e lt = omega arith

pub last_by : (d e : ℕ) → e < 2 ^ 32 → word_by d e % 2 ^ 32 ≡ e
last_by d e lt = omega arith

pub not_farther : (a b : ℕ) → a ≤ b → a / 2 ^ 32 ≤ b / 2 ^ 32
not_farther a b le = omega arith

-- what is in an array after a write
pub word_here : (bound : ℕ) (words : List ℕ) (v word : ℕ) → v < length words → word_at bound (set words v word) v ≡ word
word_here bound words v word lt = get_or-set_same words v word (no_label bound) lt

pub word_elsewhere : (bound : ℕ) (words : List ℕ) (v w word : ℕ) → w ≢ v → word_at bound (set words v word) w ≡ word_at bound words w
word_elsewhere bound words v w word apart = get_or-set_other words v w word (no_label bound) apart

-- where a label was taken out there is none
pub cleared : (bound : ℕ) (words : List ℕ) (v : ℕ) → word_at bound (set words v (no_label bound)) v ≡ no_label bound
cleared bound words v =
    elim (cases_lt v (length words)) [
      | inl lt ↦ word_here bound words v (no_label bound) lt
      | inr past ↦ get_or_past (set words v (no_label bound)) v (no_label bound) (omega (arith, length-set words v (no_label bound)))
    ]

-- a node that has a label where that of v was taken out is not v, and had it before
pub left_over : (bound : ℕ) (words : List ℕ) (v w : ℕ) → word_at bound (set words v (no_label bound)) w ≢ no_label bound → (w ≢ v) × (word_at bound words w ≢ no_label bound)
left_over bound words v w there =
    elim (cases_eq w v) [
      | inl same ↦ absurd (there (ap (word_at bound (set words v (no_label bound))) same ∙ cleared bound words v))
      | inr apart ↦ (apart, λ none. there (word_elsewhere bound words v w (no_label bound) apart ∙ none))
    ]
