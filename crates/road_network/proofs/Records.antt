-- The records of a text, read one after the other.
use Rattle.std.proofs.Common.{◌≡◌, ℕ, zero, suc, ◌+◌, ◌<◌, ◌==◌, ◌++◌, Bool, true, false, cond, List, [], ◌∷◌, Option, None, Some, inl, inr, refl, sym, ap, ◌∙◌, ◌⊎◌, subst, arith, add-one, length}
use Rattle.std.proofs.lemmas.Bool.{cases_Bool}
use Rattle.csv.specs.Machine.{Read, after_end, ends_at_end, ends_with, field_after, fields_after, in_field, is_end, next_record, start_field, start_record, step}
use Rattle.csv.specs.Reading.{default_config, records_from, records_next}
use Rattle.csv.specs.declared.parser.Action.{Action}
use Rattle.csv.specs.declared.parser.Action.TheVariants as act
use Rattle.csv.specs.declared.parser.Config.{Config}
use Rattle.csv.specs.declared.parser.State.{State}
use Rattle.csv.specs.declared.parser.State.TheVariants as st
use Rattle.csv.specs.declared.parser.Terminator.TheVariants as term
use Rattle.csv.specs.Reading.{Reached, ReadRecord, is_flexible, records, strip_bom}
use Rattle.csv.proofs.ReadFacts.{rows-end, rows-more}
use Rattle.road_network.specs.declared.text.Text.{Text}
use Rattle.std.specs.Prelude.{unwrap_or}
use Rattle.road_network.specs.inside.Between.{IsBetween, IsNext, TextReader, records_after, records_left, text_in, text_known, text_left}

abbrev cfg : Config
cfg = default_config

-- a step that ends a record leaves the reader between two records
abbrev Settles : State × Action → Type 0
Settles x = is_end x.1 ≡ true → ends_at_end x.0 ≡ false

either-settles : (b : Bool) (x y : State × Action) → Settles x → Settles y → Settles (cond b x y)
either-settles true x y hx hy = hx
either-settles false x y hx hy = hy

goes-on : (s : State) (a : Action) → is_end a ≡ false → Settles (s, a)
goes-on s a h e = let no : false ≡ true = sym h ∙ e in cc

settled-after : (c : ℕ) → ends_at_end (after_end term.CRLF c) ≡ false
settled-after c = elim (cases_Bool (c == 13)) [ inl t ↦ rw t refl | inr f ↦ rw f refl ]

settled-field : (c : ℕ) → Settles (in_field cfg c)
settled-field c = either-settles (c == 44) _ _ (goes-on st.StartField act.EndField refl) (either-settles (ends_with term.CRLF c) _ _ (λ _. settled-after c) (goes-on st.InField act.Copy refl))

settled-start : (c : ℕ) → Settles (start_field cfg c)
settled-start c = either-settles (c == 34) _ _ (goes-on st.InQuoted act.Skip refl) (settled-field c)

settled-record : (c : ℕ) → Settles (start_record cfg c)
settled-record c = either-settles (ends_with term.CRLF c) _ _ (goes-on st.StartRecord act.Skip refl) (settled-start c)

settled : (s : State) (c : ℕ) → Settles (step cfg s c)
settled st.StartRecord c = settled-record c
settled st.StartField c = settled-start c
settled st.InField c = settled-field c
settled st.InQuoted c = either-settles (c == 34) _ _ (goes-on st.AfterQuote act.Skip refl) (goes-on st.InQuoted act.Copy refl)
settled st.InEscape c = goes-on st.InQuoted act.Copy refl
settled st.AfterQuote c = either-settles (c == 34) _ _ (goes-on st.InQuoted act.Copy refl) (settled-field c)
settled st.InComment c = either-settles (c == 10) _ _ (goes-on st.StartRecord act.Skip refl) (goes-on st.InComment act.Skip refl)
settled st.AfterCr c = either-settles (c == 10) _ _ (goes-on st.StartRecord act.Skip refl) (settled-record c)

-- what a record that was read leaves
pub record IsRead (s : State) (fields : List (List ℕ)) (field text : List ℕ) (p : Read) : Type 0 where
  pub state : ends_at_end p.1 ≡ false
  pub shorter : length p.2 < length text ⊎ (text ≡ []) × (p.2 ≡ [])

same-read : (p q : Read) → Some p ≡ Some q → p ≡ q
same-read p q e = cc

is-read : (s : State) (fields : List (List ℕ)) (field text : List ℕ) (p : Read) → next_record cfg s fields field text ≡ Some p → IsRead s fields field text p
unfolding next_record
is-read s fields field [] p h =
    elim (cases_Bool (ends_at_end s)) [
      | inl t ↦
          let e : (fields ++ (field ∷ []), st.StartRecord, []) ≡ p = same-read (fields ++ (field ∷ []), st.StartRecord, []) p (rw t at h) in
          subst (λ q. IsRead s fields field [] q) e (record {
            state = refl;
            shorter = inr (refl, refl);
          })
      | inr f ↦ let no : None ≡ Some p = rw f at h in cc
    ]
is-read s fields field (c ∷ rest) p h =
    let x = step cfg s c in
    elim (cases_Bool (is_end x.1)) [
      | inl t ↦
          let e = same-read (fields_after x.1 fields field, x.0, rest) p (rw t at h) in
          subst (λ q. IsRead s fields field (c ∷ rest) q) e (record {
            state = settled s c t;
            shorter = inl (omega arith);
          })
      | inr f ↦
          let r = is-read x.0 (fields_after x.1 fields field) (field_after x.1 c field) rest p (rw f at h) in
          record {
            state = r.state;
            shorter = elim r.shorter [ inl lt ↦ inl (omega arith) | inr none ↦ inl (rw (none.0, none.1) (omega arith)) ];
          }
    ]

-- a record that is read from between two records
pub record IsReadHere (text : List ℕ) (p : Read) : Type 0 where
  pub state : ends_at_end p.1 ≡ false
  pub shorter : length p.2 < length text

pub read-here : (s : State) (text : List ℕ) (p : Read) → ends_at_end s ≡ false → next_record cfg s [] [] text ≡ Some p → IsReadHere text p
unfolding next_record
read-here s [] p h e = let no : None ≡ Some p = rw h at e in cc
read-here s (c ∷ rest) p h e =
    let r = is-read s [] [] (c ∷ rest) p e in
    record {
      state = r.state;
      shorter = elim r.shorter [ inl lt ↦ lt | inr none ↦ absurd (cc none.0) ];
    }

-- how often a text may be read does not matter once it is often enough
enough-at : (m n : ℕ) (text : List ℕ) (o : Option Read) → ((p : Read) → o ≡ Some p → IsReadHere text p) → length text < suc m → length text < suc n
    → ((k : ℕ) (s : State) (rest : List ℕ) → ends_at_end s ≡ false → length rest < m → length rest < k → records_from cfg m s rest ≡ records_from cfg k s rest)
    → records_next (records_from cfg m) o ≡ records_next (records_from cfg n) o
enough-at m n text None read a b more = refl
enough-at m n text (Some p) read a b more =
    let r = read p refl in
    ap (λ k. p.0 ∷ k) (more n p.1 p.2 r.state (omega (arith, r.shorter, a)) (omega (arith, r.shorter, b)))

enough : (m n : ℕ) (s : State) (text : List ℕ) → ends_at_end s ≡ false → length text < m → length text < n → records_from cfg m s text ≡ records_from cfg n s text
unfolding records_from
enough zero n s text h a b = absurd (omega (arith, a))
enough (suc m) zero s text h a b = absurd (omega (arith, b))
enough (suc m) (suc n) s text h a b = enough-at m n text (next_record cfg s [] [] text) (λ p e. read-here s text p h e) a b (λ k r rest e x y. enough m k r rest e x y)

-- the first record of a text, and those after it
pub records-first : (s : State) (text : List ℕ) (p : Read) → ends_at_end s ≡ false → next_record cfg s [] [] text ≡ Some p → records_after s text ≡ p.0 ∷ records_after p.1 p.2
unfolding records_from
records-first s text p h e =
    let r = read-here s text p h e in
    rw (add-one (length text), e) (ap (λ k. p.0 ∷ k) (enough (length text) (length p.2 + 1) p.1 p.2 r.state r.shorter (omega arith)))

pub records-none : (s : State) (text : List ℕ) → next_record cfg s [] [] text ≡ None → records_after s text ≡ []
unfolding records_from
records-none s text e = rw (add-one (length text), e) refl

known-left : (o : Option (List ℕ)) (z : List ℕ) → o ≡ Some z → o ≡ Some (unwrap_or o [])
known-left o z h = rw h refl

pub record IsReadOf (a b : TextReader) (fields : List (List ℕ)) : Type 0 where
  pub read : ReadRecord (λ t. Some (text_in t)) a b true fields
  pub first : b.first ≡ true
  pub flexible : is_flexible b ≡ is_flexible a

joined : (a b : List (List ℕ)) (s t : State) (x y z : List ℕ) → b ≡ a → s ≡ t → x ≡ z → y ≡ z → a ∷ records_after s x ≡ b ∷ records_after t y
joined a b s t x y z first state rest left = rw (first, state, rest, left) refl

-- a read that found a record
pub read-next : (a b : TextReader) (fields : List (List ℕ)) → IsBetween a → IsReadOf a b fields → IsNext a b fields
unfolding Reached
read-next a b fields h r =
    let rem : Text → Option (List ℕ) = λ t. Some (text_in t) in
    let y : List ℕ = text_left a in
    let g = rows-more rem a b fields default_config a.state y y [] h.config h.known (refl, refl) r.read in
    let z : List ℕ = g.0 in
    let left : text_left b ≡ z = ap (λ o. unwrap_or o []) g.1 in
    let p : Read = g.2.0 in
    let here = read-here a.state y p h.state g.2.1 in
    let state : p.1 ≡ b.state = g.2.3.0 in
    let rest : p.2 ≡ z = g.2.3.1 in
    let fields-are : fields ≡ p.0 = g.2.2 in
    record {
      between = record {
        ready = inl r.first;
        plain = r.read.3 ∙ h.plain;
        config = r.read.2 ∙ h.config;
        flexible = r.flexible ∙ h.flexible;
        state = subst (λ s. ends_at_end s ≡ false) state here.state;
        known = known-left (text_known b) z g.1;
      };
      first = records-first a.state y p h.state g.2.1 ∙ joined p.0 fields p.1 b.state p.2 (text_left b) z fields-are state rest left;
      shorter = rw (left, ← rest) here.shorter;
    }

-- a read that found none
pub read-none : (a b : TextReader) (fields : List (List ℕ)) → IsBetween a → ReadRecord (λ t. Some (text_in t)) a b false fields → records_left a ≡ []
read-none a b fields h r = records-none a.state (text_left a) (rows-end (λ t. Some (text_in t)) a b fields default_config (text_left a) h.config h.known r)

-- a reader that was opened on a file has its records to give
pub record IsOpened (r : TextReader) (bytes : List ℕ) : Type 0 where
  pub state : r.state ≡ st.StartRecord
  pub known : text_known r ≡ Some (strip_bom bytes)

pub opened-records : (r : TextReader) (bytes : List ℕ) → IsOpened r bytes → records_left r ≡ records default_config (strip_bom bytes)
opened-records r bytes h = rw (h.state, ap (λ o. unwrap_or o []) h.known) refl
