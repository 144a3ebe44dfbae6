-- Each step of a seat keeps the rule of the vouchers.
use Rattle.std.proofs.Common.{◌≡◌, ◌≢◌, ◌<◌, ℕ, zero, suc, List, [], ◌∷◌, map, length, length-set, set, replicate, get_or-set_same, get_or-set_other, Option, Some, None, refl, sym, ap, ◌∙◌, subst, ⊎_elim, arith}
use Rattle.std.specs.Prelude.{slice_index}
use mathlib.Core.Logic.{dite}
use mathlib.Core.Option.{some, some-ne-none, some-injective}
use native.Mathlib.Decide.{ℕ_discrete}
use lib.ListN.{get_elem?}
use lib.Seq.{set-get_or}
use prog.Atomic.{either}
use Rattle.atomic_table.specs.Table.{Allows, Enters, Me, State, gives, keeps, opening, rest, stepped, takes}
use Rattle.atomic_table.proofs.Lists.{at_snoc, exchanged, set_again, set_else, set_here}
use Rattle.std.specs.Option.{IfSome}
use Rattle.once_cell.specs.Once.{Agrees}
use Rattle.once_cell.specs.declared.race.note.Note.{Note}
use Rattle.bounded_table.specs.Table.{IsRow, TableRow}
use Rattle.row_store.specs.Store.{SlotSet}
use Rattle.row_store.specs.inside.Vouchers.{HasVoucher, IsVoucher, Name, Takes, Vouched}
use Rattle.std.proofs.Common.{eqb}
use Rattle.std.proofs.lemmas.List.{length-replicate}

abbrev Held : Type 0
Held = Option (Note TableRow)

abbrev Table : Type 0
Table = State Held Name

abbrev pub Seat : Type 0
Seat = Me Held Name

-- no word and no view changes
same_words : (name : Name) (s : Table) (v id : ℕ) (view : Name) → get_elem? s.views id ≡ some view → Vouched name s
    → Vouched name record { words = set s.words v (slice_index s.words v); homes = s.homes; views = set s.views id view }
same_words name s v id view at r = subst (Vouched name) (λ i. record { words = (sym (set-get_or s.words v 0)) i; homes = s.homes; views = (sym (set_again s.views id view at)) i }) r

-- the place of v is out, or has a voucher, and no view changes
changed : (name : Name) (s : Table) (v id word : ℕ) (view : Name) (homes : List (mathlib.Core.Option.Option Held)) → get_elem? s.views id ≡ some view → Vouched name s
    → v < length s.homes → length homes ≡ length s.homes → ((k : ℕ) → k ≢ v → get_elem? homes k ≡ get_elem? s.homes k)
    → (word ≢ 2 → (held : Held) × (get_elem? homes v ≡ some (some held)) × (word ≡ 1 → HasVoucher name v held))
    → Vouched name record { words = set s.words v word; homes = homes; views = set s.views id view }
changed name s v id word view homes at r inside long others here = record {
  long = length-set s.words v word ∙ r.long ∙ sym long;
  home = λ k h n. dite (ℕ_discrete k v)
      (λ (e : k ≡ v). subst (λ (z : ℕ). (held : Held) × (get_elem? homes z ≡ some (some held)) × (slice_index (set s.words v word) z ≡ 1 → HasVoucher name z held)) (sym e)
      (let w : slice_index (set s.words v word) v ≡ word = get_or-set_same s.words v word 0 (let l = r.long in omega arith) in
      let there = here (λ two. n (ap (slice_index (set s.words v word)) e ∙ w ∙ two)) in
      (there.0, there.1, λ one. there.2 (sym w ∙ one))))
      (λ (e : k ≢ v).
      let w : slice_index (set s.words v word) k ≡ slice_index s.words k = get_or-set_other s.words v k word 0 e in
      let there = r.home k (omega arith) (λ two. n (w ∙ two)) in
      (there.0, others k e ∙ there.1, λ one. there.2 (sym w ∙ one)));
  named = λ k view' e. r.named k view' (ap (λ (l : List Name). get_elem? l k) (sym (set_again s.views id view at)) ∙ e);
}

-- taking what is in a place that is at home
pub takes_out : (name : Name) (slots id v expected : ℕ) (me : Seat) → v < slots → expected ≢ 2
    → Allows (Vouched name) slots id me v (λ found. either (eqb found expected) 2 found) (Takes expected v me)
takes_out name slots id v expected me inside free s r long at fits =
    let found : ℕ = slice_index s.words v in
    exchanged found expected 2
    (λ (n : ℕ). (w : Name) × (a : Rattle.atomic_table.specs.Table.Act Held) × Rattle.atomic_table.specs.Table.Valid s.homes me.1 a × Vouched name (stepped s v n id me.1 w a) × Takes expected v me found (w, Rattle.atomic_table.specs.Table.carried_after me.1 a))
    (λ (e : found ≡ expected).
    let there = r.home v (omega arith) (λ two. free (sym e ∙ two)) in
    let view : me.0 ≡ name = r.named id me.0 at in (
      me.0,
      takes v there.0,
      there.1,
      changed name s v id 2 me.0 (set s.homes v mathlib.Core.Option.none) at r (omega arith) (length-set s.homes v mathlib.Core.Option.none) (λ k ne. set_else s.homes v k mathlib.Core.Option.none ne) (λ ne. absurd (ne refl)),
      record { taken = λ _. (there.0, refl, λ one. subst (λ (n : Name). HasVoucher n v there.0) (sym view) (there.2 one)); not = λ ne. absurd (ne e) },
    ))
    (λ (ne : found ≢ expected). (me.0, keeps, tt, same_words name s v id me.0 at r, record { taken = λ e. absurd (ne e); not = λ _. refl }))

-- putting a voucher into the place it was taken from
pub puts_in : (name : Name) (slots id v : ℕ) (view : Name) (held : Held) (others : List (ℕ × Held)) → v < slots → HasVoucher name v held
    → Allows (Vouched name) slots id (view, (v, held) ∷ others) v (λ _. 1) (λ _ new. new ≡ (view, others))
puts_in name slots id v view held others inside right s r long at fits = (
  view,
  gives,
  tt,
  changed name s v id 1 view (set s.homes v (some held)) at r (omega arith) (length-set s.homes v (some held)) (λ k ne. set_else s.homes v k (some held) ne) (λ _. (held, set_here s.homes v (some held) (omega arith), λ _. right)),
  refl,
)

-- a new seat knows the name
pub sits : (name : Name) (slots : ℕ) → Enters (Vouched name) slots 0 (λ _ view. view ≡ name)
sits name slots s r long fits = (
  name,
  record {
    long = r.long;
    home = r.home;
    named = λ k view e. ⊎_elim (λ (old : get_elem? s.views k ≡ some view). r.named k view old) (λ (new : name ≡ view). sym new) (at_snoc s.views name view k e);
  },
  refl,
)

-- nothing is there at the start
pub begins : (name : Name) (words : List ℕ) (count : ℕ) → words ≡ replicate count 0 → Vouched name (opening words (replicate count None) name)
begins name words count blank = subst (λ (ws : List ℕ). Vouched name (opening ws (replicate count None) name)) (sym blank) (record {
  long = longs count;
  home = λ v h n. (None, empty count v (subst (λ (k : ℕ). v < k) (sym (longs count) ∙ length-replicate count (let z : ℕ = 0 in z)) h), λ one. absurd (let z = zeros count v in omega arith));
  named = λ k view e. one k view e;
})
  where
    longs : (count : ℕ) → length {A = ℕ} (replicate count 0) ≡ length (map some (replicate count (let none : Held = None in none)))
    longs zero = refl
    longs (suc count) = ap suc (longs count)

    empty : (count v : ℕ) → v < count → get_elem? (map some (replicate count (let none : Held = None in none))) v ≡ some (some None)
    empty zero v h = absurd (omega arith)
    empty (suc count) zero h = refl
    empty (suc count) (suc v) h = empty count v (omega arith)

    zeros : (count v : ℕ) → slice_index (replicate count (let z : ℕ = 0 in z)) v ≡ 0
    zeros zero v = refl
    zeros (suc count) zero = refl
    zeros (suc count) (suc v) = zeros count v

    one : (k : ℕ) (view : Name) → get_elem? (name ∷ []) k ≡ some view → view ≡ name
    one zero view e = sym (some-injective name view e)
    one (suc k) view e = absurd (some-ne-none view (sym e))

-- what a seat has after it took something out and put something else in its stead
pub exchanged_for : (name : Name) (v : ℕ) (held new : Held) (before out after : Seat) → before ≡ (name, []) → out ≡ (before.0, (v, held) ∷ before.1) → after ≡ (out.0, (v, new) ∷ rest out.1) → after ≡ (name, (v, new) ∷ [])
exchanged_for name v held new before out after e f g = g ∙ ap (λ (m : Seat). let n : Seat = (m.0, (v, new) ∷ rest m.1) in n) (f ∙ ap (λ (m : Seat). let n : Seat = (m.0, (v, held) ∷ m.1) in n) e)

-- so it can give that back
pub gives_back : (name : Name) (slots id v : ℕ) (held : Held) (me : Seat) → v < slots → HasVoucher name v held → me ≡ (name, (v, held) ∷ [])
    → Allows (Vouched name) slots id me v (λ _. 1) (λ _ new. new ≡ (me.0, rest me.1))
gives_back name slots id v held me inside right is =
    subst (λ (m : Seat). Allows (Vouched name) slots id m v (λ _. 1) (λ _ new. new ≡ (m.0, rest m.1))) (sym is) (puts_in name slots id v name held [] inside right)

-- what was put in another's stead was that
pub out_is : (v : ℕ) (held result : Held) (before out : Seat) → out ≡ (before.0, (v, held) ∷ before.1) → out.1 ≡ (v, result) ∷ rest out.1 → result ≡ held
out_is v held result before out e f = ap first (sym f ∙ ap (λ (m : Seat). m.1) e)
  where
    first : List (ℕ × Held) → Held
    first [] = None
    first (x ∷ xs) = x.1

-- a row that a note knows is right if a voucher of that slot agrees with the note
pub agreed : (slots : SlotSet) (v : ℕ) (known : Option TableRow) (row : TableRow) (left : Note TableRow) → known ≡ Some row → IsVoucher slots v left → IfSome left.known (Agrees known) → IsRow slots.network slots.bound v row
agreed slots v known row left mine voucher agree = subst (IsRow slots.network slots.bound v) (sym (one_row known left.known row voucher.row mine voucher.known agree)) voucher.right
  where
    one_row : (a b : Option TableRow) (x y : TableRow) → a ≡ Some x → b ≡ Some y → IfSome b (Agrees a) → x ≡ y
    one_row None b x y e f h = absurd (cc)
    one_row (Some p) None x y e f h = absurd (cc)
    one_row (Some p) (Some q) x y e f h = let k : p ≡ x = cc in let l : q ≡ y = cc in sym k ∙ h ∙ l

-- the voucher that a seat has taken out, of slots that have the name
pub voucher_of : (name : Name) (slots : SlotSet) (v : ℕ) (held : Held) (left : Note TableRow) → HasVoucher name v held → name.views ≡ slots ∷ [] → held ≡ Some left → IsVoucher slots v left
voucher_of name slots v held left has named is =
    let same : has.slots ≡ slots = (let e : has.slots ∷ [] ≡ slots ∷ [] = sym has.named ∙ named in cc) in
    let note : has.note ≡ left = (let e : Some has.note ≡ Some left = sym has.is ∙ is in cc) in
    subst (λ (s : SlotSet). IsVoucher s v left) same (subst (IsVoucher has.slots v) note has.right)
