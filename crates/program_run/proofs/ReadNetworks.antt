-- A network that is read from a file is lawful, and the ids of its edges fit 32 bits.
use Rattle.std.proofs.Common.{◌≡◌, ℕ, zero, suc, ◌+◌, ◌^◌, ◌<◌, ◌≤◌, Bool, true, false, cond, nat_lt, List, [], ◌∷◌, ◌++◌, length, ℤ, pos, nat_abs, drop, Option, Some, None, Result, Ok, Err, refl, ap, subst, arith, ◌==◌}
use Rattle.std.specs.Prelude.{neg_ℤ}
use Rattle.std.specs.List.{All, after_first, before_first, slice_split}
use Rattle.std.specs.Result.{result_err, result_map_both, result_unwrap_or}
use Rattle.std.specs.Str.Parse.{starts_with_minus}
use Rattle.std.proofs.lemmas.List.Elements.{All-nil, All-push, All-cons}
use Rattle.decimal_text.specs.Blank.{is_blank, trim}
use Rattle.decimal_text.specs.Number.{signed_within, unsigned_within}
use Rattle.decimal_text.specs.declared.number.NumberFault.{NumberFault}
use Rattle.decimal_text.specs.declared.number.NumberFault.TheVariants.{Misspelt, OutOfRange}
use Rattle.decimal_text.proofs.Laws.{Spells-unsigned_within}
use Rattle.polyline_geometry.specs.declared.plane.Point.{Point}
use Rattle.polyline_geometry.specs.Plane.{InRange}
use Rattle.road_network.specs.declared.fault.NetworkFault.{NetworkFault}
use Rattle.road_network.specs.declared.fault.NetworkFault.TheVariants as fault
use Rattle.road_network.specs.declared.limits.NetworkLimits.{NetworkLimits}
use Rattle.road_network.specs.Limits.{file_limit}
use Rattle.road_network.specs.Net.{Edge, IsLawful, Net}
use Rattle.road_network.specs.NetworkFile.{Row, add_record, add_records, add_row, both, edge_with, field_faults, first_fault, has_name, is_header, line_faults, line_of, make_point, network_of, network_of_records, next, nodes_with, no_net, point_of, points_of, row_faults, row_from, row_of, unless, with_row}
use Rattle.road_network.proofs.Growing.{IsFaultless, lawful-more, limits_with}

-- ---- coordinates

abs_of_sign : (f : ℕ → ℤ) (keeps : (n : ℕ) → nat_abs (f n) ≡ n) (most : ℕ) (read : Result ℕ NumberFault) (z : ℤ) → ((n : ℕ) → read ≡ Ok n → n ≤ most)
    → result_map_both f (λ fault. fault) read ≡ Ok z → nat_abs z ≤ most
abs_of_sign f keeps most (Ok n) z small is =
    let same : f n ≡ z = cc is in
    omega (arith, small n refl, keeps n, ap nat_abs same)
abs_of_sign f keeps most (Err fault) z small is = absurd (cc is)

abs_negative : (n : ℕ) → nat_abs (neg_ℤ (pos n)) ≡ n
abs_negative zero = refl
abs_negative (suc n) = refl

abs_by_minus : (minus : Bool) (most : ℕ) (z : ℤ) (text : List ℕ)
    → cond minus (result_map_both (λ n. neg_ℤ (pos n)) (λ fault. fault) (unsigned_within most (drop 1 text))) (result_map_both pos (λ fault. fault) (unsigned_within most text)) ≡ Ok z
    → nat_abs z ≤ most
abs_by_minus true most z text read =
    abs_of_sign (λ n. neg_ℤ (pos n)) abs_negative most (unsigned_within most (drop 1 text)) z (λ n e. (Spells-unsigned_within most n (drop 1 text) e).small) read
abs_by_minus false most z text read =
    abs_of_sign pos (λ n. refl) most (unsigned_within most text) z (λ n e. (Spells-unsigned_within most n text e).small) read

signed_small : (most : ℕ) (z : ℤ) (text : List ℕ) → signed_within most text ≡ Ok z → nat_abs z ≤ most
unfolding signed_within
signed_small most z text read = abs_by_minus (starts_with_minus text) most z text read

-- ---- lines

-- both readings succeeded
record BothRead {A B C : Type 0} (f : A → B → C) (x : Result A NumberFault) (y : Result B NumberFault) (c : C) : Type 0 where
  first : A
  second : B
  first_is : x ≡ Ok first
  second-is : y ≡ Ok second
  is : f first second ≡ c

both_read : {A B C : Type 0} (f : A → B → C) (x : Result A NumberFault) (y : Result B NumberFault) (c : C) → both f x y ≡ Ok c → BothRead f x y c
both_read f (Ok a) (Ok b) c e = record { first = a; second = b; first_is = refl; second-is = refl; is = cc e }
both_read f (Ok a) (Err g) c e = absurd (cc e)
both_read f (Err Misspelt) y c e = absurd (cc e)
both_read f (Err OutOfRange) (Ok b) c e = absurd (cc e)
both_read f (Err OutOfRange) (Err g) c e = absurd (cc e)

point_within : (part : List ℕ) (p : Point) → point_of part ≡ Ok p → InRange p
point_within part p e =
    let text = trim part in
    let b = both_read make_point (signed_within 1_000_000_000 (before_first is_blank text)) (signed_within 1_000_000_000 (trim (after_first is_blank text))) p e in
    subst InRange b.is (record {
      x_abs = signed_small 1_000_000_000 b.first (before_first is_blank text) b.first_is;
      y_abs = signed_small 1_000_000_000 b.second (trim (after_first is_blank text)) b.second-is;
    })

points_within : (parts : List (List ℕ)) (line : List Point) → points_of parts ≡ Ok line → All InRange line
points_within [] line e = let same : [] ≡ line = cc e in subst (λ (l : List Point). All InRange l) same (All-nil InRange)
points_within (part ∷ parts) line e =
    let b = both_read (λ p l. p ∷ l) (point_of part) (points_of parts) line e in
    subst (λ (l : List Point). All InRange l) b.is (All-cons InRange b.first b.second (point_within part b.first b.first_is) (points_within parts b.second b.second-is))

line_within : (field : List ℕ) (line : List Point) → line_of field ≡ Ok line → All InRange line
unfolding line_of
line_within field line e = points_within (slice_split (λ c. c == 59) field) line e

-- ---- rows

record IsShortRow (r : Row) : Type 0 where
  name : r.name < 2 ^ 32
  within : All InRange r.line

name_or_zero : (read : Result ℕ NumberFault) → ((n : ℕ) → read ≡ Ok n → n ≤ 4_294_967_295) → result_unwrap_or read 0 < 2 ^ 32
name_or_zero (Ok n) small = let le = small n refl in omega (arith, le)
name_or_zero (Err e) small = omega arith

line_or_none : (read : Result (List Point) NumberFault) → ((line : List Point) → read ≡ Ok line → All InRange line) → All InRange (result_unwrap_or read [])
line_or_none (Ok line) within = within line refl
line_or_none (Err e) within = All-nil InRange

-- no fault was there
unless_ok : {A E : Type 0} (o : Option E) (value a : A) → unless o value ≡ Ok a → (o ≡ None) × (value ≡ a)
unless_ok None value a e = (refl, cc e)
unless_ok (Some f) value a e = absurd (cc e)

row_of_four : (rec : ℕ) (name start end line : List ℕ) (r : Row)
    → row_from rec (unsigned_within 4_294_967_295 name) (unsigned_within 18_446_744_073_709_551_615 start) (unsigned_within 18_446_744_073_709_551_615 end) (line_of line) ≡ Ok r → IsShortRow r
row_of_four rec name start end line r e =
    let a = unsigned_within 4_294_967_295 name in
    let b = unsigned_within 18_446_744_073_709_551_615 start in
    let c = unsigned_within 18_446_744_073_709_551_615 end in
    let d = line_of line in
    let made : Row = record { name = result_unwrap_or a 0; «from» = result_unwrap_or b 0; to = result_unwrap_or c 0; line = result_unwrap_or d [] } in
    let u = unless_ok (first_fault (field_faults rec (result_err a ∷ result_err b ∷ result_err c ∷ result_err d ∷ []))) made r e in
    subst IsShortRow u.1 (record {
      name = name_or_zero a (λ n q. (Spells-unsigned_within 4_294_967_295 n name q).small);
      within = line_or_none d (λ l q. line_within line l q);
    })

row_short : (rec : ℕ) (fields : List (List ℕ)) (r : Row) → row_of rec fields ≡ Ok r → IsShortRow r
unfolding row_of
row_short rec [] r e = absurd (cc e)
row_short rec (a ∷ []) r e = absurd (cc e)
row_short rec (a ∷ b ∷ []) r e = absurd (cc e)
row_short rec (a ∷ b ∷ c ∷ []) r e = absurd (cc e)
row_short rec (name ∷ start ∷ end ∷ line ∷ []) r e = row_of_four rec name start end line r e
row_short rec (a ∷ b ∷ c ∷ d ∷ f ∷ rest) r e = absurd (cc e)

-- ---- networks

record IsReadable (n : Net) : Type 0 where
  lawful : IsLawful n
  names : All (λ (e : Edge). e.name < 2 ^ 32) n.edges

first_parts : (xs ys : List (Option NetworkFault)) → first_fault (xs ++ ys) ≡ None → (first_fault xs ≡ None) × (first_fault ys ≡ None)
first_parts [] ys e = (refl, e)
first_parts (None ∷ xs) ys e = first_parts xs ys e
first_parts (Some x ∷ xs) ys e = absurd (cc e)

no_name : (b : Bool) (x : NetworkFault) (faults : List (Option NetworkFault)) → first_fault (cond b (Some x) None ∷ faults) ≡ None → (b ≡ false) × (first_fault faults ≡ None)
no_name true x faults e = absurd (cc e)
no_name false x faults e = (refl, e)

row_added : (l : NetworkLimits) (n m : Net) (r : Row) → IsReadable n → IsShortRow r → add_row l n r ≡ Ok m → IsReadable m
unfolding add_row
row_added l n m r h short e =
    let rec = length n.edges + 1 in
    let u = unless_ok (first_fault (row_faults l n rec r)) (with_row n r) m e in
    let name = no_name (has_name n r.name) (fault.DuplicateEdge rec) (line_faults rec r.line ++ limits_with l n r) u.0 in
    let parts = first_parts (line_faults rec r.line) (limits_with l n r) name.1 in
    let faultless : IsFaultless l n r = record { named = name.0; line = parts.0; limits = parts.1; within = short.within } in
    subst IsReadable u.1 (record {
      lawful = lawful-more l n r h.lawful faultless;
      names = All-push (λ (x : Edge). x.name < 2 ^ 32) n.edges (edge_with (nodes_with n.nodes r) r) h.names short.name;
    })

record FollowsRead {A B : Type 0} (x : Result A NetworkFault) (f : A → Result B NetworkFault) (b : B) : Type 0 where
  first : A
  first_is : x ≡ Ok first
  then-is : f first ≡ Ok b

next_read : {A B : Type 0} (x : Result A NetworkFault) (f : A → Result B NetworkFault) (b : B) → next x f ≡ Ok b → FollowsRead x f b
next_read (Ok a) f b e = record { first = a; first_is = refl; then-is = e }
next_read (Err g) f b e = absurd (cc e)

record_added : (l : NetworkLimits) (n m : Net) (fields : List (List ℕ)) → IsReadable n → add_record l n fields ≡ Ok m → IsReadable m
unfolding add_record
record_added l n m fields h e =
    let f = next_read (row_of (length n.edges + 1) fields) (add_row l n) m e in
    row_added l n m f.first h (row_short (length n.edges + 1) fields f.first f.first_is) f.then-is

records_added : (l : NetworkLimits) (n m : Net) (records : List (List (List ℕ))) → IsReadable n → add_records l n records ≡ Ok m → IsReadable m
unfolding add_records
records_added l n m [] h e = let same : n ≡ m = cc e in subst IsReadable same h
records_added l n m (fields ∷ records) h e =
    let f = next_read (add_record l n fields) (λ k. add_records l k records) m e in
    records_added l f.first m records (record_added l n f.first fields h f.first_is) f.then-is

nothing_readable : IsReadable no_net
nothing_readable = record {
  lawful = record {
    few_nodes = omega arith;
    few_edges = omega arith;
    few_points = omega arith;
    sources = λ e lt. absurd (omega (arith, lt));
    targets = λ e lt. absurd (omega (arith, lt));
    lines = λ e lt. absurd (omega (arith, lt));
    short_lines = λ e lt. absurd (omega (arith, lt));
    not_empty = λ e lt. absurd (omega (arith, lt));
    not_long = λ e lt. absurd (omega (arith, lt));
    names_differ = λ e f lt. absurd (omega (arith, lt));
  };
  names = All-nil (λ (e : Edge). e.name < 2 ^ 32);
}

on_ok : {A : Type 0} (b : Bool) (g : NetworkFault) (x : Result A NetworkFault) (a : A) → cond b x (Err g) ≡ Ok a → x ≡ Ok a
on_ok true g x a e = e
on_ok false g x a e = absurd (cc e)

not_ok : {A : Type 0} (b : Bool) (g : NetworkFault) (x : Result A NetworkFault) (a : A) → cond b (Err g) x ≡ Ok a → x ≡ Ok a
not_ok true g x a e = absurd (cc e)
not_ok false g x a e = e

records_read : (l : NetworkLimits) (records : List (List (List ℕ))) (n : Net) → network_of_records l records ≡ Ok n → IsReadable n
unfolding network_of_records
records_read l [] n e = absurd (cc e)
records_read l (names ∷ records) n e =
    records_added l no_net n records nothing_readable (on_ok (is_header names) fault.BadHeader (add_records l no_net records) n e)

read_network : (l : NetworkLimits) (bytes : List ℕ) (n : Net) → network_of l bytes ≡ Ok n → IsReadable n
unfolding network_of
read_network l bytes n e = records_read l _ n (not_ok (nat_lt (file_limit l) (length bytes)) fault.FileTooLong _ n e)

pub read_lawful : (l : NetworkLimits) (bytes : List ℕ) (n : Net) → network_of l bytes ≡ Ok n → IsLawful n
read_lawful l bytes n e = (read_network l bytes n e).lawful

pub read_names : (l : NetworkLimits) (bytes : List ℕ) (n : Net) → network_of l bytes ≡ Ok n → All (λ (e : Edge). e.name < 2 ^ 32) n.edges
read_names l bytes n e = (read_network l bytes n e).names
