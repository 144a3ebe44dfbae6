-- The records of a file, one after the other.
use Rattle.std.proofs.Common.{◌≡◌, ℕ, ◌+◌, ◌<◌, ◌≤◌, ◌&&◌, Bool, true, false, List, [], ◌∷◌, Ok, Err, refl, arith, length}
use Rattle.std.specs.Prelude.{nat_eq, codes}
use lib.Pointwise.{pointwise}
use Rattle.road_network.specs.declared.fault.NetworkFault.{NetworkFault}
use Rattle.road_network.specs.declared.limits.NetworkLimits.{NetworkLimits}
use Rattle.road_network.specs.Limits.{file_limit}
use Rattle.road_network.specs.Net.{Net}
use Rattle.road_network.specs.NetworkFile.{Row, add_record, add_records, add_row, is_header, network_of, network_of_records, no_net, row_of}
use Rattle.road_network.specs.declared.fault.NetworkFault.TheVariants as fault
use Rattle.csv.specs.Reading.{default_config, records, strip_bom}
use Rattle.road_network.proofs.Places.{lt-false, lt-true}

pub record-refused : (l : NetworkLimits) (n : Net) (rec : ℕ) (fields : List (List ℕ)) (e : NetworkFault) → rec ≡ length n.edges + 1 → row_of rec fields ≡ Err e → add_record l n fields ≡ Err e
unfolding add_record
record-refused l n rec fields e is h = let here = rw is at h in rw here refl

pub record-read : (l : NetworkLimits) (n : Net) (rec : ℕ) (fields : List (List ℕ)) (r : Row) → rec ≡ length n.edges + 1 → row_of rec fields ≡ Ok r → add_record l n fields ≡ add_row l n r
unfolding add_record
record-read l n rec fields r is h = let here = rw is at h in rw here refl

pub records-more : (l : NetworkLimits) (n m : Net) (fields : List (List ℕ)) (records : List (List (List ℕ))) → add_record l n fields ≡ Ok m → add_records l n (fields ∷ records) ≡ add_records l m records
unfolding add_records
records-more l n m fields records h = rw h refl

pub records-refused : (l : NetworkLimits) (n : Net) (fields : List (List ℕ)) (records : List (List (List ℕ))) (e : NetworkFault) → add_record l n fields ≡ Err e → add_records l n (fields ∷ records) ≡ Err e
unfolding add_records
records-refused l n fields records e h = rw h refl

pub records-end : (l : NetworkLimits) (n : Net) → add_records l n [] ≡ Ok n
unfolding add_records
records-end l n = refl

and-false : (b : Bool) → (b && false) ≡ false
and-false true = refl
and-false false = refl

-- a record of another number of fields is no header
pub uneven-header : (fields : List (List ℕ)) → (length fields ≡ 4 → ⊥) → is_header fields ≡ false
uneven-header [] h = refl
uneven-header (a ∷ []) h = and-false (pointwise nat_eq a (codes "edge"))
uneven-header (a ∷ b ∷ []) h = rw (and-false (pointwise nat_eq b (codes "from"))) (and-false (pointwise nat_eq a (codes "edge")))
uneven-header (a ∷ b ∷ c ∷ []) h =
    rw (and-false (pointwise nat_eq c (codes "to")), and-false (pointwise nat_eq b (codes "from"))) (and-false (pointwise nat_eq a (codes "edge")))
uneven-header (a ∷ b ∷ c ∷ d ∷ []) h = absurd (h (omega arith))
uneven-header (a ∷ b ∷ c ∷ d ∷ e ∷ fields) h =
    rw (and-false (pointwise nat_eq d (codes "line")), and-false (pointwise nat_eq c (codes "to")), and-false (pointwise nat_eq b (codes "from"))) (and-false (pointwise nat_eq a (codes "edge")))

four-header : (a b c d : Bool) → (((a && b) && c) && d) ≡ (a && (b && (c && (d && true))))
four-header true true true true = refl
four-header true true true false = refl
four-header true true false d = refl
four-header true false c d = refl
four-header false b c d = refl

-- the header, field by field
pub header-read : (fields : List (List ℕ)) (a b c d : List ℕ) (p q r s : Bool) → fields ≡ a ∷ b ∷ c ∷ d ∷ []
    → p ≡ pointwise nat_eq a (codes "edge") → q ≡ pointwise nat_eq b (codes "from") → r ≡ pointwise nat_eq c (codes "to") → s ≡ pointwise nat_eq d (codes "line")
    → (((p && q) && r) && s) ≡ is_header fields
header-read fields a b c d p q r s is hp hq hr hs = rw (is, ← hp, ← hq, ← hr, ← hs) (four-header p q r s)

-- a file, by its length
pub file-long : (l : NetworkLimits) (bytes : List ℕ) → file_limit l < length bytes → network_of l bytes ≡ Err fault.FileTooLong
unfolding network_of
file-long l bytes h = rw (lt-true (file_limit l) (length bytes) h) refl

pub file-short : (l : NetworkLimits) (bytes : List ℕ) → length bytes ≤ file_limit l → network_of l bytes ≡ network_of_records l (records default_config (strip_bom bytes))
unfolding network_of
file-short l bytes h = rw (lt-false (file_limit l) (length bytes) h) refl

-- the records of a file, by the first of them
pub network-empty : (l : NetworkLimits) (rows : List (List (List ℕ))) → rows ≡ [] → network_of_records l rows ≡ Err fault.BadHeader
unfolding network_of_records
network-empty l rows none = rw none refl

pub network-headless : (l : NetworkLimits) (rows : List (List (List ℕ))) (names : List (List ℕ)) (rest : List (List (List ℕ))) → rows ≡ names ∷ rest → is_header names ≡ false → network_of_records l rows ≡ Err fault.BadHeader
unfolding network_of_records
network-headless l rows names rest first other = rw (first, other) refl

pub network-read : (l : NetworkLimits) (rows : List (List (List ℕ))) (names : List (List ℕ)) (rest : List (List (List ℕ))) → rows ≡ names ∷ rest → is_header names ≡ true → network_of_records l rows ≡ add_records l no_net rest
unfolding network_of_records
network-read l rows names rest first headed = rw (first, headed) refl
