-- Rows of a certificate, tried one by one.
use Rattle.std.proofs.Common.{◌≡◌, ◌<◌, ◌≤◌, ℕ, ◌+◌, Bool, true, false, cond, List, [], ◌∷◌, length, get_or, drop, Some, None, refl, sym, ◌∙◌, ap}
use Rattle.std.specs.Prelude.{◌&&◌, nat_le, nat_lt}
use Rattle.std.proofs.lemmas.Bool.{leb-true, ltb-true, true≢false}
use Rattle.std.proofs.lemmas.List.{drop_all}
use Rattle.road_network.specs.Net.{Net}
use Rattle.bounded_table.specs.RightRow.{is_right_row}
use Rattle.bounded_table.specs.Table.{TableRow}
use Rattle.bounded_table.proofs.RightRows.{has_right_entries}
use Rattle.matching.proofs.Lists.{drop-at}
use Rattle.cert_checker.specs.Rows.{bad_row_from, is_next_row}

next_row : (rows : List TableRow) (k : ℕ) (row : TableRow) → k < length rows → get_or rows k row ≡ row → drop k rows ≡ row ∷ drop (k + 1) rows
next_row rows k row lt is = drop-at rows k row (record { below = lt; is = sym is })

-- the next row is right; its number is told
pub good_row : (net : Net) (bound least number k : ℕ) (rows : List TableRow) (row : TableRow) → k < length rows → get_or rows k row ≡ row → is_next_row net bound least row ≡ true
    → bad_row_from net bound (row.origin + 1) (number + 1) (drop (k + 1) rows) ≡ bad_row_from net bound least number (drop k rows)
good_row net bound least number k rows row lt is good =
    sym (ap (bad_row_from net bound least number) (next_row rows k row lt is)
    ∙ ap (λ v. cond v (bad_row_from net bound (row.origin + 1) (number + 1) (drop (k + 1) rows)) (Some number)) good)

-- and where it is not
pub bad_row : (net : Net) (bound least number k : ℕ) (rows : List TableRow) (row : TableRow) → k < length rows → get_or rows k row ≡ row → is_next_row net bound least row ≡ false
    → Some number ≡ bad_row_from net bound least number (drop k rows)
bad_row net bound least number k rows row lt is bad =
    sym (ap (bad_row_from net bound least number) (next_row rows k row lt is)
    ∙ ap (λ v. cond v (bad_row_from net bound (row.origin + 1) (number + 1) (drop (k + 1) rows)) (Some number)) bad)

pub both_true : (a b : Bool) → (a && b) ≡ true → (a ≡ true) × (b ≡ true)
both_true true b h = (refl, h)
both_true false b h = absurd (true≢false (sym h))

-- the origin of a right row is a node, not below the least
pub next_within : (net : Net) (bound least : ℕ) (row : TableRow) → is_next_row net bound least row ≡ true → (least ≤ row.origin) × (row.origin < length net.nodes)
next_within net bound least row h =
    let parts = both_true (nat_le least row.origin) (is_right_row net bound row) h in
    (leb-true least row.origin parts.0, ltb-true row.origin (length net.nodes) (both_true (nat_lt row.origin (length net.nodes)) (has_right_entries net bound row) parts.1).0)

pub all_rows : (net : Net) (bound least number k : ℕ) (rows : List TableRow) → length rows ≤ k → None ≡ bad_row_from net bound least number (drop k rows)
all_rows net bound least number k rows le = sym (ap (bad_row_from net bound least number) (drop_all k rows le))

abbrev pub no_row : TableRow
no_row = record { origin = 0; entries = [] }
