-- The first line of a text: how it is written, and that it is short.
use Rattle.std.proofs.Common.{◌≡◌, ℕ, ◌^◌, ◌<◌, ◌≤◌, List, [], ◌∷◌, ◌++◌, length, ap, ◌∙◌, append_assoc, arith, length-append}
use Rattle.std.specs.Prelude.{codes}
use Rattle.decimal_text.specs.Number.{decimal}
use Rattle.row_text.proofs.FewDigits.{few_digits}
use Rattle.table_work.specs.TableText.{table_first_line, table_text_limit}

-- what stands behind the bound, and behind the count of nodes
abbrev edges_part : ℕ → List ℕ
edges_part edges = codes " edges " ++ (decimal edges ++ 10 ∷ [])

abbrev nodes_part : ℕ → ℕ → List ℕ
nodes_part nodes edges = codes " nodes " ++ (decimal nodes ++ edges_part edges)

pub first_written : (bound nodes edges : ℕ) (old a b c new : List ℕ)
    → a ≡ old ++ (codes "fmm-table 1 bound " ++ decimal bound) → b ≡ a ++ (codes " nodes " ++ decimal nodes) → c ≡ b ++ (codes " edges " ++ decimal edges)
    → new ≡ c ++ 10 ∷ [] → new ≡ old ++ table_first_line bound nodes edges
first_written bound nodes edges old a b c new first second third last =
    last
    ∙ ap (λ (t : List ℕ). t ++ 10 ∷ []) third ∙ append_assoc b (codes " edges " ++ decimal edges) (10 ∷ [])
    ∙ ap (λ (t : List ℕ). t ++ edges_part edges) second ∙ append_assoc a (codes " nodes " ++ decimal nodes) (edges_part edges)
    ∙ ap (λ (t : List ℕ). t ++ nodes_part nodes edges) first ∙ append_assoc old (codes "fmm-table 1 bound " ++ decimal bound) (nodes_part nodes edges)

pub first_short : (bound nodes edges : ℕ) → bound < 2 ^ 32 → nodes < 2 ^ 32 → edges < 2 ^ 32 → length (table_first_line bound nodes edges) ≤ table_text_limit
first_short bound nodes edges b_fits n_fits e_fits =
    omega (
      arith,
      length-append (decimal bound) (nodes_part nodes edges),
      length-append (decimal nodes) (edges_part edges),
      length-append (decimal edges) (10 ∷ []),
      (few_digits bound b_fits).1,
      (few_digits nodes n_fits).1,
      (few_digits edges e_fits).1,
    )

-- words and a number behind them
pub worded : (old words new : List ℕ) (n number : ℕ) → number ≡ n → new ≡ old ++ (words ++ decimal number) → new ≡ old ++ (words ++ decimal n)
worded old words new n number same is = is ∙ ap (λ (k : ℕ). old ++ (words ++ decimal k)) same
