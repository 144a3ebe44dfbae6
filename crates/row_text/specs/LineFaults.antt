-- What the faults of a text of lines mean, for any kind of text: which line is the first that is not
-- allowed, and when a text is cut.
use Rattle.std.specs.Prelude.{ℕ, ◌≡◌, ◌≢◌, ◌-◌, ◌≤◌, ◌⊎◌, ◌==◌, List, ◌∷◌, ◌++◌, length, take}
use Rattle.std.specs.List.{concat, count_by}

-- how many complete lines the text has
abbrev pub line_count : List ℕ → ℕ
line_count text = count_by (λ b. b == 10) text

-- the text begins with the first n lines of a text of this kind
pub record BeginsWithLinesOf (IsText : List (List ℕ) → Type 0) (n : ℕ) (text : List ℕ) : Type 0 where
  pub lines : List (List ℕ)
  pub is : IsText lines
  pub enough : n ≤ length lines
  pub rest : List ℕ
  pub begins : text ≡ concat (take n lines) ++ rest

-- the text begins with all lines of a text of this kind
pub record BeginsWithWholeOf (IsText : List (List ℕ) → Type 0) (text : List ℕ) : Type 0 where
  pub lines : List (List ℕ)
  pub is : IsText lines
  pub rest : List ℕ
  pub begins : text ≡ concat lines ++ rest

-- a byte follows all n lines of a text of this kind
pub record GoesPastWholeOf (IsText : List (List ℕ) → Type 0) (n : ℕ) (text : List ℕ) : Type 0 where
  pub lines : List (List ℕ)
  pub is : IsText lines
  pub count : length lines ≡ n
  pub byte : ℕ
  pub rest : List ℕ
  pub goes : text ≡ concat lines ++ byte ∷ rest

-- the lines before line n, from 1, are allowed; line n is not, and it is complete or follows the last line
pub record IsFirstBadLineOf (IsText : List (List ℕ) → Type 0) (n : ℕ) (text : List ℕ) : Type 0 where
  pub positive : 1 ≤ n
  pub before : BeginsWithLinesOf IsText (n - 1) text
  pub bad : ¬ BeginsWithLinesOf IsText n text
  pub not_whole : (lines : List (List ℕ)) → IsText lines → text ≢ concat lines
  pub ended : (n ≤ line_count text) ⊎ GoesPastWholeOf IsText (n - 1) text

-- each complete line is allowed, and the last line of a text is missing
pub record IsCutOf (IsText : List (List ℕ) → Type 0) (text : List ℕ) : Type 0 where
  pub allowed : BeginsWithLinesOf IsText (line_count text) text
  pub missing : ¬ BeginsWithWholeOf IsText text
