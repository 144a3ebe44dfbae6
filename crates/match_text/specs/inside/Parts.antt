-- The parts of the line of a piece.
use Rattle.std.specs.Prelude.{ℕ, List, ◌∷◌, ◌++◌, codes}
use Rattle.std.specs.List.{flat_map}
use Rattle.decimal_text.specs.Number.{decimal}
use Rattle.match_text.specs.declared.matched.Routed.{Routed}

-- the line up to its route
abbrev pub piece_head : Routed → List ℕ
piece_head piece =
    codes "piece " ++ (decimal piece.first ++ (32 ∷ (decimal piece.last
    ++ (codes " cost " ++ (decimal piece.cost ++ codes " route")))))

-- each number after a space
abbrev pub numbers_text : List ℕ → List ℕ
numbers_text numbers = flat_map (λ n. 32 ∷ decimal n) numbers
