-- Lists whose first places are their items, and whose other places are free.
use Rattle.std.proofs.Common.{◌≡◌, ℕ, ◌≤◌, List, length, take, sym, ap, ◌∙◌}
use Rattle.std.proofs.lemmas.List.{take-take}

-- the items stand where they stood when there are more places
pub items_still : {X : Type 0} (count : ℕ) (old new items : List X) → count ≤ length old → take (length old) new ≡ old → take count old ≡ items → take count new ≡ items
items_still count old new items inside same are = sym (take-take count (length old) new inside) ∙ (ap (take count) same ∙ are)
