-- Known bytes that stay, or grow by a text or a part of it.
use Rattle.std.proofs.Common.{◌≡◌, ℕ, List, [], ◌++◌, length, take, drop, Some, None, sym, ap, subst, arith, rules, append_assoc}
use Rattle.std.specs.declared.option.Option.{Option}
use Rattle.std.specs.Io.KnownBytes.{Appends}
use Rattle.std.proofs.lemmas.Grind.{common_steps}
use Rattle.std.proofs.Math.Seq.{take-length}
use Rattle.edge_io.specs.Sink.{AppendsPrefix}

pub appends_nothing : (known : Option (List ℕ)) → Appends known known []
appends_nothing None = tt
appends_nothing (Some xs) = search rules

-- two texts one after the other
pub appends_more : (old between new : Option (List ℕ)) (xs ys : List ℕ) → Appends old between xs → Appends between new ys → Appends old new (xs ++ ys)
appends_more None between new xs ys first second = tt
appends_more (Some ps) None new xs ys first second = absurd first
appends_more (Some ps) (Some qs) None xs ys first second = absurd second
appends_more (Some ps) (Some qs) (Some rs) xs ys first second = grind (arith, common_steps)

-- a whole text is a prefix of it
pub prefix_whole : (old new : Option (List ℕ)) (text : List ℕ) → Appends old new text → AppendsPrefix old new text
prefix_whole old new text grown = (length text, subst (Appends old new) (sym (take-length text)) grown)

pub prefix_nothing : (old new : Option (List ℕ)) (text : List ℕ) → Appends old new [] → AppendsPrefix old new text
prefix_nothing old new text grown = (0, grown)

-- the front of a text is a prefix of it
pub prefix_front : (old new : Option (List ℕ)) (front rest : List ℕ) → Appends old new front → AppendsPrefix old new (front ++ rest)
prefix_front old new front rest grown =
    (length front, subst (Appends old new) (grind (arith, common_steps)) grown)

-- a prefix of a text is its front, with a rest
pub prefix_parts : (old new : Option (List ℕ)) (text : List ℕ) → AppendsPrefix old new text → (front rest : List ℕ) × (text ≡ front ++ rest) × Appends old new front
prefix_parts old new text grown = (take grown.0 text, drop grown.0 text, grind (arith, common_steps), grown.1)

-- a prefix of a text is one of a longer text
pub prefix_longer : (old new : Option (List ℕ)) (text more : List ℕ) → AppendsPrefix old new text → AppendsPrefix old new (text ++ more)
prefix_longer old new text more grown =
    let parts = prefix_parts old new text grown in
    subst (AppendsPrefix old new) (ap (λ t. t ++ more) (sym parts.2)) (subst (AppendsPrefix old new) (sym (append_assoc parts.0 parts.1 more)) (prefix_front old new parts.0 (parts.1 ++ more) parts.3))

-- a whole text, and then a prefix of another
pub prefix_after : (old between new : Option (List ℕ)) (xs ys : List ℕ) → Appends old between xs → AppendsPrefix between new ys → AppendsPrefix old new (xs ++ ys)
prefix_after old between new xs ys first second =
    let parts = prefix_parts between new ys second in
    subst (λ t. AppendsPrefix old new (xs ++ t)) (sym parts.2) (subst (AppendsPrefix old new) (append_assoc xs parts.0 parts.1) (prefix_front old new (xs ++ parts.0) parts.1 (appends_more old between new xs parts.0 first parts.3)))
