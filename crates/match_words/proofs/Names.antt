-- The options have different names.
use Rattle.std.proofs.Common.{◌≡◌, ◌≢◌, ℕ, ◌<◌, ◌^◌, true, false, cond, List, codes, refl, sym, ap, ◌∙◌, arith}
use Rattle.std.specs.Str.{bytes_eq}
use Rattle.std.proofs.lemmas.Bool.{false_from_ne_true}
use Rattle.std.proofs.lemmas.Slice.Eq.{bytes_eq-Decides}
use Rattle.command_line.specs.Values.{name_of, range_of}
use Rattle.command_line.specs.declared.value.ValueName.{ValueName}
use Rattle.command_line.specs.declared.value.ValueName.TheVariants.{K, Radius, Sigma, Beta, Bound, Workers, Back, Gap, Idle, N, T, Seed}

-- the value of this name
named : List ℕ → ValueName
named name =
    cond (bytes_eq name (codes "k")) K
    (cond (bytes_eq name (codes "radius")) Radius
    (cond (bytes_eq name (codes "sigma")) Sigma
    (cond (bytes_eq name (codes "beta")) Beta
    (cond (bytes_eq name (codes "bound")) Bound
    (cond (bytes_eq name (codes "workers")) Workers
    (cond (bytes_eq name (codes "back")) Back
    (cond (bytes_eq name (codes "gap")) Gap
    (cond (bytes_eq name (codes "idle")) Idle
    (cond (bytes_eq name (codes "N")) N
    (cond (bytes_eq name (codes "T")) T Seed))))))))))

named-is : (name : ValueName) → named (name_of name) ≡ name
unfolding named
named-is K = refl
named-is Radius = refl
named-is Sigma = refl
named-is Beta = refl
named-is Bound = refl
named-is Workers = refl
named-is Back = refl
named-is Gap = refl
named-is Idle = refl
named-is N = refl
named-is T = refl
named-is Seed = refl

pub one-name : (a b : ValueName) → bytes_eq (name_of a) (name_of b) ≡ true → a ≡ b
one-name a b same = sym (named-is a) ∙ ap named ((bytes_eq-Decides (name_of a) (name_of b)).0 same) ∙ named-is b

pub names-differ : (a b : ValueName) → b ≢ a → bytes_eq (name_of a) (name_of b) ≡ false
names-differ a b differ = false_from_ne_true (bytes_eq (name_of a) (name_of b)) (λ same. differ (sym (one-name a b same)))

pub ranges-fit : (name : ValueName) → (range_of name).most < 2 ^ 64
ranges-fit K = omega arith
ranges-fit Radius = omega arith
ranges-fit Sigma = omega arith
ranges-fit Beta = omega arith
ranges-fit Bound = omega arith
ranges-fit Workers = omega arith
ranges-fit Back = omega arith
ranges-fit Gap = omega arith
ranges-fit Idle = omega arith
ranges-fit N = omega arith
ranges-fit T = omega arith
ranges-fit Seed = omega arith
