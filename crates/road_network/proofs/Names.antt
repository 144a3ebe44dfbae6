-- The names of nodes and their places.
use Rattle.std.proofs.Common.{◌≡◌, ℕ, ◌+◌, ◌<◌, ◌≤◌, Bool, true, List, [], ◌∷◌, ◌++◌, inl, inr, refl, ap, ◌∙◌, arith, length, length-append}
use Rattle.std.proofs.lemmas.Bool.{cases_Bool}
use Rattle.std.proofs.lemmas.Bool.Decides.{nat_tests}
use Rattle.std.proofs.lemmas.List.Folds.{list_any-append}
use Rattle.std.specs.List.{list_any, position_or_len}
use Rattle.std.specs.Prelude.{nat_eq}
use Rattle.road_network.specs.NetworkFile.{Row, nodes_with, place_of, with_node}

pub some-kept : {X : Type 0} (p : X → Bool) (xs ys : List X) → list_any p xs ≡ true → list_any p (xs ++ ys) ≡ true
some-kept p xs ys h = list_any-append p xs ys ∙ rw h refl

pub place-kept : {X : Type 0} (p : X → Bool) (xs ys : List X) → list_any p xs ≡ true → position_or_len p (xs ++ ys) ≡ position_or_len p xs
place-kept p [] ys h = cc
place-kept p (x ∷ xs) ys h =
    elim (cases_Bool (p x)) [
      | inl t ↦ rw t refl
      | inr f ↦
          let rest : list_any p xs ≡ true = rw f at h in
          rw f (ap (λ k. 1 + k) (place-kept p xs ys rest))
    ]

pub place-inside : {X : Type 0} (p : X → Bool) (xs : List X) → list_any p xs ≡ true → position_or_len p xs < length xs
place-inside p [] h = cc
place-inside p (x ∷ xs) h =
    elim (cases_Bool (p x)) [
      | inl t ↦ rw t (omega arith)
      | inr f ↦
          let rest : list_any p xs ≡ true = rw f at h in
          let inside : position_or_len p xs < length xs = place-inside p xs rest in
          rw f (omega arith)
    ]

is-it : (name : ℕ) → nat_eq name name ≡ true
is-it name = grind (arith, nat_tests)

-- after its mention a node is there
pub mentioned : (nodes : List ℕ) (name : ℕ) → list_any (nat_eq name) (with_node nodes name) ≡ true
mentioned nodes name =
    elim (cases_Bool (list_any (nat_eq name) nodes)) [
      | inl t ↦ rw t t
      | inr f ↦ rw f (list_any-append (nat_eq name) nodes (name ∷ []) ∙ rw (f, is-it name) refl)
    ]

-- a node that is there stays there, at its place
pub stays : (nodes : List ℕ) (name other : ℕ) → list_any (nat_eq name) nodes ≡ true → list_any (nat_eq name) (with_node nodes other) ≡ true
stays nodes name other h =
    elim (cases_Bool (list_any (nat_eq other) nodes)) [ inl t ↦ rw t h | inr f ↦ rw f (some-kept (nat_eq name) nodes (other ∷ []) h) ]

pub stays-at : (nodes : List ℕ) (name other : ℕ) → list_any (nat_eq name) nodes ≡ true → place_of (with_node nodes other) name ≡ place_of nodes name
stays-at nodes name other h =
    elim (cases_Bool (list_any (nat_eq other) nodes)) [ inl t ↦ rw t refl | inr f ↦ rw f (place-kept (nat_eq name) nodes (other ∷ []) h) ]

pub nodes-grow : (nodes : List ℕ) (name : ℕ) → length nodes ≤ length (with_node nodes name)
nodes-grow nodes name =
    elim (cases_Bool (list_any (nat_eq name) nodes)) [ inl t ↦ rw t (omega arith) | inr f ↦ rw f (omega (arith, length-append nodes (name ∷ []))) ]

pub nodes-grow-little : (nodes : List ℕ) (name : ℕ) → length (with_node nodes name) ≤ length nodes + 1
nodes-grow-little nodes name =
    elim (cases_Bool (list_any (nat_eq name) nodes)) [ inl t ↦ rw t (omega arith) | inr f ↦ rw f (omega (arith, length-append nodes (name ∷ []))) ]

-- both nodes of a row have places
pub from-inside : (nodes : List ℕ) (r : Row) → place_of (nodes_with nodes r) r.«from» < length (nodes_with nodes r)
from-inside nodes r = place-inside (nat_eq r.«from») (nodes_with nodes r) (stays (with_node nodes r.«from») r.«from» r.to (mentioned nodes r.«from»))

pub to-inside : (nodes : List ℕ) (r : Row) → place_of (nodes_with nodes r) r.to < length (nodes_with nodes r)
to-inside nodes r = place-inside (nat_eq r.to) (nodes_with nodes r) (mentioned (with_node nodes r.«from») r.to)

pub nodes-kept : (nodes : List ℕ) (r : Row) → length nodes ≤ length (nodes_with nodes r)
nodes-kept nodes r = omega (arith, nodes-grow nodes r.«from», nodes-grow (with_node nodes r.«from») r.to)
