-- Numbers that tickets draw from one word, and the rule of that word.
use Rattle.std.specs.Prelude.{◌≡◌, ℕ, zero, suc, ◌+◌, ◌<◌, ◌≤◌, max, cond, ltb, eqb, sum_by, count_by, All, Any, List, [], ◌∷◌, ◌++◌, length, slice_index, Option, MatchOption}
use mathlib.Core.Option.{some}
use lib.ListN.{get_elem?}
use Rattle.atomic_table.specs.Seated.{TableId}
use Rattle.tickets.specs.declared.rule.Hand.{Hand}

-- how often x is in the list
abbrev pub times : ℕ → List ℕ → ℕ
times x xs = count_by (λ y. eqb y x) xs

-- how many of the numbers are n or more
abbrev pub late : ℕ → List ℕ → ℕ
late n xs = sum_by (λ x. cond (ltb x n) 0 1) xs

-- the numbers below n, however they are weighed
abbrev pub weigh_below : (ℕ → ℕ) → ℕ → ℕ
weigh_below h zero = 0
weigh_below h (suc n) = weigh_below h n + h n

abbrev pub hand : List ℕ → ℕ → ℕ → Hand
hand numbers share seen = record { numbers = numbers; share = share; seen = seen }

-- what holds of each view
pub record IsHeldView (n word : ℕ) (v : Hand) : Type 0 where
  pub spent : late n v.numbers ≤ v.share
  pub idle : v.share ≡ 0 → v.numbers ≡ []
  pub seen : v.seen ≤ word

-- the rule: of n numbers, between this many shares
pub record Dealt (n seats : ℕ) (words : List ℕ) (views : List Hand) : Type 0 where
  pub one_word : length words ≡ 1
  pub once : (h : ℕ → ℕ) → sum_by (λ v. sum_by h v.numbers) views ≡ weigh_below h (slice_index words 0)
  pub shares : sum_by (λ v. v.share) views ≡ seats
  pub each : (i : ℕ) (v : Hand) → get_elem? views i ≡ some v → IsHeldView n (slice_index words 0) v

-- by the rule each number below the word is in exactly one view, once, and no other number is in a view
abbrev pub DrawnOnce : Type 0
DrawnOnce =
    (n seats : ℕ) (words : List ℕ) (views : List Hand) (x : ℕ)
    → Dealt n seats words views
    → sum_by (λ v. times x v.numbers) views ≡ cond (ltb x (slice_index words 0)) 1 0

-- the view as it is with one number more, after a draw that found it
abbrev pub drew : Hand → ℕ → Hand
drew v found = hand (v.numbers ++ found ∷ []) v.share (found + 1)

-- two views in one
abbrev pub taken_in : Hand → Hand → Hand
taken_in v w = hand (v.numbers ++ w.numbers) (v.share + w.share) (max v.seen w.seen)

-- what contracts see of a ticket: the claims that it is of, the numbers that it drew, and up to which number it has seen
pub record Drawn : Type 0 where
  pub claims : TableId
  pub numbers : List ℕ
  pub seen : ℕ

-- what contracts see of the claims: which they are, how many numbers and how many tickets they have
pub record Opened : Type 0 where
  pub name : TableId
  pub count : ℕ
  pub seats : ℕ

abbrev pub fresh_ticket : TableId → Drawn
fresh_ticket claims = record { claims = claims; numbers = []; seen = 0 }

-- the second ticket, which has then seen what the first has
abbrev pub with_sight : Drawn → Drawn → Drawn
with_sight a b = record {
  claims = b.claims;
  numbers = b.numbers;
  seen = max a.seen b.seen;
}

-- a fresh ticket of claims on this many numbers with this many seats
pub record IsTicketOf (count seats : ℕ) (claims : Opened) (ticket : Drawn) : Type 0 where
  pub count_is : claims.count ≡ count
  pub seats_is : claims.seats ≡ seats
  pub is_fresh : ticket ≡ fresh_ticket claims.name

-- each number that the ticket drew is below n
abbrev pub IsOpenTicket : ℕ → Drawn → Type 0
IsOpenTicket n t = All (λ x. x < n) t.numbers

-- the ticket drew a number that is n or more
abbrev pub HasEnded : ℕ → Drawn → Type 0
HasEnded n t = Any (λ x. n ≤ x) t.numbers

-- one draw: a number that is at least what the ticket had seen, and the answer is that number if it is below n
abbrev pub Draws : ℕ → Drawn → Drawn → Option ℕ → Type 0
Draws n before after result = (number : ℕ) × (before.seen ≤ number)
    × (after ≡ record { claims = before.claims; numbers = before.numbers ++ number ∷ []; seen = number + 1 })
    × MatchOption result (n ≤ number) (λ x. (x ≡ number) × (number < n))
