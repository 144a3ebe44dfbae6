-- Pieces at a point, by those that end at it or later.
use Rattle.std.proofs.Common.{◌≡◌, ◌==◌, ℕ, Bool, true, false, true≢false, List, [], ◌∷◌, refl, sym, ◌∙◌, ap, arith}
use Rattle.std.specs.Prelude.{◌&&◌, ◌||◌, not, nat_lt}
use Rattle.std.specs.List.{list_all, list_any}
use Rattle.std.proofs.lemmas.Bool.{and_from, and_parts, eq-eqb, le-ltb, ltb-true, not_from_false, or_from, or_left, or_parts}
use Rattle.std.proofs.lemmas.List.Folds.{list_any-append}
use Rattle.match_text.specs.declared.matched.Routed.{Routed}
use Rattle.cert_checker.specs.Case.{Case}
use Rattle.cert_checker.specs.inside.InHand.{AreLeft, IsEnding}
use Rattle.cert_checker.specs.Pieces.{rise_from}
use Rattle.cert_checker.specs.Verdicts.{breaks_right, each_ended, has_breaks, is_last}
use Rattle.cert_checker.proofs.RisingPieces.{ended_is}

none_ends_after : (i : ℕ) (pieces : List Routed) → list_all (λ q. nat_lt q.last i) pieces ≡ true → list_any (λ q. nat_lt i q.last) pieces ≡ false
none_ends_after i [] h = refl
none_ends_after i (q ∷ pieces) h =
    let a = and_parts (nat_lt q.last i) _ h in
    let lt = ltb-true q.last i a.0 in
    or_from (nat_lt i q.last) _ (le-ltb i q.last (omega (arith, lt))) (none_ends_after i pieces a.1)

-- those that have ended do not end after the point
ends_after_left : (pieces left : List Routed) (i : ℕ) → AreLeft pieces left i → list_any (λ q. nat_lt i q.last) pieces ≡ list_any (λ q. nat_lt i q.last) left
ends_after_left pieces left i h =
    ap (list_any (λ q. nat_lt i q.last)) h.parts ∙ list_any-append (λ q. nat_lt i q.last) h.ended left
    ∙ ap (λ v. v || list_any (λ q. nat_lt i q.last) left) (none_ends_after i h.ended h.before)

by_parts : (stands zero rise last after : Bool) → rise ≡ true → (stands && (not last || not after)) ≡ (stands && ((not zero || rise) && (not last || not after)))
by_parts false zero rise last after r = refl
by_parts true true true last after r = refl
by_parts true false rise last after r = refl
by_parts true true false last after r = absurd (true≢false (sym r))

breaks_is : (c : Case) (left : List Routed) (i : ℕ) → AreLeft c.proof.pieces left i
    → (breaks_right c i && (not (is_last c i) || not (list_any (λ q. nat_lt i q.last) left))) ≡ has_breaks c i
breaks_is c left i h =
    ap (λ v. breaks_right c i && (not (is_last c i) || not v)) (sym (ends_after_left c.proof.pieces left i h))
    ∙ by_parts (breaks_right c i) (i == 0) (rise_from 0 c.proof.pieces) (is_last c i) (list_any (λ q. nat_lt i q.last) c.proof.pieces) h.rise

-- at the last point, where the point itself stands right
pub breaks_at_last : (c : Case) (left : List Routed) (i : ℕ) (after : Bool) → AreLeft c.proof.pieces left i → breaks_right c i ≡ true → is_last c i ≡ true → after ≡ list_any (λ q. nat_lt i q.last) left
    → not after ≡ has_breaks c i
breaks_at_last c left i after h right last is =
    ap not is
    ∙ sym (ap (λ v. not v || not (list_any (λ q. nat_lt i q.last) left)) last)
    ∙ sym (ap (λ v. v && (not (is_last c i) || not (list_any (λ q. nat_lt i q.last) left))) right)
    ∙ breaks_is c left i h

-- a test of each piece that ends with the point
none_end : (i : ℕ) (test : Routed → Bool) (pieces : List Routed) → list_any (λ (q : Routed). q.last == i) pieces ≡ false → list_all (λ q. not (q.last == i) || test q) pieces ≡ true
none_end i test [] h = refl
none_end i test (q ∷ pieces) h =
    let a = or_parts (q.last == i) _ h in
    and_from (not (q.last == i) || test q) _ (or_left (not (q.last == i)) (test q) (not_from_false (q.last == i) a.0)) (none_end i test pieces a.1)

pub ended_by_none : (c : Case) (i : ℕ) (test : Routed → Bool) → list_any (λ (q : Routed). q.last == i) c.proof.pieces ≡ false → each_ended test c i ≡ true
ended_by_none c i test none = none_end i test c.proof.pieces none

pub ended_by : (c : Case) (i : ℕ) (q : Routed) (test : Routed → Bool) → IsEnding c.proof.pieces i q → each_ended test c i ≡ test q
ended_by c i q test h = ended_is c.proof.pieces i q test h.has ∙ ap (λ v. not v || test q) (eq-eqb q.last i h.ends)
