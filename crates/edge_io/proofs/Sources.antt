-- Reads of an open file whose bytes are known.
use Rattle.std.proofs.Common.{◌≡◌, ◌≢◌, ◌∙◌, ℕ, ◌+◌, List, ◌++◌, length, drop, Some, None, refl, sym, ap}
use Rattle.std.specs.Prelude.{option_map}
use Rattle.std.specs.declared.option.Option.{Option}
use Rattle.std.specs.Io.KnownBytes.{Consumes}
use Rattle.std.proofs.lemmas.List.{drop-drop, drop_at}
use Rattle.edge_io.specs.Source.{IsOpenAt, IsReadOn}

-- the rest of a list behind a front of n items
rest_after : (file front ys : List ℕ) (at n : ℕ) → drop at file ≡ front ++ ys → length front ≡ n → ys ≡ drop (at + n) file
rest_after file front ys at n split many =
    sym (drop_at front ys n many) ∙ ap (drop n) (sym split) ∙ drop-drop n at file

left_is : (xs file front ys : List ℕ) (at : ℕ) → Some xs ≡ Some (drop at file) → xs ≡ front ++ ys → drop at file ≡ front ++ ys
left_is xs file front ys at is split = let same : xs ≡ drop at file = cc in sym same ∙ split

still_left : (held left left' : Option (List ℕ)) (front : List ℕ) (at n : ℕ) → left ≢ None → left ≡ option_map (drop at) held → Consumes left left' front → length front ≡ n → (left' ≢ None) × (left' ≡ option_map (drop (at + n)) held)
still_left held None left' front at n some is read many = absurd (some refl)
still_left None (Some xs) left' front at n some is read many = absurd (cc)
still_left (Some file) (Some xs) None front at n some is read many = absurd read
still_left (Some file) (Some xs) (Some ys) front at n some is read many =
    (λ e. cc, ap Some (rest_after file front ys at n (left_is xs file front ys at is read) many))

-- a file that was read on is open where the read ended
pub open_after : (told : Option (List ℕ → Option (List ℕ))) (name : List ℕ) (at most n : ℕ) (left left' : Option (List ℕ)) (old new : List ℕ) → IsOpenAt told name at left → IsReadOn left left' old new most n → IsOpenAt told name (at + n) left'
open_after told name at most n left left' old new opened read =
    λ files is. still_left (files name) left left' read.bytes at n (opened files is).0 (opened files is).1 read.consumed read.many
