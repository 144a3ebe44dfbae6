-- A certificate's file, read block by block.
use Rattle.std.proofs.Common.{◌≡◌, ℕ, ◌+◌, ◌≤◌, Bool, true, false, nat_le, List, [], ◌++◌, length, take, drop, Option, Some, None, refl, sym, ap, subst, ◌∙◌, append_assoc, arith, length-append}
use Rattle.std.specs.Prelude.{MatchOption}
use Rattle.std.proofs.lemmas.Bool.Decides.{nat_tests}
use Rattle.std.proofs.lemmas.List.{append-nil}
use Rattle.edge_io.specs.Shelf.{Reads, ReadsFile, IsNotRead}
use Rattle.edge_io.specs.State.{ShelfState}
use Rattle.edge_io.specs.declared.shelf.Taken.TheVariants.{End, Got}
use Rattle.potential_certificate.specs.CertificateText.{certificate_text_limit}
use Rattle.program_frame.specs.Read.{IsReadSoFar, IsReadWhole}
use Rattle.program_frame.proofs.Streaming.{read_end, read_full, read_more}
use Rattle.check_work.specs.inside.CertificateFiles.{IsReadUpTo, ReadsBlock}
use Rattle.check_work.specs.declared.certificate_file.Block.{Block}

abbrev Told : Type 0
Told = Option (List ℕ → Option (List ℕ))

-- the piece that a read appended
piece_of : (file : Option (List ℕ)) (at n : ℕ) (old new : List ℕ) → MatchOption file (IsNotRead (Got n)) (λ bytes. ReadsFile bytes at old new (Got n)) → (piece : List ℕ) × (new ≡ old ++ piece) × MatchOption file (IsNotRead (Got n)) (λ bytes. ReadsFile bytes at [] piece (Got n))
piece_of None at n old new reads = absurd reads
piece_of (Some bytes) at n old new reads = (take n (drop at bytes), reads.1, (reads.0, refl))

-- one more piece of a block
pub block_on : (told : Told) (name fed old new : List ℕ) (n : ℕ) → IsReadSoFar told name (fed ++ old) → Reads told name (length fed + length old) old new (Got n) → IsReadSoFar told name (fed ++ new)
block_on None name fed old new n front reads = tt
block_on (Some files) name fed old new n front reads =
    let piece = piece_of (files name) (length fed + length old) n old new reads in
    let more = read_more (Some files) name (fed ++ old) piece.0 n front (subst (λ (at : ℕ). Reads (Some files) name at [] piece.0 (Got n)) (sym (length-append fed old)) piece.2) in
    subst (λ (t : List ℕ). IsReadSoFar (Some files) name t) (append_assoc fed old piece.0 ∙ ap (λ (t : List ℕ). fed ++ t) (sym piece.1)) more

-- a block behind what was read: nothing of it is read yet
abbrev pub Front : ShelfState → List ℕ → ℕ → List ℕ → Type 0
Front shelf name from block = (fed : List ℕ) → length fed ≡ from → IsReadSoFar shelf.holds name fed → IsReadSoFar shelf.holds name (fed ++ block)

pub front_begins : (shelf : ShelfState) (name : List ℕ) (from : ℕ) (block : List ℕ) → block ≡ [] → Front shelf name from block
front_begins shelf name from block none fed long front = subst (λ (t : List ℕ). IsReadSoFar shelf.holds name t) (sym (append-nil fed) ∙ ap (λ (t : List ℕ). fed ++ t) (sym none)) front

pub front_on : (shelf shelf' : ShelfState) (name : List ℕ) (from : ℕ) (old new : List ℕ) (n : ℕ) → shelf' ≡ shelf → Front shelf name from old → Reads shelf'.holds name (from + length old) old new (Got n) → Front shelf name from new
front_on shelf shelf' name from old new n same so_far reads fed long front =
    block_on shelf.holds name fed old new n (so_far fed long front)
    (subst (λ (at : ℕ). Reads shelf.holds name (at + length old) old new (Got n)) (sym long) (subst (λ (s : ShelfState). Reads s.holds name (from + length old) old new (Got n)) same reads))

-- ---- the last block

-- the end of a file is told whatever was appended
end_of : (file : Option (List ℕ)) (at : ℕ) (old new : List ℕ) → MatchOption file (IsNotRead End) (λ bytes. ReadsFile bytes at old new End) → MatchOption file (IsNotRead End) (λ bytes. ReadsFile bytes at [] new End)
end_of None at old new told = told
end_of (Some bytes) at old new told = told

end_told : (told : Told) (name : List ℕ) (at : ℕ) (old new : List ℕ) → Reads told name at old new End → Reads told name at [] new End
end_told None name at old new reads = tt
end_told (Some files) name at old new reads = end_of (files name) at old new reads

-- the end was told behind a block
pub block_ends : (shelf shelf' : ShelfState) (name : List ℕ) (from : ℕ) (old new : List ℕ) → shelf' ≡ shelf → from + length old ≤ certificate_text_limit → Front shelf name from old → new ≡ old → Reads shelf'.holds name (from + length old) old new End
    → (fed : List ℕ) → length fed ≡ from → IsReadSoFar shelf.holds name fed → IsReadWhole shelf.holds name certificate_text_limit (fed ++ new)
block_ends shelf shelf' name from old new same within so_far is reads fed long front =
    let here : Reads shelf.holds name (from + length old) old new End = subst (λ (s : ShelfState). Reads s.holds name (from + length old) old new End) same reads in
    let at : from + length old ≡ length (fed ++ old) = omega (arith, long, length-append fed old) in
    let into : Reads shelf.holds name (length (fed ++ old)) [] new End = subst (λ (a : ℕ). Reads shelf.holds name a [] new End) at (end_told shelf.holds name (from + length old) old new here) in
    let whole = read_end certificate_text_limit shelf.holds name (fed ++ old) new (so_far fed long front) (omega (arith, within, at)) into in
    subst (λ (t : List ℕ). IsReadWhole shelf.holds name certificate_text_limit (fed ++ t)) (sym is) whole

-- a block behind which the file does not go on
pub last_block : (name : List ℕ) (shelf shelf' : ShelfState) (from : ℕ) (block : Block) → shelf' ≡ shelf → block.from ≡ from → ((fed : List ℕ) → length fed ≡ block.from → IsReadSoFar shelf.holds name fed → IsReadWhole shelf.holds name certificate_text_limit (fed ++ block.bytes.items)) → ReadsBlock name shelf shelf' from block false
last_block name shelf shelf' from block same place whole = record {
  same = same;
  place = place;
  some = λ (on : false ≡ true). absurd (cc on);
  within = λ (on : false ≡ true). absurd (cc on);
  read = whole;
}

-- a block that was read to its own end, which is behind the limit or is not
pub block_full : (shelf : ShelfState) (name : List ℕ) (from end : ℕ) (block : List ℕ) (goes_on : Bool) → nat_le end certificate_text_limit ≡ goes_on → end ≤ certificate_text_limit + 1 → from + length block ≡ end → Front shelf name from block
    → (fed : List ℕ) → length fed ≡ from → IsReadSoFar shelf.holds name fed → IsReadUpTo shelf.holds name (fed ++ block) goes_on
block_full shelf name from end block true test low full so_far fed long front = so_far fed long front
block_full shelf name from end block false test low full so_far fed long front =
    let above : certificate_text_limit + 1 ≤ end = grind (arith, nat_tests, test) in
    read_full certificate_text_limit shelf.holds name (fed ++ block) (so_far fed long front) (omega (arith, long, full, low, above, length-append fed block))

-- ---- block by block

-- a block was taken in
pub taken_in : (reader full bytes more : List ℕ) → more ≡ reader ++ full → full ≡ bytes → more ≡ reader ++ bytes
taken_in reader full bytes more is same = is ∙ ap (λ (t : List ℕ). reader ++ t) same

-- the file goes on behind a block
pub read_on : (name : List ℕ) (shelf shelf' : ShelfState) (block : Block) (goes_on : Bool) (fed more : List ℕ) → ReadsBlock name shelf shelf' block.from block goes_on → goes_on ≡ true → length fed ≡ block.from → IsReadSoFar shelf.holds name fed → more ≡ fed ++ block.bytes.items
    → IsReadSoFar shelf.holds name more
read_on name shelf shelf' block goes_on fed more reads on long front is =
    subst (λ (t : List ℕ). IsReadSoFar shelf.holds name t) (sym is) (subst (λ (b : Bool). IsReadUpTo shelf.holds name (fed ++ block.bytes.items) b) on (reads.read fed long front))

-- a block of the same shelf, from its own place on
pub same_block : (name : List ℕ) (first shelf shelf' : ShelfState) (from : ℕ) (block : Block) (goes_on : Bool) → shelf ≡ first → ReadsBlock name shelf shelf' from block goes_on → ReadsBlock name first first block.from block goes_on
same_block name first shelf shelf' from block goes_on same reads = record {
  same = refl;
  place = refl;
  some = reads.some;
  within = reads.within;
  read = subst (λ (s : ShelfState). (fed : List ℕ) → length fed ≡ block.from → IsReadSoFar s.holds name fed → IsReadUpTo s.holds name (fed ++ block.bytes.items) goes_on) same reads.read;
}
