-- A piece line that is read is the piece line that was written.
use Rattle.std.proofs.Common.{◌≡◌, ◌≢◌, ℕ, ◌+◌, List, [], ◌++◌, map, Option, Some, None, sym, ap, ◌∙◌, append_assoc}
use Rattle.std.proofs.lemmas.Option.{none-some, some_pair_parts}
use Rattle.decimal_text.specs.Number.{decimal}
use Rattle.match_text.specs.declared.matched.Routed.{Routed}
use Rattle.match_text.specs.declared.place.Place.{Place}
use Rattle.match_text.specs.MatchText.{words_after, piece_line, PieceFits}
use Rattle.match_text.specs.PieceHead.{head_at, Head}
use Rattle.match_text.specs.Grammar.{EndsPiece, ReadsPiece, ReadsRoute}
use Rattle.match_text.proofs.Lines.{head_text, head_takes, head_again}

abbrev route_text : List ℕ → List ℕ
route_text edges = words_after (map decimal edges)

piece_text : (p : Routed) (rest : List ℕ) → piece_line p ++ rest ≡ head_text p.first p.last p.cost (route_text p.route ++ rest)
piece_text p rest = simp append_assoc

abbrev head_of : Routed → List ℕ → Head
head_of p rest = record { first = p.first; last = p.last; cost = p.cost; rest = route_text p.route ++ rest }

-- the head of a piece line that was written
head_is_of : (text : List ℕ) (p : Routed) (rest : List ℕ) → PieceFits p → text ≡ piece_line p ++ rest → head_at text ≡ Some (head_of p rest)
head_is_of text p rest fits eq = ap head_at (eq ∙ piece_text p rest) ∙ head_again p.first p.last p.cost (route_text p.route ++ rest) fits.first fits.last fits.cost

same_heads : (text : List ℕ) (head : Head) (p : Routed) (rest : List ℕ) → Some head ≡ head_at text → PieceFits p → text ≡ piece_line p ++ rest → head ≡ head_of p rest
same_heads text head p rest e fits eq = let both : Some head ≡ Some (head_of p rest) = e ∙ head_is_of text p rest fits eq in cc

abbrev none : Option (Routed × List ℕ)
none = None

pub no_head : (place : Place) (text : List ℕ) → None ≡ head_at text → ReadsPiece place text None
no_head place text e = record { found = tt; only = λ p rest ends eq. absurd (none-some (head_of p rest) (e ∙ head_is_of text p rest ends.fits eq)) }

pub not_open : (place : Place) (text : List ℕ) (head : Head) → Some head ≡ head_at text → ((place.waiting ≡ Some head.first) × (head.last + 1 ≡ place.next) → ⊥) → ReadsPiece place text None
not_open place text head e closed = record {
  found = tt;
  only = λ p rest ends eq.
      let same = same_heads text head p rest e ends.fits eq in
      absurd (closed (ends.first ∙ ap (λ (h : Head). Some h.first) (sym same), ap (λ (h : Head). h.last + 1) same ∙ ends.last));
}

pub no_route : (place : Place) (text : List ℕ) (head : Head) → Some head ≡ head_at text → ReadsRoute head.rest None → ReadsPiece place text None
no_route place text head e route = record {
  found = tt;
  only = λ p rest ends eq.
      let same = same_heads text head p rest e ends.fits eq in
      let edges : List ℕ × List ℕ = (p.route, rest) in
      absurd (none-some edges (route.only p.route rest ends.fits.route (ap (λ (h : Head). h.rest) same)));
}

pub empty_route : (place : Place) (text : List ℕ) (head : Head) (after : List ℕ) → Some head ≡ head_at text → ReadsRoute head.rest (Some ([], after)) → ReadsPiece place text None
empty_route place text head after e route = record {
  found = tt;
  only = λ p rest ends eq.
      let same = same_heads text head p rest e ends.fits eq in
      let edges = some_pair_parts [] p.route after rest (route.only p.route rest ends.fits.route (ap (λ (h : Head). h.rest) same)) in
      absurd (ends.route (sym edges.0));
}

pub piece_read : (place : Place) (text : List ℕ) (head : Head) (route after : List ℕ) → Some head ≡ head_at text → (place.waiting ≡ Some head.first) × (head.last + 1 ≡ place.next) → ReadsRoute head.rest (Some (route, after)) → route ≢ []
    → ReadsPiece place text (Some (record { first = head.first; last = head.last; cost = head.cost; route = route }, after))
piece_read place text head route after e waits some edges = record { found = (ends, parts); only = only }
  where
    piece : Routed
    piece = record { first = head.first; last = head.last; cost = head.cost; route = route }

    ends : EndsPiece place piece
    ends =
        let takes = head_takes text head (sym e) in
        record { first = waits.0; last = waits.1; route = edges; fits = record { first = takes.first; last = takes.last; cost = takes.cost; route = some.found.0 } }

    parts : text ≡ piece_line piece ++ after
    parts =
        let takes = head_takes text head (sym e) in
        takes.parts ∙ ap (λ (t : List ℕ). head_text head.first head.last head.cost t) some.found.1 ∙ sym (piece_text piece after)

    only : (p : Routed) (rest : List ℕ) → EndsPiece place p → text ≡ piece_line p ++ rest → ◌≡◌ {A = Option (Routed × List ℕ)} (Some (piece, after)) (Some (p, rest))
    only p rest ends eq =
        let same = same_heads text head p rest e ends.fits eq in
        let both = some_pair_parts route p.route after rest (some.only p.route rest ends.fits.route (ap (λ (h : Head). h.rest) same)) in
        λ i. Some (record { first = (same i).first; last = (same i).last; cost = (same i).cost; route = both.0 i }, both.1 i)
