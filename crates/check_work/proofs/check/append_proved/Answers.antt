use Rattle.std.proofs.Common.{◌≡◌, ℕ, List, [], ◌∷◌, ◌++◌, append_assoc, ap, length, ◌∙◌}
use Rattle.std.specs.Prelude.{codes}
use Rattle.std.proofs.lemmas.Result.{on_ok_weaker}
use Rattle.decimal_text.specs.Number.{decimal}
use Rattle.check_work.specs.Check.{proved_piece_count, pieces_proved}
use Rattle.check_work.proofs.check.append_proved.Goals as goal

appended : (base i1 i2 i3 i4 i5 i6 new a b c d e f g : List ℕ) → i1 ≡ base ++ a → i2 ≡ i1 ++ b → i3 ≡ i2 ++ c → i4 ≡ i3 ++ d → i5 ≡ i4 ++ e → i6 ≡ i5 ++ f → new ≡ i6 ++ g
    → new ≡ base ++ ((a ++ b) ++ (c ++ d) ++ (e ++ f) ++ g)
appended base i1 i2 i3 i4 i5 i6 new a b c d e f g h1 h2 h3 h4 h5 h6 h7 = rw (h7, h6, h5, h4, h3, h2, h1) (simp append_assoc)

pub returns : goal.returns
returns c =
    let cert = c.args.certificate.now in
    let pieces = c.count_pieces.ensures ∙ ap proved_piece_count c.as_slice.ensures in
    on_ok_weaker c.extend_from_slice-4.result
    (λ e. appended c.args.line.now c.extend_from_slice.new.self c.write_unsigned.new.into c.extend_from_slice-2.new.self c.write_unsigned-2.new.into c.extend_from_slice-3.new.self c.write_unsigned-3.new.into c.extend_from_slice-4.new.self
    (codes "proved traces ") (decimal (length cert.proofs)) (codes " pieces ") (decimal (pieces_proved cert)) (codes " rows ") (decimal (length cert.rows)) (10 ∷ [])
    c.in_ok-extend_from_slice.ensures.ok (c.in_ok-write_unsigned.ensures.ok ∙ ap (λ n. c.extend_from_slice.new.self ++ decimal n) c.len.ensures)
    c.in_ok-extend_from_slice-2.ensures.ok (c.in_ok-write_unsigned-2.ensures.ok ∙ ap (λ n. c.extend_from_slice-2.new.self ++ decimal n) pieces)
    c.in_ok-extend_from_slice-3.ensures.ok (c.in_ok-write_unsigned-3.ensures.ok ∙ ap (λ n. c.extend_from_slice-3.new.self ++ decimal n) c.len-2.ensures) e) c.extend_from_slice-4.ensures.ok
