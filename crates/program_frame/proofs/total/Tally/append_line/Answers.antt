use Rattle.std.proofs.Common.{◌≡◌, ℕ, List, ◌++◌, Result, Ok, Err, OnOk, append_assoc}
use Rattle.std.specs.declared.alloc.AllocError.{AllocError}
use Rattle.program_frame.proofs.total.Tally.append_line.Goals as goal

appended : (base i1 i2 i3 i4 new a b c d e : List ℕ) → i1 ≡ base ++ a → i2 ≡ i1 ++ b → i3 ≡ i2 ++ c → i4 ≡ i3 ++ d → new ≡ i4 ++ e → new ≡ base ++ (a ++ b ++ c ++ d ++ e)
appended base i1 i2 i3 i4 new a b c d e h1 h2 h3 h4 h5 = rw (h5, h4, h3, h2, h1) (simp append_assoc)

on_appended : (r : Result (Unit {0}) AllocError) (base i1 i2 i3 i4 new a b c d e : List ℕ) → i1 ≡ base ++ a → i2 ≡ i1 ++ b → i3 ≡ i2 ++ c → i4 ≡ i3 ++ d → OnOk r (new ≡ i4 ++ e) → OnOk r (new ≡ base ++ (a ++ b ++ c ++ d ++ e))
on_appended (Ok done) base i1 i2 i3 i4 new a b c d e h1 h2 h3 h4 h5 = appended base i1 i2 i3 i4 new a b c d e h1 h2 h3 h4 h5
on_appended (Err error) base i1 i2 i3 i4 new a b c d e h1 h2 h3 h4 h5 = h5

pub returns : goal.returns
returns c = on_appended _ _ _ _ _ _ _ _ _ _ _ _ c.in_ok-write_worded.ensures.ok c.in_ok-write_worded-2.ensures.ok c.in_ok-write_worded-3.ensures.ok c.in_ok-write_worded-4.ensures.ok c.extend_from_slice.ensures.ok
