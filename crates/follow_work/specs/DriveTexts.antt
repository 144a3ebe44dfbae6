-- The lines of the drives of more positions begin with those of fewer.
use Rattle.std.proofs.Common.{◌≡◌, ℕ, List, [], ◌∷◌, ◌++◌, refl, sym, ◌∙◌, ap}
use Rattle.std.specs.List.{concat}
use Rattle.std.proofs.lemmas.List.{append_assoc}
use Rattle.std.proofs.lemmas.List.Folds.{concat-append}
use Rattle.cost_model.specs.declared.params.Params.{Params}
use Rattle.road_network.specs.Net.{Net}
use Rattle.trace_reader.specs.declared.trace.Trace.{Trace}
use Rattle.trace_sessions.specs.Drives.{Fleet, drive_lines, no_drives, fleet_lines, fleet_after, fleet_after_all}
use Rattle.trace_sessions.specs.StreamText.{Point, points_in}
use Rattle.follow_work.specs.StreamTexts.{points-append}

pub driven-append : (n : Net) (p : Params) (idle : ℕ) (fleet : Fleet) (front back : List Point)
    → drive_lines n p idle fleet (front ++ back) ≡ drive_lines n p idle fleet front ++ drive_lines n p idle (fleet_after_all idle fleet front) back
driven-append n p idle fleet [] back = refl
driven-append n p idle fleet (x ∷ front) back =
    let next = fleet_after idle fleet x in
    ap (λ ls. fleet_lines n p idle fleet x ++ ls) (driven-append n p idle next front back)
    ∙ sym (append_assoc (fleet_lines n p idle fleet x) (drive_lines n p idle next front) (drive_lines n p idle (fleet_after_all idle next front) back))

pub driven-text : (n : Net) (p : Params) (idle : ℕ) (fleet : Fleet) (front back : List Point)
    → concat (drive_lines n p idle fleet (front ++ back)) ≡ concat (drive_lines n p idle fleet front) ++ concat (drive_lines n p idle (fleet_after_all idle fleet front) back)
driven-text n p idle fleet front back =
    ap concat (driven-append n p idle fleet front back)
    ∙ concat-append (drive_lines n p idle fleet front) (drive_lines n p idle (fleet_after_all idle fleet front) back)

pub drives-begin : (n : Net) (p : Params) (idle : ℕ) (front back : List Trace) → (more : List ℕ)
    × (concat (drive_lines n p idle no_drives (points_in (front ++ back))) ≡ concat (drive_lines n p idle no_drives (points_in front)) ++ more)
drives-begin n p idle front back = (
  concat (drive_lines n p idle (fleet_after_all idle no_drives (points_in front)) (points_in back)),
  ap (λ ps. concat (drive_lines n p idle no_drives ps)) (points-append front back) ∙ driven-text n p idle no_drives (points_in front) (points_in back),
)
