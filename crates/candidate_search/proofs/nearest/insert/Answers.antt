use Rattle.std.proofs.Common.{◌≡◌, ◌∙◌, ap, take, sym, refl, subst}
use Rattle.std.specs.List.{insert}
use Rattle.candidate_search.specs.inside.Nearest.{IsPlace}
use Rattle.candidate_search.proofs.Found.{found_insert, placed_insert}
use Rattle.candidate_search.proofs.nearest.insert.Goals as goal

pub returns-clause-list : goal.returns-clause-list
returns-clause-list c =
    let found = c.args.found.now.items in
    let x = c.args.candidate in
    let place = subst (λ l. IsPlace l x.d2 c.place_of-place.result) c.as_slice.ensures.value c.place_of-place.ensures in
    let is : c.insert.new.self.items ≡ insert found c.place_of-place.result x = c.in_ok-insert.ensures.items in
    c.truncate.ensures.items ∙ ap (take c.args.k) is ∙ ap (take c.args.k) (sym (placed_insert found x c.place_of-place.result c.requires.earlier place))

pub returns-clause-found : goal.returns-clause-found
returns-clause-found c =
    let found = c.args.found.now.items in
    let x = c.args.candidate in
    let place = subst (λ l. IsPlace l x.d2 c.place_of-place.result) c.as_slice.ensures.value c.place_of-place.ensures in
    let is : c.insert.new.self.items ≡ insert found c.place_of-place.result x = c.in_ok-insert.ensures.items in
    found_insert c.args.k x.edge.0 found c.truncate.new.self.items x c.place_of-place.result c.requires refl place (c.truncate.ensures.items ∙ ap (take c.args.k) is)
