use Rattle.std.proofs.Common.{◌≡◌, ◌<◌, ◌≤◌, Some, None, OnOk, nat_eq, refl, sym, ap, subst, ◌∙◌, arith}
use Rattle.std.specs.Map.{lookup}
use Rattle.std.specs.Option.{option_copied_mut, option_map}
use Rattle.indexmap.specs.IndexMap.{insert_entry}
use Rattle.follow_work.specs.declared.times.Drive.{Drive}
use Rattle.follow_work.specs.inside.Times.{AreKept, shown_times, time_with}
use Rattle.follow_work.proofs.TimesKept.{time-first, times-lookup, times-set, times-stay}
use Rattle.follow_work.proofs.TimesQueued.{kept-moved}
use Rattle.follow_work.proofs.times.Times.note.Goals.{in-Some-get_mut, in_default-get_mut}
use Rattle.follow_work.proofs.times.Times.note.Goals as goal

pub begin-requires : goal.begin-requires
begin-requires c =
    let t = nat_eq c.args.id in
    let none : lookup t c.self.inside.drives ≡ None = sym c.get.ensures ∙ sym c.copied.ensures ∙ c.in_default.is in
    ap (lookup t) (sym c.self.view_is) ∙ times-lookup t c.self.inside.drives ∙ ap (option_map (λ d. d.newest)) none

pub returns-in_default : goal.returns-in_default
returns-in_default c =
    let none : lookup (nat_eq c.args.id) c.self.inside.drives ≡ None = sym c.get.ensures ∙ sym c.copied.ensures ∙ c.in_default.is in
    let time = ap (λ l. time_with l c.args.id c.args.time) (sym c.self.view_is) ∙ time-first c.args.id c.args.time c.self.inside.drives none in
    subst (λ n. OnOk c.begin.result (c.begin.new.self ≡ insert_entry nat_eq c.args.self.now c.args.id n)) (sym time) c.begin.ensures

pub returns-then-time-drive : goal.returns-then-time-drive
returns-then-time-drive c =
    let some : lookup (nat_eq c.args.id) c.self.inside.drives ≡ Some c.in-Some.drive = sym c.get.ensures ∙ sym c.copied.ensures ∙ c.in-Some.is in
    let older : c.args.time ≤ c.in-Some.drive.newest = omega (arith, c.if-time-drive.true) in
    subst (λ l. l ≡ insert_entry nat_eq l c.args.id (time_with l c.args.id c.args.time)) c.self.view_is (times-stay c.args.id c.args.time c.in-Some.drive c.self.inside.drives some older)

pub invariant_of-self-2 : goal.invariant_of-self-2
invariant_of-self-2 c =
    let a = c.self.inside in
    let id = c.args.id in
    let d = c.in-Some.drive in
    let e : Drive = record { newest = c.args.time; number = d.number } in
    let some : lookup (nat_eq id) a.drives ≡ Some d = sym c.get.ensures ∙ sym c.copied.ensures ∙ c.in-Some.is in
    let newer : d.newest < c.args.time = omega (arith, c.if-time-drive.false) in
    elim c.match-get_mut.branch [
      | in-Some-get_mut w ↦ subst AreKept (sym w.self-inside-is) (kept-moved a id d e c.move_place.new.queue c.self.invariant newer refl some c.in_ok-move_place.ensures.ok)
      | in_default-get_mut w ↦ absurd
          (let none : lookup (nat_eq id) a.drives ≡ None = sym c.get_mut.ensures.value ∙ ap option_copied_mut w.in_default-get_mut.is in
          let two = sym some ∙ none in cc)
    ]

pub returns : goal.returns
returns c =
    let a = c.self.inside in
    let id = c.args.id in
    let d = c.in-Some.drive in
    let e : Drive = record { newest = c.args.time; number = d.number } in
    let some : lookup (nat_eq id) a.drives ≡ Some d = sym c.get.ensures ∙ sym c.copied.ensures ∙ c.in-Some.is in
    let newer : d.newest < c.args.time = omega (arith, c.if-time-drive.false) in
    elim c.match-get_mut.branch [
      | in-Some-get_mut w ↦
          ap shown_times w.self-inside-is ∙ times-set id c.args.time d e a.drives some refl newer
          ∙ ap (λ l. insert_entry nat_eq l id (time_with l id c.args.time)) c.self.view_is
      | in_default-get_mut w ↦ absurd
          (let none : lookup (nat_eq id) a.drives ≡ None = sym c.get_mut.ensures.value ∙ ap option_copied_mut w.in_default-get_mut.is in
          let two = sym some ∙ none in cc)
    ]
