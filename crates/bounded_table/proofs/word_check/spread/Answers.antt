use Rattle.std.proofs.Common.{◌≡◌, ◌<◌, Bool, ℕ, List, Some, true, false, true≢false, sym, length, get_or, refl, subst, rules, arith}
use Rattle.std.proofs.lemmas.List.{take_all}
use Rattle.std.proofs.lemmas.List.Elements.{All-more, All-nil}
use Rattle.std.specs.List.{All}
use Rattle.std.specs.Prelude.{IsTrue}
use Rattle.bounded_table.specs.declared.table_row.Entry.{Entry}
use Rattle.bounded_table.specs.Spread.{FitsIn, IsRaised, IsSpread}
use Rattle.bounded_table.specs.Table.{label_of}
use Rattle.bounded_table.proofs.Entries.{no_entry}
use Rattle.bounded_table.proofs.WordChecks.{none_else, none_spread, spread_next}
use Rattle.bounded_table.proofs.word_check.spread.Goals as goal

pub loop-x-init : goal.loop-x-init
loop-x-init c = record {
  spread = none_spread c.args.bound c.args.words.now c.requires.blank.none_labelled;
  fits = All-nil (FitsIn c.args.net.now c.args.bound);
}

pub returns-then-not-fits : goal.returns-then-not-fits
returns-then-not-fits c =
    let inv = c.loop-x.invariant in
    let entries : List Entry = c.args.entries.now in
    let i : ℕ = c.loop-x.x-index in
    let lt : i < length entries = omega arith in
    let unfit : All (FitsIn c.args.net.now c.args.bound) entries → false ≡ true = λ all. subst (λ (k : Bool). IsTrue k) c.if-not-fits.true (c.fits.ensures.1 (all i no_entry lt)) in
    record {
      fits_all = (λ t. absurd (true≢false (sym t)), unfit);
      words = λ t. absurd (true≢false (sym t));
      only = none_else c.args.bound entries i c.loop-x.words inv.spread;
    }

pub loop-x-preserved : goal.loop-x-preserved
loop-x-preserved c =
    let inv = c.loop-x.invariant in
    let entries : List Entry = c.args.entries.now in
    let i : ℕ = c.loop-x.x-index in
    let lt : i < length entries = omega arith in
    let x : Entry = get_or entries i no_entry in
    let fits : FitsIn c.args.net.now c.args.bound x = c.fits.ensures.0 (search rules) in
    let inside : x.node.0 < length c.loop-x.words = omega (arith, fits.node, c.requires.blank.words_count) in
    let is : IsRaised c.args.bound (Some (label_of x)) c.raised.result = (c.raised.ensures.word, fits.within, c.raised.ensures.low) in
    record {
      spread = spread_next c.args.bound entries i no_entry c.loop-x.words c.raised.result c.requires.rising lt inside is inv.spread;
      fits = All-more (FitsIn c.args.net.now c.args.bound) entries i no_entry lt inv.fits fits;
    }

pub returns : goal.returns
returns c =
    let inv = c.loop-x.invariant in
    let entries : List Entry = c.args.entries.now in
    let whole = take_all c.loop-x.x-index entries (omega arith) in
    let fits : All (FitsIn c.args.net.now c.args.bound) entries = rw whole at inv.fits in
    record {
      fits_all = (λ t. fits, λ all. refl);
      words = λ t. subst (λ (k : List Entry). IsSpread c.args.bound k c.loop-x.words) whole inv.spread;
      only = none_else c.args.bound entries c.loop-x.x-index c.loop-x.words inv.spread;
    }
