use Rattle.std.proofs.Common.{Some, vec_items, option_map, ◌∙◌, sym, ap, subst, arith, ◌+◌}
use Rattle.program_frame.proofs.Words.{AreWordsBefore, all_words, never_true, no_words, no_words_yet, one_word_more}
use Rattle.program_frame.proofs.arguments.read_words.Goals as goal

pub loop-i-init : goal.loop-i-init
loop-i-init g c = record {
  some = omega arith;
  words = no_words_yet (g.A.Arguments.given c.args.arguments.now) c.new-words.result.items c.new-words.ensures.items;
}

pub returns-in_default : goal.returns-in_default
returns-in_default g c =
    all_words (g.A.Arguments.given c.args.arguments.now) c.loop-i.i (option_map vec_items c.in_ok-bytes.field-0) c.loop-i.words.items
    (ap (option_map vec_items) c.in_default.is) c.in_ok-bytes.ensures c.loop-i.invariant.words

pub returns-in_default-from_utf8 : goal.returns-in_default-from_utf8
returns-in_default-from_utf8 g c =
    no_words (g.A.Arguments.given c.args.arguments.now) c.loop-i.i (option_map vec_items c.in_ok-bytes.field-0) c.in-Some.bytes.items c.new.result.items
    c.loop-i.invariant.some (ap (option_map vec_items) c.in-Some.is) c.in_ok-bytes.ensures
    (λ text. never_true (c.in_default-from_utf8.ensures.succeeds text)) c.new.ensures.items

pub loop-i-preserved : goal.loop-i-preserved
loop-i-preserved g c = record {
  some = omega (arith, c.loop-i.invariant.some);
  words = subst (AreWordsBefore (g.A.Arguments.given c.args.arguments.now) (c.loop-i.i + 1)) (sym c.in_ok-push.ensures.items)
      (one_word_more (g.A.Arguments.given c.args.arguments.now) c.loop-i.i (option_map vec_items c.in_ok-bytes.field-0) c.loop-i.words.items c.in-Ok.word
      c.loop-i.invariant.some (ap (option_map vec_items) c.in-Some.is ∙ ap (λ v. Some (vec_items v)) (sym c.in-Ok.ensures.ok)) c.in_ok-bytes.ensures c.loop-i.invariant.words);
}
