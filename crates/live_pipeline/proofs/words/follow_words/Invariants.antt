use Rattle.std.proofs.Common.{◌≡◌, map, take, string_bytes}
use Rattle.live_pipeline.specs.Words.{with_follow}
use Rattle.live_pipeline.proofs.words.follow_words.Given as goal

abbrev pub invariant-loop-word : goal.invariant-loop-word
invariant-loop-word l = map string_bytes l.all.items ≡ with_follow (map string_bytes (take l.word-index l.words))
