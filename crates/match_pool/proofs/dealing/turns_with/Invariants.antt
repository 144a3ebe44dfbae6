use Rattle.std.proofs.Common.{◌≡◌, ◌++◌, length, map}
use Rattle.std.specs.Vec.Iter.{into_iter_items, into_iter_len}
use Rattle.match_pool.specs.inside.Dealing.{ticket_of}
use Rattle.match_pool.proofs.dealing.turns_with.Given as goal

abbrev pub invariant-loop-ticket : goal.invariant-loop-ticket
invariant-loop-ticket l = record {
  whole : l.yielded ++ into_iter_items l.ticket-iterator ≡ into_iter_items l.initial.ticket-iterator;
  left : into_iter_len l.ticket-iterator ≡ length (into_iter_items l.ticket-iterator);
  turns : map ticket_of l.turns.items ≡ l.yielded;
}
