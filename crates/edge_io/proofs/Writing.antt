-- A text that is written front by front.
use Rattle.std.proofs.Common.{◌≡◌, ◌∙◌, ℕ, ◌-◌, List, Result, Ok, [], ◌++◌, length, take, drop, Some, None, sym, ap, subst, append_assoc, append-nil, take-append-drop}
use Rattle.std.proofs.lemmas.List.{take_rest}
use Rattle.std.specs.declared.option.Option.{Option}
use Rattle.std.specs.Io.KnownBytes.{Appends, Keeps, WriteAppends}
use Rattle.edge_io.specs.Sink.{AppendsPrefix}
use Rattle.edge_io.proofs.KnownBytes.{appends_more, prefix_front}

-- n more items of the rest are done
pub done_more : (all done rest : List ℕ) (n : ℕ) → all ≡ done ++ rest → all ≡ (done ++ take n rest) ++ take (length rest - n) (drop n rest)
done_more all done rest n e =
    e ∙ ap (λ l. done ++ l) (sym (take-append-drop n rest)) ∙ sym (append_assoc done (take n rest) (drop n rest)) ∙ ap (λ l. (done ++ take n rest) ++ l) (sym (take_rest rest n))

keeps_nothing : (old new : Option (List ℕ)) → Keeps old new → Appends old new []
keeps_nothing None new kept = tt
keeps_nothing (Some xs) None kept = absurd kept
keeps_nothing (Some xs) (Some ys) kept = kept ∙ sym (append-nil xs)

-- known bytes that grew, and then stayed
pub grown_kept : (old between new : Option (List ℕ)) (xs : List ℕ) → Appends old between xs → Keeps between new → Appends old new xs
grown_kept old between new xs grown kept =
    subst (Appends old new) (append-nil xs) (appends_more old between new xs [] grown (keeps_nothing between new kept))

-- what is done of a text is a prefix of it
pub prefix_done : (old new : Option (List ℕ)) (text done rest : List ℕ) → text ≡ done ++ rest → Appends old new done → AppendsPrefix old new text
prefix_done old new text done rest split grown =
    subst (AppendsPrefix old new) (sym split) (prefix_front old new done rest grown)

-- a write took n more items of the rest
pub grown_more : {E : Type 0} (old between new : Option (List ℕ)) (done rest : List ℕ) (n : ℕ) (r : Result ℕ E) → r ≡ Ok n → WriteAppends between new r rest → Appends old between done → Appends old new (done ++ take n rest)
grown_more old between new done rest n r is wrote grown =
    appends_more old between new done (take n rest) grown (subst (λ r. WriteAppends between new r rest) is wrote)
