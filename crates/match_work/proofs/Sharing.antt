-- Readers of one store, before and after traces are matched.
use Rattle.std.proofs.Common.{◌≡◌, ◌↔◌, ℕ, zero, suc, Bool, true, false, ◌||◌, List, [], ◌∷◌, All, Option, None, Some, is_some, IfOk, OnOk, Result, Ok, Err, length, map, replicate, true≢false, refl, sym, ◌∙◌, ap, subst, arith}
use Rattle.std.specs.List.{AllZip, count_by, range_with_len}
use Rattle.std.specs.Prelude.{slice_index_or}
use Rattle.std.specs.declared.alloc.AllocError.{AllocError}
use Rattle.std.proofs.lemmas.List.Elements.{All-cons, All-head, All-replicate, All-tail}
use Rattle.std.proofs.lemmas.Slice.Zip.{AllZip-long}
use Rattle.bounded_table.specs.Table.{TableRow}
use Rattle.cost_model.specs.Options.{IsAccepted}
use Rattle.cost_model.specs.declared.params.Params.{Params}
use Rattle.match_pool.specs.Learning.{LearnAsked}
use Rattle.match_pool.specs.Working.{IsReaderFor, Job, ReadsWithin, StaysReader}
use Rattle.match_text.specs.declared.matched.MatchedTrace.{MatchedTrace}
use Rattle.road_network.specs.Net.{Net}
use Rattle.row_store.specs.Store.{NearSlots, Reading, Stored, count_known, fresh_near, fresh_reading, is_known_to_any, knows}
use Rattle.trace_match.specs.Match.{match_of}
use Rattle.trace_reader.specs.Trace.{IsLawfulTrace}
use Rattle.trace_reader.specs.declared.trace.Trace.{Trace}
use Rattle.trace_match.specs.Setting.{Setting}
use Rattle.match_work.specs.Sharing.{IsStoreFor, MatchesBatch, ShareStore, fresh_readers}
use Rattle.trace_match.specs.Totals.{is_asked_by, asked_count}
use Rattle.match_work.specs.inside.MatchesDone.{KnowAsked}
use Rattle.match_work.proofs.TraceMatches.{matches_found, matches_of}

abbrev no_row : Option TableRow
no_row = None

-- readers that know nothing
no_places : (n v : ℕ) → is_some (slice_index_or (replicate n no_row) v no_row) ≡ false
no_places zero v = refl
no_places (suc n) zero = refl
no_places (suc n) (suc v) = no_places n v

no_near : (store : Stored) (near : Option NearSlots) (v : ℕ) → is_some (slice_index_or (fresh_near store near) v no_row) ≡ false
no_near store None v = refl
no_near store (Some near) v = no_places (length store.network.nodes) v

fresh_knows : (store : Stored) (v : ℕ) → knows (fresh_reading store) v ≡ false
fresh_knows store v =
    ap (λ b. b || is_some (slice_index_or (fresh_near store store.near) v no_row)) (no_places (length store.network.nodes) v) ∙ no_near store store.near v

nothing_known : (store : Stored) (k v : ℕ) → is_known_to_any (replicate k (fresh_reading store)) v ≡ false
nothing_known store zero v = refl
nothing_known store (suc k) v =
    ap (λ b. b || is_known_to_any (replicate k (fresh_reading store)) v) (fresh_knows store v) ∙ nothing_known store k v

pub know_nothing : (on : Setting) (store : Stored) → KnowAsked on [] (fresh_readers on store)
know_nothing on store v = (
  λ is. absurd (true≢false (sym is ∙ nothing_known store on.params.workers v)),
  λ (is : false ≡ true). cc,
)

length-replicate : (k : ℕ) (r : Reading) → length (replicate k r) ≡ k
length-replicate zero r = refl
length-replicate (suc k) r = omega (arith, length-replicate k r)

pub share_fresh : (on : Setting) (store : Stored) → IsAccepted on.params → IsStoreFor on store → ShareStore on (fresh_readers on store)
share_fresh on store accepted is =
    let workers = accepted.workers in
    let size = length-replicate on.params.workers (fresh_reading store) in
    record {
      readers_are = record {
        some = omega (arith, size, workers.0);
        few = omega (arith, size, workers.1);
        each = All-replicate (IsReaderFor on.network on.params) on.params.workers (fresh_reading store) (record { network = is.network; bound = is.bound });
        store = store;
        shared = All-replicate (λ (r : Reading). r.store ≡ store) on.params.workers (fresh_reading store) refl;
      };
      store = store;
      each = All-replicate (λ (r : Reading). r.store ≡ store) on.params.workers (fresh_reading store) refl;
    }

-- readers that stay those of their stores
all_stay : (P : Reading → Type 0) (old new : List Reading) → ((a b : Reading) → StaysReader a b → P a → P b) → AllZip StaysReader old new → All P old → All P new
all_stay P [] [] goes_on stay all = all
all_stay P [] (y ∷ ys) goes_on stay all = absurd stay
all_stay P (x ∷ xs) [] goes_on stay all = absurd stay
all_stay P (x ∷ xs) (y ∷ ys) goes_on stay all =
    All-cons P y ys (goes_on x y stay.0 (All-head P x xs all)) (all_stay P xs ys goes_on stay.1 (All-tail P x xs all))

pub share_on : (on : Setting) (old new : List Reading) → ShareStore on old → AllZip StaysReader old new → ShareStore on new
share_on on old new share stay =
    let size : length new ≡ length old = AllZip-long _ old new stay in
    let readers = share.readers_are in
    record {
      readers_are = record {
        some = (let some = readers.some in omega (arith, size, some));
        few = (let few = readers.few in omega (arith, size, few));
        each = all_stay (IsReaderFor on.network on.params) old new (λ a b stays is. record { network = ap (λ (s : Stored). s.network) stays.store ∙ is.network; bound = ap (λ (s : Stored). s.bound) stays.store ∙ is.bound }) stay readers.each;
        store = readers.store;
        shared = all_stay (λ (r : Reading). r.store ≡ readers.store) old new (λ a b stays is. stays.store ∙ is) stay readers.shared;
      };
      store = share.store;
      each = all_stay (λ (r : Reading). r.store ≡ share.store) old new (λ a b stays is. stays.store ∙ is) stay share.each;
    }

-- how many rows are known, where exactly those that are asked for are
same_answer : (a b : Bool) → ((a ≡ true) ↔ (b ≡ true)) → a ≡ b
same_answer true true both = refl
same_answer true false both = sym (both.0 refl)
same_answer false true both = both.1 refl
same_answer false false both = refl

count_same : (p q : ℕ → Bool) (all : List ℕ) → ((v : ℕ) → p v ≡ q v) → count_by p all ≡ count_by q all
count_same p q all same = λ i. count_by (λ v. same v i) all

pub rows_counted : (on : Setting) (traces : List Trace) (readers : List Reading) → ShareStore on readers → KnowAsked on traces readers → count_known readers ≡ asked_count on traces
rows_counted on traces [] share asked = absurd (let some = share.readers_are.some in omega (arith, some))
rows_counted on traces (r ∷ rs) share asked =
    let here = All-head (IsReaderFor on.network on.params) r rs share.readers_are.each in
    ap (λ net. count_by (is_known_to_any (r ∷ rs)) (range_with_len 0 (length net.nodes))) here.network
    ∙ count_same (is_known_to_any (r ∷ rs)) (is_asked_by on traces) (range_with_len 0 (length on.network.nodes)) (λ v. same_answer (is_known_to_any (r ∷ rs) v) (is_asked_by on traces v) (asked v))

-- readers that learned no more than they were asked for stay
pub readers_stay : (j : Job) (old new : List Reading) → AllZip (ReadsWithin j) old new → AllZip StaysReader old new
readers_stay j [] [] all = all
readers_stay j [] (y ∷ ys) all = absurd all
readers_stay j (x ∷ xs) [] all = absurd all
readers_stay j (x ∷ xs) (y ∷ ys) all = (all.0.stays, readers_stay j xs ys all.1)

-- a batch was matched
pub batch_matched : (on : Setting) (traces : List Trace) (old new : List Reading) (result : Result (List MatchedTrace) AllocError) → IsAccepted on.params → All IsLawfulTrace traces
    → IfOk result (λ all. all ≡ matches_of on traces) → AllZip StaysReader old new → OnOk result (LearnAsked on.network on.params traces old new) → MatchesBatch on traces old result new
batch_matched on traces old new (Ok all) accepted lawful are stay learn = record { matched = matches_found on traces all accepted lawful are; stay = stay; learn = learn }
batch_matched on traces old new (Err fault) accepted lawful are stay learn = record { matched = tt; stay = stay; learn = tt }

-- by the network and the options of the setting
pub batch_at : (on : Setting) (n : Net) (p : Params) (traces : List Trace) (old new : List Reading) (result : Result (List MatchedTrace) AllocError) → n ≡ on.network → p ≡ on.params → IsAccepted p → All IsLawfulTrace traces
    → IfOk result (λ all. all ≡ map (match_of n p) traces) → AllZip StaysReader old new → OnOk result (LearnAsked n p traces old new) → MatchesBatch on traces old result new
batch_at on n p traces old new result network params accepted lawful are stay learn =
    batch_matched on traces old new result (subst IsAccepted params accepted) lawful
    (subst (λ m. IfOk result (λ all. all ≡ map (match_of m on.params) traces)) network (subst (λ q. IfOk result (λ all. all ≡ map (match_of n q) traces)) params are))
    stay
    (subst (λ m. OnOk result (LearnAsked m on.params traces old new)) network (subst (λ q. OnOk result (LearnAsked n q traces old new)) params learn))
