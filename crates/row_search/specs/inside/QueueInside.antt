-- What a queue is made of.
use Rattle.std.specs.Prelude.{◌≤◌, List, ◌++◌, length, take, drop}
use Rattle.row_search.specs.declared.queue.Waiting.{Waiting}
use Rattle.row_search.specs.declared.queue.Queue.TheInside as queue
use Rattle.row_search.specs.declared.waiting_list.WaitingList.TheInside as list

-- the items of a list: its first places
abbrev pub listed : list.Inside → List Waiting
listed a = take a.count a.places.items

abbrev pub IsCountInside : list.Inside → Type 0
IsCountInside a = a.count ≤ length a.places.items

-- the items of a queue: those set aside, and those of the near list that were not taken yet
abbrev pub waiting : queue.Inside → List Waiting
waiting a = a.far ++ drop a.head a.near

abbrev pub IsHeadInside : queue.Inside → Type 0
IsHeadInside a = a.head ≤ length a.near
