-- The lines of what is handed out, with edges by the ids of the network file.
use Rattle.std.specs.Prelude.{◌≡◌, ℕ, List, [], ◌∷◌, ◌++◌, Option, Some, None, map}
use Rattle.std.specs.List.{All}
use Rattle.decimal_text.specs.Number.{decimal}
use Rattle.road_network.specs.Net.{Net, HasEdge}
use Rattle.route_rebuild.specs.Numbers.{numbers}
use Rattle.match_text.specs.declared.matched.Label.TheVariants.{Missing as MissingLabel}
use Rattle.match_text.specs.MatchText.{label_line, piece_line}
use Rattle.trace_match.specs.Match.{label_on, routed_over}
use Rattle.online_commit.specs.declared.items.Item.{Item}
use Rattle.online_commit.specs.declared.items.Item.TheVariants.{At, Missing, Closed}

-- the line of an item
abbrev pub item_line : Net → Item → List ℕ
item_line n (At index candidate) = label_line index (label_on n candidate)
item_line n (Missing index) = label_line index MissingLabel
item_line n (Closed piece route) = piece_line (routed_over n piece (numbers route))

-- what comes before each line: the id and a space, or nothing
abbrev pub lead_of : Option ℕ → List ℕ
lead_of None = []
lead_of (Some id) = decimal id ++ 32 ∷ []

-- the lines of items, with the id before each of them if there is one
abbrev pub item_lines : Net → Option ℕ → List Item → List (List ℕ)
item_lines n id items = map (λ item. lead_of id ++ item_line n item) items

-- the edges of the item are edges of the network
abbrev pub IsItemOf : Net → Item → Type 0
IsItemOf n (At index candidate) = HasEdge n candidate.edge.0
IsItemOf n (Missing index) = Unit {0}
IsItemOf n (Closed piece route) = All (λ e. HasEdge n e.0) route

abbrev pub AreItemsOf : Net → List Item → Type 0
AreItemsOf n items = All (IsItemOf n) items

-- the text goes on with a prefix of this one
pub record AddsPrefix (text more text' : List ℕ) : Type 0 where
  pub front : List ℕ
  pub rest : List ℕ
  pub is : more ≡ front ++ rest
  pub written : text' ≡ text ++ front
