use Rattle.std.proofs.Common.{◌≡◌, Bor, Option, Some, ap, sym, ◌∙◌}
use Rattle.std.specs.Option.{option_copied}
use Rattle.std.proofs.lemmas.Option.{same_Some}
use Rattle.road_network.specs.Net.{Net}

fans_are : (n : Net) (found : Option (Bor Net)) (x : Bor Net) (fans : Option Net) → found ≡ Some x → option_copied found ≡ fans → fans ≡ Some n → x.now ≡ n
fans_are n found x fans is value made = same_Some x.now n (ap option_copied (sym is) ∙ (value ∙ made))
