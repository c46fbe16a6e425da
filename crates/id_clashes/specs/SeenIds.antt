-- Private: the old ids that were seen so far, by the new ones.
use Rattle.std.specs.Prelude.{◌≡◌, Bool, false, not, List, Option, Some, None}
use Rattle.std.specs.BTreeMap.{BTreeMap, get_by}
use Rattle.std.specs.List.{list_any}
use Rattle.arch_base.specs.Ids.{id_cmp, id_eq}
use Rattle.arch_base.specs.declared.ids.ObjectId.{ObjectId}
use Rattle.id_clashes.specs.declared.clashes.TwoIds.{TwoIds}
use Rattle.id_clashes.specs.Clashes.{clashes}

-- The old id that a map has under a new one.
abbrev pub old_in : BTreeMap ObjectId ObjectId → ObjectId → Option ObjectId
old_in seen q = get_by (id_cmp q) seen

-- There is an id, and it is another one.
abbrev pub differs_from : Option ObjectId → ObjectId → Bool
differs_from None id = false
differs_from (Some there) id = not (id_eq there id)

-- One old id for each new one tells of every text whether it clashes with one of these.
abbrev pub TellsClash : List TwoIds → (ObjectId → Option ObjectId) → Type 0
TellsClash before kept =
    (e : TwoIds) → list_any (clashes e) before ≡ differs_from (kept e.new) e.old
