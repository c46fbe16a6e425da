-- Private: what a run knows of its folder.
use Rattle.std.specs.Prelude.{◌≡◌}
use Rattle.real_edges.specs.declared.folder.Home.{Home}
use Rattle.real_edges.specs.declared.folder.Home.TheVariants.{Unseen, Missing, Held}

-- The folder was asked for: it was missing, or its lock is held.
abbrev pub IsSeen : Home → Type 0
IsSeen Unseen = ⊥
IsSeen Missing = Unit {0}
IsSeen (Held folder) = Unit {0}

-- A folder whose lock was held is still held, by the same handle.
abbrev pub KeepsHandle : Home → Home → Type 0
KeepsHandle Unseen now = Unit {0}
KeepsHandle Missing now = Unit {0}
KeepsHandle (Held folder) now = now ≡ Held folder
