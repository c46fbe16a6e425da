-- Lemmas for proofs: what a crash leaves of a disk that is exactly that of texts.
use Rattle.std.specs.Prelude.{◌-◌, ℕ, List, Some, None}
use Rattle.disk_model.specs.Disk.{File, Files, Content, Image}
use Rattle.root_slots.specs.declared.root.Root.{Root}
use Rattle.root_slots.specs.RootName.{root_name}
use Rattle.root_slots.specs.Each.{IfThere}
use Rattle.root_slots.specs.Slots.{HasRoot, Ready}
use Rattle.root_slots.specs.Spelling.{spelling}
use Rattle.root_change.specs.Texts.{Texts, StandsFor, IsOn}

-- The current root of a file that is ready for the next one.
pub ready_has : (free : ℕ) (body : List ℕ) (file : File) → IfThere (Ready free body) file
    → IfThere (HasRoot body) file
ready_has free body None there = absurd there
ready_has free body (Some bytes) there = (1 - free, there.current)

-- Each crash leaves files that stand for the texts.
pub on_stands : (root : Root) (free : ℕ) (texts : Texts) (k : Content) (image : Files)
    → IsOn root free texts k → Image (Some k) image → StandsFor root texts image
on_stands root free texts k image on left = record {
  current =
      ready_has free (spelling root) (image root_name) (on.roots (image root_name) (left root_name));
  fronts = λ name apart. on.fronts name apart (image name) (left name);
}
