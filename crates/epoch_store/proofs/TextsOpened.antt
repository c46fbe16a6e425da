-- The texts of entries that were opened are in their places.
use Rattle.std.specs.Prelude.{◌≡◌, ◌<◌, ℕ, List, [], length, take, slice_get, Some, min}
use Rattle.std.specs.List.{AllByRecursion}
use Rattle.std.proofs.Common.{◌∙◌, sym, ap, subst, arith, length-take}
use Rattle.disk_model.specs.Disk.{Content, File, bytes_of}
use Rattle.disk_model.specs.Sizes.{epoch_count}
use Rattle.arch_model.specs.Archives.{Entry, in_epoch}
use Rattle.arch_model.specs.Epochs.{epoch_bytes}
use Rattle.arch_model.specs.Validity.{IsEntry}
use Rattle.git_objects.specs.Objects.{blob_id_of}
use Rattle.root_change.specs.Texts.{Fronts}
use Rattle.store_finding.specs.Files.{epoch_file_of}
use Rattle.epoch_store.specs.Reads.{HasTexts}
use Rattle.store_finding.specs.Kept.{StoreState, stored_after}
use Rattle.store_finding.specs.declared.entries.StoredEntry.{StoredEntry}
use Rattle.epoch_store.proofs.Texts.{text_at}

-- Bytes that a file starts with are those of a file whose front is the same.
pub fronts-kept : (bytes : List ℕ) (old new : File) → Fronts bytes old → take (length bytes) (bytes_of new) ≡ take (length bytes) (bytes_of old) → Fronts bytes new
fronts-kept bytes old new fronts same =
    let whole : length (take (length bytes) (bytes_of new)) ≡ length bytes = ap length (same ∙ fronts.front) in
    let least : length (take (length bytes) (bytes_of new)) ≡ min (length bytes) (length (bytes_of new)) = length-take {A = ℕ} (length bytes) (bytes_of new) in
    record { long = omega (arith, whole, least); front = same ∙ fronts.front }

-- Where each epoch's file starts with the bytes of its entries, each text is in its place.
pub texts-stand : (v : StoreState) (es : List Entry) (k : Content) → v.entries ≡ stored_after v.root.config.form [] es → AllByRecursion IsEntry es → ((e : ℕ) → e < epoch_count → Fronts (epoch_bytes v.root.config.form (in_epoch es e)) (k (epoch_file_of v.root e)).seen) → HasTexts v k
texts-stand v es k kept valid fronts i s is =
    let at = text_at v.root.config.form v.root es k valid fronts i s (subst (λ (l : List StoredEntry). slice_get l i ≡ Some s) kept is) in
    record { long = at.long; blob = ap (blob_id_of v.root.config.form) at.stands ∙ sym at.blob }
