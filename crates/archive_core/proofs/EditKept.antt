-- The text that an edit keeps.
use Rattle.std.specs.Prelude.{◌≡◌, ℕ, List, Option, Some}
use Rattle.std.proofs.Common.{ap}
use Rattle.arch_base.specs.declared.ids.ObjectId.{ObjectId}
use Rattle.mail_commits.specs.declared.ids.TextIds.{TextIds}
use Rattle.disk_model.specs.Disk.{Content}
use Rattle.arch_model.specs.Archives.{Archive, live, text_of, with_entry, without_entries}
use Rattle.arch_model.specs.Delivery.{Done, delivered, new_epoch, unless_refused}
use Rattle.arch_judge.specs.declared.index.Index.{Index}
use Rattle.arch_judge.specs.declared.judging.Verdict.TheVariants.{Take}
use Rattle.store_finding.specs.Kept.{StoreState, IsStoreWith}
use Rattle.epoch_store.specs.Commands.{MayPurge}
use Rattle.store_planning.specs.Dropping.{without_blob}
use Rattle.archive_core.specs.Commands.{JudgesOn, KeepsText}
use Rattle.archive_core.specs.Kept.{IndexesKept}
use Rattle.archive_core.proofs.Standing.{store_keeps}
use Rattle.archive_core.proofs.WithoutText.{index-without, live-message-is, message-agrees, purge-blob, unless-taken}

-- A text that is judged to be taken is what an edit keeps.
pub taken-kept : {D : Type 0} (content : D → Option Content) (disk : D) (v : StoreState) (index : Index) (blob : ObjectId) (number : ℕ) (bytes text : List ℕ) (arrived n : ℕ) (ids : TextIds) (a : Archive) (cache gone : List ℕ) → MayPurge v number blob → IndexesKept (without_blob v.entries blob) index → JudgesOn content disk v index bytes (Take text ids n)
    → IsStoreWith v cache a (content disk) → text_of (live a.entries) number ≡ Some gone → KeepsText (without_entries a gone) (unless_refused a (delivered (without_entries a gone) bytes arrived)) arrived text
taken-kept content disk v index blob number bytes text arrived n ids a cache gone may indexed judges store shown =
    let keeps = store_keeps v cache a (content disk) store in
    let is = live-message-is a number gone keeps.valid shown in
    let judged = judges a cache (Some gone) store (index-without v a index blob gone keeps (message-agrees a number gone keeps.valid is) (purge-blob v a number blob gone keeps may is) indexed) in
    ap (λ (d : Done). d.archive) (unless-taken a (with_entry (without_entries a gone) (new_epoch (without_entries a gone)) text arrived) (delivered (without_entries a gone) bytes arrived) n ids.blob (judged.0 arrived))
