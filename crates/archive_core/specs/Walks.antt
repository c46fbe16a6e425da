-- The entries of a store and their texts, one after another, and the views of the live ones after a
-- command.
use Rattle.std.specs.Prelude.{◌≡◌, ℕ, List, [], ◌∷◌, Option, Some, None}
use Rattle.std.proofs.Common.{◌∙◌, sym, subst}
use Rattle.arch_base.specs.declared.ids.Form.{Form}
use Rattle.disk_model.specs.declared.disk.Disk.{Ghosts as Disk}
use Rattle.disk_model.specs.Disk.{Files, Content, Image, BothTold, Unchanged}
use Rattle.disk_model.specs.Moments.{started, joined}
use Rattle.mime_parts.specs.Words.{mail_words}
use Rattle.arch_model.specs.Archives.{Archive}
use Rattle.arch_model.specs.Rows.{row_of}
use Rattle.arch_model.specs.Validity.{IsArchive}
use Rattle.arch_model.specs.declared.answer.Answer.{Answer}
use Rattle.arch_model.specs.declared.answer.Answer.TheVariants as answer
use Rattle.arch_model.specs.declared.command.Command.{Command}
use Rattle.arch_model.specs.declared.command.Command.TheVariants.{Deliver, Remove, Purge, Edit}
use Rattle.arch_model.specs.declared.line.EntryLine.{EntryLine}
use Rattle.arch_model.specs.declared.opening.OpenRefusal.{OpenRefusal}
use Rattle.arch_model.specs.declared.opening.OpenRefusal.TheVariants as opening
use Rattle.arch_model.specs.declared.text_refusal.TextRefusal.{TextRefusal}
use Rattle.arch_model.specs.declared.text_refusal.TextRefusal.TheVariants as reading
use Rattle.store_finding.specs.Files.{epoch_file_of}
use Rattle.epoch_store.specs.Reads.{line_of, HasTexts}
use Rattle.store_finding.specs.Kept.{StoreState, IsStoreWith}
use Rattle.store_finding.specs.declared.entries.StoredEntry.{StoredEntry}
use Rattle.view_set.specs.Viewed.{Viewed, with_mail, without_mail}
use Rattle.archive_core.specs.Commands.{OnlyLooks}
use Rattle.archive_core.specs.Engines.{unchanged-is, told-same}

-- The entries that are kept, without their texts.
abbrev pub lines_kept : List StoredEntry → List EntryLine
lines_kept [] = []
lines_kept (s ∷ ss) = line_of s ∷ lines_kept ss

-- A disk tells its content, and each entry's text is in its place there.
abbrev pub IsSound : StoreState → Option Content → Type 0
IsSound v None = ⊥
IsSound v (Some k) = HasTexts v k

-- Why an archive wasn't opened whose entry, if it is there, has a text that wasn't read.
abbrev pub unread_opening : StoreState → Option StoredEntry → TextRefusal → OpenRefusal
unread_opening v found reading.DiskFault = opening.DiskFault
unread_opening v found reading.NoMemory = opening.NoMemory
unread_opening v None (reading.Damaged named other) = opening.NoMemory
unread_opening v (Some e) (reading.Damaged named other) =
    opening.Damaged (epoch_file_of v.root e.epoch) e.seen.at

-- Views without the message of a number, if there is one.
abbrev pub without_gone : Viewed → Option ℕ → Viewed
without_gone views None = views
without_gone views (Some n) = without_mail views n

-- What an accepted command does to the views of live messages, whose rows have ids of a form: a delivery
-- adds the row and the words of its text, a removal takes those of its number, a purge takes those of the
-- number that is lost, and an edit does both.
abbrev pub ViewsDone : Form → Command → Option ℕ → ℕ → List ℕ → ℕ → Viewed → Viewed → Type 0
ViewsDone form (Deliver bytes) lost number text moment old new =
    new ≡ with_mail old (row_of form number text moment) (mail_words text)
ViewsDone form (Remove n) lost number text moment old new = new ≡ without_mail old n
ViewsDone form (Purge n) lost number text moment old new = new ≡ without_gone old lost
ViewsDone form (Edit n bytes) lost number text moment old new =
    new ≡ with_mail (without_gone old lost) (row_of form number text moment) (mail_words text)

-- What a command that was answered so does to them. A refusal leaves them.
abbrev pub ViewsAfter : Form → Command → Option ℕ → Answer → List ℕ → ℕ → Viewed → Viewed → Type 0
ViewsAfter form command lost (answer.Ok number id) text moment old new =
    ViewsDone form command lost number text moment old new
ViewsAfter form command lost other text moment old new = new ≡ old

-- An archive whose own disk is there is valid.
pub store-valid : (v : StoreState) (cache : List ℕ) (a : Archive) (k : Option Content)
    → IsStoreWith v cache a k → IsArchive a
store-valid v cache a None store = absurd store
store-valid v cache a (Some k) store = store.keeps.valid

-- Laws of a disk that is only read.
module _ {D : Type 0} (g : Disk D)
    (only_now : (disk : D) (image : Files) → g.left_since disk (g.moment disk) image
    → Image (g.content disk) image) where
  -- No look at all is one.
  pub looks-same : (d : D) → OnlyLooks g d d
  looks-same d = record {
    same = told-same (g.content d);
    crash = started g d (Image (g.content d)) (λ image left. only_now d image left);
  }

  -- A look after a look is one.
  pub looks-joined : (d e f : D) → OnlyLooks g d e → OnlyLooks g e f → OnlyLooks g d f
  looks-joined d e f first second =
      let one = unchanged-is (g.content d) (g.content e) first.same in
      let two = unchanged-is (g.content e) (g.content f) second.same in
      record {
        same = subst (λ (k : Option Content). BothTold Unchanged (g.content d) k) (sym (two ∙ one))
            (told-same (g.content d));
        crash = joined g d e f (Image (g.content d)) (Image (g.content e))
            (Image (g.content d)) first.crash second.crash (λ image left. left)
            (λ image left. subst (λ (k : Option Content). Image k image) one left);
      }
