-- Files that are written beside the texts of a root become those of the next one.
use Rattle.std.specs.Prelude.{◌≡◌, ◌≢◌, ◌≤◌, ◌⊎◌, ◌-◌, ℕ, Bool, true, false, if◌then◌else◌, List, [], ◌++◌, length, Option, Some, None, refl}
use Rattle.std.proofs.Common.{◌∙◌, ap, subst, inl, inr, arith}
use Rattle.std.proofs.lemmas.Grind.{common_steps}
use Rattle.disk_model.specs.declared.disk.Disk.{Ghosts as Disk}
use Rattle.disk_model.specs.declared.name.FileKind.{FileKind}
use Rattle.disk_model.specs.declared.name.FileKind.TheVariants as kind
use Rattle.disk_model.specs.declared.name.FileName.{FileName}
use Rattle.disk_model.specs.Disk.{Files, Content, BothTold, WhereTold, overlay}
use Rattle.disk_model.specs.Moments.{LeavesOnly, weaker, joined}
use Rattle.root_slots.specs.declared.root.Root.{Root}
use Rattle.root_slots.specs.RootName.{root_name}
use Rattle.root_slots.specs.Spelling.{spelling}
use Rattle.root_slots.specs.Valid.{RootFits, IsRoot}
use Rattle.disk_model.specs.Beside.{StaysUpTo, Beside, WentBeside, RunsBeside}
use Rattle.root_change.specs.Names.{place_of, names_file, named_end, bounds_of, other_bound}
use Rattle.root_change.specs.Texts.{Texts, StandsFor, IsOn, OnDisk, Measures}
use Rattle.root_change.specs.Leaving.{ready_has}
use Rattle.root_change.specs.Replacing.{ToReplace, IsToReplace, StandsForEither}
use Rattle.root_change.specs.Parts.{Parts, texts_of, MayHave, PartsFit, RecoversPartsBy, IsOwnOfParts}
use Rattle.root_change.specs.Changing.{ReadsAsTexts, BecomesRoot}
use Rattle.root_change.proofs.Drops.{true_or_false}
use Rattle.root_change.proofs.Phases.{front_kept, stands_beside}

-- The text of a file that a root names, and of one that it doesn't.
pub text_named : (root : Root) (parts : Parts) (name : FileName) → names_file root name ≡ true → texts_of root parts name ≡ parts name.kind name.number
text_named root parts name is = ap (λ (b : Bool). if b then parts name.kind name.number else []) is

pub text_unnamed : (root : Root) (parts : Parts) (name : FileName) → names_file root name ≡ false → texts_of root parts name ≡ []
text_unnamed root parts name isnt = ap (λ (b : Bool). if b then parts name.kind name.number else []) isnt

-- A part has no more bytes than the root says, and any but a cache has as many.
part_short : (k : FileKind) (named count : ℕ) → MayHave k named count → count ≤ named
part_short kind.Root named count is = omega (arith, is)
part_short kind.Map named count is = omega (arith, is)
part_short kind.Epoch named count is = omega (arith, is)
part_short kind.Cache named count is = is

pub part_full : (k : FileKind) (named count : ℕ) → k ≢ kind.Cache → MayHave k named count → count ≡ named
part_full kind.Root named count other is = is
part_full kind.Map named count other is = is
part_full kind.Epoch named count other is = is
part_full kind.Cache named count other is = absurd (other refl)

-- No text of parts is longer than the root says.
pub parts_measure : (root : Root) (parts : Parts) → PartsFit root parts → Measures root (texts_of root parts)
parts_measure root parts long name apart = by (names_file root name) where
  by : (b : Bool) → length (if b then parts name.kind name.number else []) ≤ (if b then (place_of root name.kind name.number).length else 0)
  by true = part_short name.kind (place_of root name.kind name.number).length (length (parts name.kind name.number)) (long name.kind name.number)
  by false = omega arith

-- The text of a file but a cache is as long as the root says.
pub part_measure : (root : Root) (parts : Parts) → PartsFit root parts → (name : FileName) → name.kind ≢ kind.Cache → length (texts_of root parts name) ≡ named_end root name
part_measure root parts long name other = by (names_file root name) where
  by : (b : Bool) → length (if b then parts name.kind name.number else []) ≡ (if b then (place_of root name.kind name.number).length else 0)
  by true = part_full name.kind (place_of root name.kind name.number).length (length (parts name.kind name.number)) other (long name.kind name.number)
  by false = refl

-- A write at the end of a file appends to it.
pub overlay_end : (text bytes : List ℕ) → overlay (length text) bytes text ≡ text ++ bytes
overlay_end text bytes = grind (arith, common_steps)

-- What was written beside the texts of the old root makes the disk ready for the new one.
replaceable_now : (free : ℕ) (old : Root) (texts so_far : Texts) (new : Root) (next : Texts) (k m : Content) → IsOn old free texts k → WentBeside (bounds_of old) k m → ReadsAsTexts old so_far m → BecomesRoot old so_far new next → IsToReplace free old texts new next m
replaceable_now free old texts so_far new next k m on went reads becomes = record {
  roots = λ file fits. on.roots file (went.each root_name file fits);
  later = becomes.later;
  fronts = λ name apart file fits.
      front_kept old name (texts name) (k name).sure file (on.fronts name apart)
      (subst (λ (b : Option ℕ). StaysUpTo b (k name).sure file) (other_bound old name apart) (went.each name file fits));
  measures = becomes.measures;
  reads = λ name apart is. reads.bytes name apart ∙ becomes.named name apart is;
  others = λ name isnt.
      elim (true_or_false (names_file old name)) [
        | inl was ↦ inl was
        | inr wasnt ↦ elim (becomes.others name isnt) [ inl was ↦ inl was | inr none ↦ inr (reads.no_other name wasnt none) ]
      ];
}

pub replaceable : (free : ℕ) (old : Root) (texts so_far : Texts) (new : Root) (next : Texts) (k m : Option Content) → OnDisk old free texts k → BothTold (WentBeside (bounds_of old)) k m → WhereTold (ReadsAsTexts old so_far) m → BecomesRoot old so_far new next → ToReplace free old texts new next m
replaceable free old texts so_far new next None m on went reads becomes = absurd on
replaceable free old texts so_far new next (Some k) None on went reads becomes = absurd went
replaceable free old texts so_far new next (Some k) (Some m) on went reads becomes = replaceable_now free old texts so_far new next k m on went reads becomes

-- While files are written beside the texts of a root, they stand for these.
pub writing : (free : ℕ) (root : Root) (texts : Texts) (k : Option Content) (image : Files) → OnDisk root free texts k → Beside (bounds_of root) k image → StandsFor root texts image
writing free root texts None image on crash_beside = absurd on
writing free root texts (Some k) image on crash_beside = stands_beside root texts k image (λ file fits. ready_has free (spelling root) file (on.roots file fits)) on.fronts crash_beside

-- A command that writes beside the texts of its root and replaces the root then.
module _ (free : ℕ) (old new : Root) (parts next : Parts) {D : Type 0} (g : Disk D) (disk d1 : D) (own : IsOwnOfParts old free parts (g.content disk)) (run : RunsBeside g (bounds_of old) disk d1) where
  -- Files that stand for the old texts stand for the old parts.
  old_parts : (image : Files) → StandsFor old (texts_of old parts) image → RecoversPartsBy old parts image
  old_parts image stands = record { valid = own.valid; fits = own.fits; long = own.long; stands = stands }

  -- What a crash leaves before the root is replaced.
  pub writing_by : LeavesOnly g disk d1 (RecoversPartsBy old parts)
  writing_by = weaker g disk d1 (Beside (bounds_of old) (g.content disk)) (RecoversPartsBy old parts) run.moments (λ image crash_beside. old_parts image (writing free old (texts_of old parts) (g.content disk) image own.on crash_beside))

  module _ (so_far : Texts) (reads : WhereTold (ReadsAsTexts old so_far) (g.content d1)) (becomes : BecomesRoot old so_far new (texts_of new next)) (valid : IsRoot new) (fits : RootFits new) (long : PartsFit new next) where
    -- What the replacement requires.
    pub to_replace : ToReplace free old (texts_of old parts) new (texts_of new next) (g.content d1)
    to_replace = replaceable free old (texts_of old parts) so_far new (texts_of new next) (g.content disk) (g.content d1) own.on run.told reads becomes

    -- What a crash leaves while it is replaced: the parts by their own root.
    abbrev pub ByEither : Files → Type 0
    ByEither image = RecoversPartsBy old parts image ⊎ RecoversPartsBy new next image

    pub changing_by : (d2 : D) → ((texts nexts : Texts) → ToReplace free old texts new nexts (g.content d1) → LeavesOnly g d1 d2 (StandsForEither old texts new nexts)) → LeavesOnly g disk d2 ByEither
    changing_by d2 replaces =
        joined g disk d1 d2 (RecoversPartsBy old parts) (StandsForEither old (texts_of old parts) new (texts_of new next)) ByEither writing_by (replaces (texts_of old parts) (texts_of new next) to_replace) (λ image stands. inl stands)
        (λ image either. elim either [
          | inl stands ↦ inl (old_parts image stands)
          | inr stands ↦ inr (record { valid = valid; fits = fits; long = long; stands = stands })
        ])

    -- What the disk is then.
    pub changed : (d2 : D) → OnDisk new (1 - free) (texts_of new next) (g.content d2) → IsOwnOfParts new (1 - free) next (g.content d2)
    changed d2 on = record { valid = valid; fits = fits; long = long; on = on }
