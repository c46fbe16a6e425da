-- An entry that is appended to the files of a root: the next root, and the parts that it names.
use Rattle.std.specs.Prelude.{◌≡◌, ◌≢◌, ◌+◌, ◌-◌, ◌*◌, ◌^◌, ◌<◌, ◌≤◌, ◌==◌, ◌&&◌, nat_lt, ℕ, Bool, true, false, if◌then◌else◌, List, [], ◌++◌, length, get_or, set, Option, Some, None, refl}
use Rattle.std.proofs.Common.{◌∙◌, sym, ap, subst, inl, inr, arith, length-append}
use Rattle.std.proofs.lemmas.Bool.{cases_lt}
use Rattle.std.proofs.lemmas.List.{nil_from_length}
use Rattle.arch_base.specs.declared.ids.ObjectId.{ObjectId}
use Rattle.arch_base.specs.declared.ids.Form.{Form}
use Rattle.disk_model.specs.declared.disk.Disk.{Ghosts as Disk}
use Rattle.disk_model.specs.declared.name.FileKind.{FileKind}
use Rattle.disk_model.specs.declared.name.FileKind.TheVariants as kind
use Rattle.disk_model.specs.declared.name.FileName.{FileName}
use Rattle.disk_model.specs.Beside.{RespectsBound, RunsBeside}
use Rattle.disk_model.specs.Disk.{File, Content, BothTold, WhereTold, OneFile, Wrote, IsAtMostLength, bytes_of}
use Rattle.disk_model.specs.Images.{same_or_other}
use Rattle.disk_model.specs.Moments.{LeavesOnly, weaker}
use Rattle.disk_model.specs.Sizes.{record_size}
use Rattle.disk_model.specs.Tells.{told_then, told_weaker, told_where}
use Rattle.git_objects.specs.Objects.{blob_id_of, blob_spelling}
use Rattle.git_objects.specs.declared.entry_kind.EntryKind.{EntryKind}
use Rattle.git_objects.specs.declared.entry_kind.EntryKind.TheVariants.{Message, Deletion}
use Rattle.git_objects.proofs.ObjectIds.{IsObjectId-id_of}
use Rattle.mail_commits.specs.Entries.{entry_bytes}
use Rattle.number_map.specs.Sizes.{record_length, sizes_none, sizes_one}
use Rattle.epoch_file.specs.Entries.{EpochEntry, bytes_after}
use Rattle.epoch_file.specs.declared.entry.NewEntry.{NewEntry}
use Rattle.epoch_file.specs.Appending.{front_at, appended, entry_of}
use Rattle.root_slots.specs.declared.root.Place.{Place}
use Rattle.root_slots.specs.declared.root.Root.{Root}
use Rattle.root_slots.specs.RootName.{root_name}
use Rattle.root_slots.specs.OneRoot.{BeginsRootIn, RunsOneRoot}
use Rattle.root_slots.proofs.OneRoots.{joined_one}
use Rattle.root_slots.specs.Sizes.{sequence-spelling}
use Rattle.root_slots.specs.Slots.{HasNewRoot, HasRootSize, with_root}
use Rattle.root_slots.specs.Valid.{IsRoot, RootFits, no_place}
use Rattle.root_change.specs.Changing.{ReadsAsTexts, BecomesRoot}
use Rattle.root_change.specs.Copying.{Added}
use Rattle.root_change.specs.Names.{map_name, epoch_name, place_of, has_place, named_by, names_file, named_end, named_none, named_some, bounds_of}
use Rattle.root_change.specs.Parts.{Parts, texts_of, PartsFit, RecoversPartsBy, IsOwnOfParts}
use Rattle.root_change.specs.Replacing.{ToReplace, StandsForEither}
use Rattle.root_change.specs.Texts.{Texts, IsOn, OnDisk, HasPartSizes, KeepsNamed}
use Rattle.root_change.proofs.Changes.{text_named, text_unnamed, part_measure, parts_measure, writing_by, to_replace, changing_by, changed}
use Rattle.root_change.proofs.Copies.{none_added, wrote_added}
use Rattle.root_change.proofs.Drops.{not_both, true_or_false, named, named_map, named_epoch}
use Rattle.root_change.proofs.Grown.{epoch_no_cache, map_no_cache, epoch_isnt_root, map_isnt_root, epoch_isnt_map, epoch_is_named, map_is_named}
use Rattle.root_change.proofs.Phases.{beside_one, beside_went}
use Rattle.root_change.proofs.Roots.{equal_or_not, same_test, other_test, set_here, set_elsewhere}
use Rattle.root_change.proofs.Sizes.{end_at_most, end_respects}
use Rattle.store_planning.specs.declared.next.NextPlace.{NextPlace}
use Rattle.epoch_store.specs.Entering.{numbers_by, line_by, line_of, root_after, root_with, parts_with, Entered, RecoversEntered}
use Rattle.epoch_store.specs.Commands.{next_sequence, RootGoesOn}
use Rattle.epoch_store.specs.Commands.{place_of as place_at}

-- Bytes that are written at the end of those of a file are added to it, if the disk tells its content.
pub wrote_told : (bytes : List ℕ) (to : FileName) (end_ : ℕ) (k m : Option Content) → 0 < length bytes → WhereTold (IsAtMostLength to end_) k → BothTold (OneFile to (Wrote end_ bytes)) k m → BothTold (Added bytes to end_) k m
wrote_told bytes to end_ k m some inside = told_weaker (OneFile to (Wrote end_ bytes)) (Added bytes to end_) k m (λ a b is it one. wrote_added bytes to end_ a b some (subst (WhereTold (IsAtMostLength to end_)) is inside) one)

-- No bytes are added by no call.
pub nothing_told : (to : FileName) (end_ : ℕ) (k : Option Content) → WhereTold (IsAtMostLength to end_) k → BothTold (Added [] to end_) k k
nothing_told to end_ None inside = tt
nothing_told to end_ (Some k) inside = none_added to end_ k inside

-- An entry has some bytes.
pub some_bytes : (of : Form) (parent : Option ObjectId) (e : EpochEntry) → 0 < length (bytes_after of parent e)
unfolding entry_bytes
some_bytes of parent e = omega arith

-- So has what is appended for it.
pub appended_some : (at : ℕ) (e : NewEntry) → 0 < length (appended at e)
appended_some at e = (let some = some_bytes e.form e.parent (entry_of e) in omega (arith, some, length-append (front_at e.form at) (bytes_after e.form e.parent (entry_of e))))

-- The map gets one record for each number that is taken.
line_size : (root : Root) (p : NextPlace) (e : NewEntry) → e.form ≡ root.config.form → length (line_of root p e) ≡ record_size root.config.form * numbers_by e.kind
line_size root p e form_is = by e.kind ∙ ap (λ (g : Form). record_size g * numbers_by e.kind) form_is where
  by : (k : EntryKind) → length (line_by k root.next p.epoch (blob_id_of e.form e.text.now)) ≡ record_size e.form * numbers_by k
  by Message = record_length e.form (record { number = root.next; epoch = p.epoch; blob = blob_id_of e.form e.text.now }) (IsObjectId-id_of e.form (blob_spelling e.text.now)).len ∙ sym (sizes_one e.form)
  by Deletion = sym (sizes_none e.form)

-- The map's bytes that count end where its records do.
map_end : (root : Root) → named_end root (map_name root.map.generation) ≡ root.map.length
map_end root = named_some root (map_name root.map.generation) (map_is_named root root.map.generation refl)

pub map_respects : (root : Root) → RespectsBound (bounds_of root (map_name root.map.generation)) root.map.length
map_respects root = subst (λ (n : ℕ). RespectsBound (bounds_of root (map_name root.map.generation)) n) (map_end root) (end_respects root (map_name root.map.generation) (map_isnt_root root.map.generation))

-- The place of the next entry.
module _ (root : Root) (p : NextPlace) (is : p ≡ place_at root p.epoch p.parent) (small : p.epoch ≤ 63) where
  abbrev was : Place
  was = place_of root kind.Epoch p.epoch

  gens : p.generation ≡ (if was.length == 0 then next_sequence root.sequence else was.generation)
  gens = ap (λ (q : NextPlace). q.generation) is

  length_is : p.length ≡ was.length
  length_is = ap (λ (q : NextPlace). q.length) is

  gen_kept : 0 < was.length → p.generation ≡ was.generation
  gen_kept some = gens ∙ ap (λ (b : Bool). if b then next_sequence root.sequence else was.generation) (other_test was.length 0 (λ none. absurd (omega (arith, some, none))))

  gen_fresh : was.length ≡ 0 → p.generation ≡ next_sequence root.sequence
  gen_fresh none = gens ∙ ap (λ (b : Bool). if b then next_sequence root.sequence else was.generation) (same_test was.length 0 none)

  -- The bytes of its file that count end there, so it respects the bounds of the root.
  pub place_end : named_end root (epoch_name p.epoch p.generation) ≡ p.length
  place_end = elim (cases_lt 0 was.length) [
    | inl some ↦ named_some root (epoch_name p.epoch p.generation) (epoch_is_named root p.epoch p.generation (omega (arith, small)) some (sym (gen_kept some))) ∙ sym length_is
    | inr none ↦ (let most : named_end root (epoch_name p.epoch p.generation) ≤ was.length = end_at_most root (epoch_name p.epoch p.generation) in omega (arith, none, most, length_is))
  ]

  pub place_respects : RespectsBound (bounds_of root (epoch_name p.epoch p.generation)) p.length
  place_respects = subst (λ (n : ℕ). RespectsBound (bounds_of root (epoch_name p.epoch p.generation)) n) place_end (end_respects root (epoch_name p.epoch p.generation) (epoch_isnt_root p.epoch p.generation))

  pub place_inside : (k : Option Content) → WhereTold (HasPartSizes root) k → WhereTold (IsAtMostLength (epoch_name p.epoch p.generation) p.length) k
  place_inside None sizes = tt
  place_inside (Some k) sizes = subst (λ (n : ℕ). n ≤ length (bytes_of (k (epoch_name p.epoch p.generation)).seen)) place_end (sizes.lengths (epoch_name p.epoch p.generation) (epoch_isnt_root p.epoch p.generation) (λ wrong. absurd cc))

  -- So the map has its bytes once the entry is there.
  pub map_inside : (bytes : List ℕ) (k m : Option Content) → WhereTold (HasPartSizes root) k → BothTold (Added bytes (epoch_name p.epoch p.generation) p.length) k m → WhereTold (IsAtMostLength (map_name root.map.generation) root.map.length) m
  map_inside bytes k m sizes added =
      told_where (Added bytes (epoch_name p.epoch p.generation) p.length) (HasPartSizes root) (IsAtMostLength (map_name root.map.generation) root.map.length) k m
      (λ a b it new_is one long.
      let inside = long.lengths (map_name root.map.generation) (map_isnt_root root.map.generation) (λ wrong. absurd cc) in
      let still = ap (λ (f : File). length (bytes_of f)) (one.others (map_name root.map.generation) (λ same. epoch_isnt_map p.epoch p.generation root.map.generation (sym same))) in
      let end_ = map_end root in
      omega (arith, inside, still, end_)) added sizes

  -- The root after an entry there goes on from the one before.
  pub goes_on_after : (kind_ : EntryKind) (end_ : ℕ) → length root.epochs ≡ 64 → RootGoesOn root (root_after root kind_ p end_)
  goes_on_after kind_ end_ count = record {
    sequence = refl;
    config = refl;
    map = refl;
    cache = refl;
    epochs = λ e below. elim (equal_or_not e p.epoch) [
      | inl at ↦ inr (elim (cases_lt 0 (place_of root kind.Epoch e).length) [
        | inl some ↦ inl (some, new_gen e at ∙ (gen_kept (subst (λ (n : ℕ). 0 < (place_of root kind.Epoch n).length) at some) ∙ ap (λ (n : ℕ). (place_of root kind.Epoch n).generation) (sym at)))
        | inr none ↦ inr (omega (arith, none), new_gen e at ∙ gen_fresh (ap (λ (n : ℕ). (place_of root kind.Epoch n).length) (sym at) ∙ omega (arith, none)))
      ])
      | inr apart ↦ inl (set_elsewhere root.epochs p.epoch (record { generation = p.generation; length = end_ }) e apart)
    ];
  } where
    new_gen : (e : ℕ) → e ≡ p.epoch → (get_or (set root.epochs p.epoch (record { generation = p.generation; length = end_ })) e no_place).generation ≡ p.generation
    new_gen e at =
        ap (λ (n : ℕ). (get_or (set root.epochs p.epoch (record { generation = p.generation; length = end_ })) n no_place).generation) at
        ∙ ap (λ (q : Place). q.generation) (set_here root.epochs p.epoch (record { generation = p.generation; length = end_ }) (omega (arith, count, small)))

  module _ (e : NewEntry) (form_is : e.form ≡ root.config.form) (count : length root.epochs ≡ 64) where
    -- The root after a new entry, and the files to which it was appended.
    abbrev new : Root
    new = root_with root p e

    abbrev place : Place
    place = record { generation = p.generation; length = p.length + length (appended p.length e) }

    abbrev epoch : FileName
    epoch = epoch_name p.epoch p.generation

    abbrev map : FileName
    map = map_name root.map.generation

    -- That root names both, and the one before the map's.
    new_place : place_of new kind.Epoch p.epoch ≡ place
    new_place = set_here root.epochs p.epoch place (omega (arith, count, small))

    epoch_named : names_file new epoch ≡ true
    epoch_named =
        let some = appended_some p.length e in
        let size : (place_of new kind.Epoch p.epoch).length ≡ place.length = ap (λ (q : Place). q.length) new_place in
        epoch_is_named new p.epoch p.generation (omega (arith, small)) (omega (arith, some, size)) (ap (λ (q : Place). q.generation) new_place)

    map_named : names_file new map ≡ true
    map_named = map_is_named new root.map.generation refl

    map_was_named : names_file root map ≡ true
    map_was_named = map_is_named root root.map.generation refl

    -- Each other file that it names is that of a part that stays.
    record IsOther (k : FileKind) (n g : ℕ) : Type 0 where
      was_named : named_by root k n g ≡ true
      place_is : place_of new k n ≡ place_of root k n
      part_is : (parts : Parts) → parts_with root p e parts k n ≡ parts k n

    other_file : (k : FileKind) (n g : ℕ) → named_by new k n g ≡ true → named k n g ≢ epoch → named k n g ≢ map → IsOther k n g
    other_file kind.Root n g there not_epoch not_map = record { was_named = there; place_is = refl; part_is = λ parts. refl }
    other_file kind.Cache n g there not_epoch not_map = record { was_named = there; place_is = refl; part_is = λ parts. refl }
    other_file kind.Map n g there not_epoch not_map = absurd (not_map (named_map new n g there))
    other_file kind.Epoch n g there not_epoch not_map = elim (equal_or_not n p.epoch) [
      | inl at ↦
          let gen_is : g ≡ p.generation = named_epoch new n g there ∙ (ap (λ (m : ℕ). (place_of new kind.Epoch m).generation) at ∙ ap (λ (q : Place). q.generation) new_place) in
          absurd (not_epoch (ap (λ (m : ℕ). named kind.Epoch m g) at ∙ ap (named kind.Epoch p.epoch) gen_is))
      | inr apart ↦
          let same = set_elsewhere root.epochs p.epoch place n apart in
          record {
            was_named = ap (λ (q : Place). nat_lt n 64 && has_place q g) (sym same) ∙ there;
            place_is = same;
            part_is = λ parts. ap (λ (b : Bool). if b then parts kind.Epoch p.epoch ++ appended p.length e else parts kind.Epoch n) (other_test n p.epoch apart);
          }
    ]

    -- What other files read.
    others_stay : (k m : Content) → Entered root p e k m → (name : FileName) → name ≢ epoch → name ≢ map → (m name).seen ≡ (k name).seen
    others_stay k m wrote name not_epoch not_map = wrote.line.others name not_map ∙ wrote.entry.others name not_epoch

    root_stays : (k m : Content) → Entered root p e k m → (m root_name).seen ≡ (k root_name).seen
    root_stays k m wrote = others_stay k m wrote root_name (λ same. epoch_isnt_root p.epoch p.generation (sym same)) (λ same. map_isnt_root root.map.generation (sym same))

    -- The files are as long as it says.
    end_there : (k m : Content) → HasPartSizes root k → Entered root p e k m → (name : FileName) → name ≢ root_name → name.kind ≢ kind.Cache → names_file new name ≡ true → named_end new name ≤ length (bytes_of (m name).seen)
    end_there k m sizes wrote name apart no_cache there = elim (same_or_other epoch name) [
      | inl same ↦ subst (λ (f : FileName). named_end new f ≤ length (bytes_of (m f).seen)) (sym same) (
          let size = named_some new epoch epoch_named ∙ ap (λ (q : Place). q.length) new_place in
          let reached = wrote.entry.reaches in
          let still = ap (λ (f : File). length (bytes_of f)) (wrote.line.others epoch (epoch_isnt_map p.epoch p.generation root.map.generation)) in
          omega (arith, size, reached, still)
          )
      | inr not_epoch ↦ elim (same_or_other map name) [
        | inl same ↦ subst (λ (f : FileName). named_end new f ≤ length (bytes_of (m f).seen)) (sym same) (
            let size = named_some new map map_named in
            let reached = wrote.line.reaches in
            let more = line_size root p e form_is in
            omega (arith, size, reached, more)
            )
        | inr not_map ↦
            let one = other_file name.kind name.number name.generation there not_epoch not_map in
            let now = named_some new name there ∙ ap (λ (q : Place). q.length) one.place_is in
            let before = named_some root name one.was_named in
            let inside = sizes.lengths name apart no_cache in
            let still = ap (λ (f : File). length (bytes_of f)) (others_stay k m wrote name not_epoch not_map) in
            omega (arith, now, before, inside, still)
      ]
    ]

    kept_sizes : (k m n : Content) → HasPartSizes root k → Entered root p e k m → KeepsNamed new m n → HasPartSizes new n
    kept_sizes k m n sizes wrote kept = record {
      root_file = kept.root_file;
      lengths = λ name apart no_cache. elim (true_or_false (names_file new name)) [
        | inl there ↦ subst (λ (f : File). named_end new name ≤ length (bytes_of f)) (sym (kept.named name apart there)) (end_there k m sizes wrote name apart no_cache there)
        | inr isnt ↦ (let none = named_none new name isnt in omega (arith, none))
      ];
    }

    pub sizes_after : (k m n : Option Content) → WhereTold (HasPartSizes root) k → BothTold (Entered root p e) k m → BothTold (KeepsNamed new) m n → WhereTold (HasPartSizes new) n
    sizes_after k m n sizes wrote kept =
        let Keeps : Content → Content → Type 0 = λ a b. HasPartSizes root a → HasPartSizes new b in
        told_where Keeps (HasPartSizes root) (HasPartSizes new) k n (λ a b it is keeps. keeps)
        (told_then (Entered root p e) (KeepsNamed new) Keeps k m n (λ a b d it is one two was_. kept_sizes a b d was_ one two) wrote kept) sizes

    -- The root file is as before, and has only the next root once it is committed.
    pub root_sized : (k m : Option Content) → WhereTold (HasPartSizes root) k → BothTold (Entered root p e) k m → WhereTold HasRootSize m
    root_sized k m sizes wrote = told_where (Entered root p e) (HasPartSizes root) HasRootSize k m (λ a b it is one sized. ap (λ (f : File). length (bytes_of f)) (root_stays a b one) ∙ sized.root_file) wrote sizes

    pub rooted_after : (free : ℕ) (body : List ℕ) (k m n : Option Content) → BothTold (Entered root p e) k m → BothTold (HasNewRoot free body) m n → BothTold (HasNewRoot free body) k n
    rooted_after free body k m n = told_then (Entered root p e) (HasNewRoot free body) (HasNewRoot free body) k m n (λ a b d it is one two. two ∙ ap (λ (f : File). Some (with_root free body (bytes_of f))) (root_stays a b one))

    module _ (parts : Parts) (long : PartsFit root parts) where
      abbrev texts : Texts
      texts = texts_of root parts

      abbrev next : Parts
      next = parts_with root p e parts

      next_here : next kind.Epoch p.epoch ≡ parts kind.Epoch p.epoch ++ appended p.length e
      next_here = ap (λ (b : Bool). if b then parts kind.Epoch p.epoch ++ appended p.length e else parts kind.Epoch p.epoch) (same_test p.epoch p.epoch refl)

      -- The parts are as long as the next root says.
      pub parts_long : PartsFit new next
      parts_long kind.Root n = long kind.Root n
      parts_long kind.Cache n = long kind.Cache n
      parts_long kind.Map n = by (n == 0) refl where
        by : (b : Bool) → (n == 0) ≡ b → length (if b then parts kind.Map 0 ++ line_of root p e else parts kind.Map n) ≡ (if b then new.map else no_place).length
        by true at = (let before : length (parts kind.Map 0) ≡ root.map.length = long kind.Map 0 in let more = line_size root p e form_is in omega (arith, before, more, length-append (parts kind.Map 0) (line_of root p e)))
        by false isnt = long kind.Map n ∙ ap (λ (b : Bool). (if b then root.map else no_place).length) isnt
      parts_long kind.Epoch n = elim (equal_or_not n p.epoch) [
        | inl at ↦ subst (λ (m : ℕ). length (next kind.Epoch m) ≡ (place_of new kind.Epoch m).length) (sym at) (
            let before = long kind.Epoch p.epoch in
            let size : length (parts kind.Epoch p.epoch ++ appended p.length e) ≡ place.length = omega (arith, before, length_is, length-append (parts kind.Epoch p.epoch) (appended p.length e)) in
            ap length next_here ∙ (size ∙ sym (ap (λ (q : Place). q.length) new_place))
            )
        | inr apart ↦
            ap (λ (b : Bool). length (if b then parts kind.Epoch p.epoch ++ appended p.length e else parts kind.Epoch n)) (other_test n p.epoch apart)
            ∙ (long kind.Epoch n ∙ sym (ap (λ (q : Place). q.length) (set_elsewhere root.epochs p.epoch place n apart)))
      ]

      -- The epoch's file has the epoch's bytes, also if it is new.
      epoch_text : texts epoch ≡ parts kind.Epoch p.epoch
      epoch_text = elim (true_or_false (names_file root epoch)) [
        | inl there ↦ text_named root parts epoch there
        | inr isnt ↦ text_unnamed root parts epoch isnt ∙ sym (nil_from_length (parts kind.Epoch p.epoch) (long kind.Epoch p.epoch ∙ (sym length_is ∙ (sym place_end ∙ named_none root epoch isnt))))
      ]

      module _ (fits : RootFits root) (room : root.sequence + 1 < 2 ^ 64) (free : ℕ) (k m : Content) (on : IsOn root free texts k) (wrote : Entered root p e k m) where
        measured : (name : FileName) → name ≢ root_name → name.kind ≢ kind.Cache → length (bytes_of (k name).seen) ≡ named_end root name
        measured name apart no_cache = ap length (on.exact.ends name apart) ∙ part_measure root parts long name no_cache

        -- What both files read then.
        epoch_reads : bytes_of (m epoch).seen ≡ next kind.Epoch p.epoch
        epoch_reads =
            let apart = epoch_isnt_root p.epoch p.generation in
            ap bytes_of (wrote.line.others epoch (epoch_isnt_map p.epoch p.generation root.map.generation))
            ∙ (wrote.entry.there (measured epoch apart (epoch_no_cache p.epoch p.generation) ∙ place_end)
            ∙ (ap (λ (text : List ℕ). text ++ appended p.length e) (on.exact.ends epoch apart ∙ epoch_text) ∙ sym next_here))

        map_reads : bytes_of (m map).seen ≡ next kind.Map 0
        map_reads =
            let apart = map_isnt_root root.map.generation in
            let still : bytes_of (wrote.crash_between map).seen ≡ bytes_of (k map).seen = ap bytes_of (wrote.entry.others map (λ same. epoch_isnt_map p.epoch p.generation root.map.generation (sym same))) in
            wrote.line.there (ap length still ∙ (measured map apart (map_no_cache root.map.generation) ∙ map_end root))
            ∙ ap (λ (text : List ℕ). text ++ line_of root p e) (still ∙ (on.exact.ends map apart ∙ text_named root parts map map_was_named))

        -- So what is written becomes the texts of the next root.
        abbrev so_far : Texts
        so_far name = bytes_of (m name).seen

        reads_so_far : ReadsAsTexts root so_far m
        reads_so_far = record {
          bytes = λ name apart. refl;
          no_other = λ name isnt none. elim (same_or_other epoch name) [
            | inl same ↦ absurd (
                let some = appended_some p.length e in
                let size : length (parts kind.Epoch p.epoch ++ appended p.length e) ≡ 0 = ap length (sym (epoch_reads ∙ next_here) ∙ subst (λ (f : FileName). bytes_of (m f).seen ≡ []) same none) in
                omega (arith, size, some, length-append (parts kind.Epoch p.epoch) (appended p.length e))
                )
            | inr not_epoch ↦ elim (same_or_other map name) [
              | inl same ↦ absurd (not_both (names_file root map) map_was_named (subst (λ (f : FileName). names_file root f ≡ false) same isnt))
              | inr not_map ↦ others_stay k m wrote name not_epoch not_map ∙ on.exact.no_other name isnt
            ]
          ];
        }

        becomes_next : BecomesRoot root so_far new (texts_of new next)
        becomes_next = record {
          later = (let before = sequence-spelling root fits.sequence in omega (arith, before, room));
          measures = parts_measure new next parts_long;
          named = λ name apart there. elim (same_or_other epoch name) [
            | inl same ↦ subst (λ (f : FileName). so_far f ≡ texts_of new next f) (sym same) (epoch_reads ∙ sym (text_named new next epoch epoch_named))
            | inr not_epoch ↦ elim (same_or_other map name) [
              | inl same ↦ subst (λ (f : FileName). so_far f ≡ texts_of new next f) (sym same) (map_reads ∙ sym (text_named new next map map_named))
              | inr not_map ↦
                  let one = other_file name.kind name.number name.generation there not_epoch not_map in
                  ap bytes_of (others_stay k m wrote name not_epoch not_map)
                  ∙ (on.exact.ends name apart ∙ (text_named root parts name one.was_named ∙ (sym (one.part_is parts) ∙ sym (text_named new next name there))))
            ]
          ];
          others = λ name isnt. elim (true_or_false (names_file root name)) [
            | inl there ↦ inl there
            | inr wasnt ↦
                let not_epoch : name ≢ epoch = λ same. not_both (names_file new epoch) epoch_named (subst (λ (f : FileName). names_file new f ≡ false) same isnt) in
                let not_map : name ≢ map = λ same. not_both (names_file root map) map_was_named (subst (λ (f : FileName). names_file root f ≡ false) same wasnt) in
                inr (ap bytes_of (others_stay k m wrote name not_epoch not_map ∙ on.exact.no_other name wasnt))
          ];
        }

      -- The same of a disk that may tell its content, and of a root that is equal to the next one.
      abbrev reading : Option Content → Texts
      reading None name = []
      reading (Some m) name = bytes_of (m name).seen

      entered_told : (free : ℕ) (k m : Option Content) (made : Root) → RootFits root → root.sequence + 1 < 2 ^ 64 → made ≡ new → OnDisk root free texts k → BothTold (Entered root p e) k m → WhereTold (ReadsAsTexts root (reading m)) m × BecomesRoot root (reading m) made (texts_of made next)
      entered_told free None m made fits room made_is on wrote = absurd on
      entered_told free (Some k) None made fits room made_is on wrote = absurd wrote
      entered_told free (Some k) (Some m) made fits room made_is on wrote = (reads_so_far fits room free k m on wrote, subst (λ (r : Root). BecomesRoot root (so_far fits room free k m on wrote) r (texts_of r next)) (sym made_is) (becomes_next fits room free k m on wrote))

    -- What a crash leaves while the root is replaced, and what the disk is then.
    module _ {D : Type 0} (g : Disk D) (disk d1 d2 : D) (free : ℕ) (run : RunsBeside g (bounds_of root) disk d1) (wrote : BothTold (Entered root p e) (g.content disk) (g.content d1)) (made : Root) (made_is : made ≡ new) (valid : IsRoot made) (fits : RootFits made) (parts : Parts) (own : IsOwnOfParts root free parts (g.content disk)) (room : root.sequence + 1 < 2 ^ 64) where
      written : WhereTold (ReadsAsTexts root (reading parts own.long (g.content d1))) (g.content d1) × BecomesRoot root (reading parts own.long (g.content d1)) made (texts_of made (parts_with root p e parts))
      written = entered_told parts own.long free (g.content disk) (g.content d1) made own.fits room made_is own.on wrote

      made_long : PartsFit made (parts_with root p e parts)
      made_long = subst (λ (r : Root). PartsFit r (parts_with root p e parts)) (sym made_is) (parts_long parts own.long)

      pub entered_leaves : ((old nexts : Texts) → ToReplace free root old made nexts (g.content d1) → LeavesOnly g d1 d2 (StandsForEither root old made nexts)) → LeavesOnly g disk d2 (RecoversEntered root p e parts)
      entered_leaves replaces =
          weaker g disk d2 _ (RecoversEntered root p e parts)
          (changing_by free root made parts (parts_with root p e parts) g disk d1 own run (reading parts own.long (g.content d1)) written.0 written.1 valid fits made_long d2 replaces)
          (λ image either. elim either [ inl stands ↦ inl stands | inr stands ↦ inr (made, made_is, stands) ])

      pub entered_done : ((old nexts : Texts) → ToReplace free root old made nexts (g.content d1) → OnDisk made (1 - free) nexts (g.content d2)) → IsOwnOfParts made (1 - free) (parts_with root p e parts) (g.content d2)
      entered_done done =
          changed free root made parts (parts_with root p e parts) g disk d1 own run (reading parts own.long (g.content d1)) written.0 written.1 valid fits made_long d2
          (done (texts_of root parts) (texts_of made (parts_with root p e parts)) (to_replace free root made parts (parts_with root p e parts) g disk d1 own run (reading parts own.long (g.content d1)) written.0 written.1 valid fits made_long))

-- What a crash leaves while files are written beside the root.
pub stopped_leaves : {D : Type 0} (g : Disk D) (root : Root) (p : NextPlace) (e : NewEntry) (free : ℕ) (disk d1 : D) → RunsBeside g (bounds_of root) disk d1 → (parts : Parts) → IsOwnOfParts root free parts (g.content disk) → LeavesOnly g disk d1 (RecoversEntered root p e parts)
stopped_leaves g root p e free disk d1 run parts own =
    weaker g disk d1 (RecoversPartsBy root parts) (RecoversEntered root p e parts) (writing_by free root root parts parts g disk d1 own run) (λ image stands. inl stands)

-- At most one root comes while files are written beside a root and it is replaced.
pub replaced_root : {D : Type 0} (g : Disk D) (root : Root) (slot : ℕ) (body : List ℕ) (disk mid new : D) → slot < 2 → RunsBeside g (bounds_of root) disk mid → RunsOneRoot g slot (Some body) mid new → BeginsRootIn g slot disk new
replaced_root g root slot body disk mid new low run replaces =
    (Some body, joined_one g slot (Some body) disk mid new low (beside_one g root slot (Some body) disk mid run) (beside_went root slot (Some body) (g.content disk) (g.content mid) run.told) replaces)
