-- What one change makes of a disk in memory.
use Rattle.std.specs.Prelude.{◌≡◌, ◌≢◌, ◌<◌, ◌+◌, ◌-◌, ◌==◌, min, ℕ, Bool, true, false, cond, if◌then◌else◌, Some, None, List, [], ◌∷◌, ◌++◌, length, take, drop, get_or, Vec, refl}
use Rattle.std.specs.BTreeMap.{BTreeMap, is_at, get_by}
use Rattle.std.proofs.lemmas.List.{take_more}
use Rattle.disk_model.specs.contracts.name.FileNameOrd.TheImpl as order
use Rattle.std.specs.declared.alloc.Global.{Global}
use Rattle.std.proofs.Common.{◌∙◌, sym, ap, subst}
use Rattle.disk_model.specs.declared.name.FileName.{FileName}
use Rattle.disk_model.specs.declared.change.Change.{Change}
use Rattle.disk_model.specs.declared.change.Change.TheVariants.{Write, Cut, Remove, Sync}
use Rattle.disk_model.specs.Disk.{File, Files, Kept, Content, Within, OneFile, Wrote, CutTo, Removed, Synced, NotSynced, Elapses, HasRead, exact, bytes_of, overlay, write_sure, cut_sure, remove_sure, cut_file}
use Rattle.disk_model.specs.Laws.{Within-refl, NotSynced-same}
use Rattle.disk_model.specs.Images.{same_name, at_itself, at_other}
use Rattle.disk_model.specs.Name.{name_cmp}
use Rattle.disk_model.specs.Record.{file_at, SetsFile, SameFiles, step, content_of, content_of-push, content_of-none, LeftSince, elapses_push}
use Rattle.disk_model.specs.Applied.{filled, apply_file, applied, step_seen, record_reads_fit, IsLastSync, IsPicked, picked_count}
use Rattle.disk_model.proofs.FileMaps.{here_found, here_missing}

-- A change of one file keeps the others.
one_file : (P : Kept → Kept → Type 0) (base : Files) (changes : List Change) (change : Change) (name : FileName) → ((k : Kept) → P k (step name k change)) → ((other : FileName) → other ≢ name → (k : Kept) → step other k change ≡ k)
    → OneFile name P (content_of base changes) (content_of base (changes ++ change ∷ []))
one_file P base changes change name here away = record {
  here = let Q : Kept → Type 0 = λ kept. P (content_of base changes name) kept in subst Q (sym (content_of-push base changes change name)) (here (content_of base changes name));
  elsewhere = λ other apart. content_of-push base changes change other ∙ away other apart (content_of base changes other);
}

-- A value that isn't chosen leaves the other.
away_from : (b : Bool) (k l : Kept) → b ≡ false → cond b l k ≡ k
away_from true k l e = cc
away_from false k l e = refl

-- A write on record.
pub one_write : (base : Files) (changes : List Change) (name : FileName) (offset : ℕ) (v : Vec ℕ Global) → OneFile name (Wrote offset v.items) (content_of base changes) (content_of base (changes ++ Write name offset v ∷ []))
one_write base changes name offset v = one_file (Wrote offset v.items) base changes (Write name offset v) name
    (λ k. here k (is_at (name_cmp name) name) (at_itself name))
    (λ other apart k. away_from (is_at (name_cmp name) other) k _ (at_other name other apart)) where
      here : (k : Kept) (b : Bool) → b ≡ true → Wrote offset v.items k (cond b (record { seen = Some (overlay offset v.items (bytes_of k.seen)); sure = write_sure offset (length v.items) k.seen k.sure }) k)
      here k true e = record { seen = refl; crash = Within-refl (write_sure offset (length v.items) k.seen k.sure) }
      here k false e = cc

-- A cut on record.
pub one_cut : (base : Files) (changes : List Change) (name : FileName) (n : ℕ) → OneFile name (CutTo n) (content_of base changes) (content_of base (changes ++ Cut name n ∷ []))
one_cut base changes name n = one_file (CutTo n) base changes (Cut name n) name
    (λ k. here k (is_at (name_cmp name) name) (at_itself name))
    (λ other apart k. away_from (is_at (name_cmp name) other) k _ (at_other name other apart)) where
      here : (k : Kept) (b : Bool) → b ≡ true → CutTo n k (cond b (record { seen = cut_file n k.seen; sure = cut_sure n k.sure }) k)
      here k true e = record { seen = refl; crash = Within-refl (cut_sure n k.sure) }
      here k false e = cc

-- A removal on record.
pub one_removal : (base : Files) (changes : List Change) (name : FileName) → OneFile name Removed (content_of base changes) (content_of base (changes ++ Remove name ∷ []))
one_removal base changes name = one_file Removed base changes (Remove name) name
    (λ k. here k (is_at (name_cmp name) name) (at_itself name))
    (λ other apart k. away_from (is_at (name_cmp name) other) k _ (at_other name other apart)) where
      here : (k : Kept) (b : Bool) → b ≡ true → Removed k (cond b (record { seen = None; sure = remove_sure k.sure }) k)
      here k true e = record { seen = refl; crash = Within-refl (remove_sure k.sure) }
      here k false e = cc

-- A sync on record.
pub all_synced : (base : Files) (changes : List Change) → Synced (content_of base changes) (content_of base (changes ++ Sync ∷ []))
all_synced base changes = record {
  seen = λ name. ap (λ (k : Kept). k.seen) (content_of-push base changes Sync name);
  crash = λ name.
      let old = content_of base changes name in
      let P : Kept → Type 0 = λ k. Within k.sure (exact old.seen) in
      subst P (sym (content_of-push base changes Sync name)) (Within-refl (exact old.seen));
}

-- What holds of a record holds if base and changes are known by equations.
pub moved : (Q : Content → Content → Type 0) (base_old base_new : BTreeMap FileName (Vec ℕ Global)) (old new more : List Change) → base_new ≡ base_old → new ≡ more → Q (content_of (file_at base_old) old) (content_of (file_at base_old) more) → Q (content_of (file_at base_old) old) (content_of (file_at base_new) new)
moved Q base_old base_new old new more same_base is holds =
    let P = λ (cs : List Change). Q (content_of (file_at base_old) old) (content_of (file_at base_old) cs) in
    let B = λ (b : BTreeMap FileName (Vec ℕ Global)). Q (content_of (file_at base_old) old) (content_of (file_at b) new) in
    subst B (sym same_base) (subst P (sym is) holds)

-- The same for time.
pub moved_time : (base_old base_new : BTreeMap FileName (Vec ℕ Global)) (old new : List Change) (change : Change) → base_new ≡ base_old → new ≡ old ++ change ∷ []
    → Elapses (length old) (length new) (LeftSince (file_at base_old) old) (LeftSince (file_at base_new) new) (Some (content_of (file_at base_new) new))
moved_time base_old base_new old new change same_base is =
    let P = λ (cs : List Change). Elapses (length old) (length cs) (LeftSince (file_at base_old) old) (LeftSince (file_at base_old) cs) (Some (content_of (file_at base_old) cs)) in
    let B = λ (b : BTreeMap FileName (Vec ℕ Global)). Elapses (length old) (length new) (LeftSince (file_at base_old) old) (LeftSince (file_at b) new) (Some (content_of (file_at b) new)) in
    subst B (sym same_base) (subst P (sym is) (elapses_push (file_at base_old) old change))

-- The files in use are those of the record.
abbrev pub Current : BTreeMap FileName (Vec ℕ Global) → BTreeMap FileName (Vec ℕ Global) → List Change → Type 0
Current files base changes = (name : FileName) → file_at files name ≡ (content_of (file_at base) changes name).seen

-- They stay so if the files and the record change in the same way.
pub stays_current : (old new base : BTreeMap FileName (Vec ℕ Global)) (changes more : List Change) (change : Change) → Current old base changes → ((name : FileName) → file_at new name ≡ apply_file false name (file_at old name) change) → more ≡ changes ++ change ∷ [] → Current new base more
stays_current old new base changes more change was applies is =
    let P = λ (cs : List Change). Current new base cs in
    subst P (sym is) (λ name.
    let k = content_of (file_at base) changes name in
    applies name ∙ (ap (λ (f : File). apply_file false name f change) (was name) ∙ (sym (step_seen name k change) ∙ sym (ap (λ (kept : Kept). kept.seen) (content_of-push (file_at base) changes change name)))))

-- They are so before the first change.
pub starts_current : (files base : BTreeMap FileName (Vec ℕ Global)) (changes : List Change) → changes ≡ [] → SameFiles files base → Current files base changes
starts_current files base changes none same =
    let P = λ (cs : List Change). Current files base cs in
    subst P (sym none) (λ name. sym (same name) ∙ sym (ap (λ (k : Kept). k.seen) (content_of-none (file_at base) name)))

-- Changing the file of a name is changing the file found there.
same_choice : (old : BTreeMap FileName (Vec ℕ Global)) (name other : FileName) (F : File → File) → cond (is_at (name_cmp name) other) (F (file_at old name)) (file_at old other) ≡ cond (is_at (name_cmp name) other) (F (file_at old other)) (file_at old other)
same_choice old name other F = chosen (is_at (name_cmp name) other) refl where
  chosen : (b : Bool) → is_at (name_cmp name) other ≡ b → cond b (F (file_at old name)) (file_at old other) ≡ cond b (F (file_at old other)) (file_at old other)
  chosen true e = ap (λ (n : FileName). F (file_at old n)) (sym (same_name name other e))
  chosen false e = refl

-- A write to a file is the application of the change.
pub put_applies : (old new : BTreeMap FileName (Vec ℕ Global)) (name : FileName) (offset : ℕ) (fill : Bool) (bytes : List ℕ) (v : Vec ℕ Global) → v.items ≡ bytes → SetsFile old new name (Some (overlay offset (filled fill bytes) (bytes_of (file_at old name))))
    → (other : FileName) → file_at new other ≡ apply_file fill other (file_at old other) (Write name offset v)
put_applies old new name offset fill bytes v is sets other =
    let F : List ℕ → File → File = λ b f. Some (overlay offset (filled fill b) (bytes_of f)) in
    sets other ∙ (same_choice old name other (F bytes) ∙ ap (λ (b : List ℕ). cond (is_at (name_cmp name) other) (F b (file_at old other)) (file_at old other)) (sym is))

-- A cut of a file is the application of the change.
pub trim_applies : (old new : BTreeMap FileName (Vec ℕ Global)) (name : FileName) (n : ℕ) (fill : Bool) → SetsFile old new name (cut_file n (file_at old name)) → (other : FileName) → file_at new other ≡ apply_file fill other (file_at old other) (Cut name n)
trim_applies old new name n fill sets other = sets other ∙ same_choice old name other (cut_file n)

-- A write whose bytes are known by an equation.
pub wrote_moved : (base_old base_new : BTreeMap FileName (Vec ℕ Global)) (old new : List Change) (name : FileName) (offset : ℕ) (bytes : List ℕ) (v : Vec ℕ Global) → base_new ≡ base_old → v.items ≡ bytes → new ≡ old ++ Write name offset v ∷ []
    → OneFile name (Wrote offset bytes) (content_of (file_at base_old) old) (content_of (file_at base_new) new)
wrote_moved base_old base_new old new name offset bytes v same_base same is =
    let first = moved (OneFile name (Wrote offset v.items)) base_old base_new old new (old ++ Write name offset v ∷ []) same_base is (one_write (file_at base_old) old name offset v) in
    let P = λ (b : List ℕ). OneFile name (Wrote offset b) (content_of (file_at base_old) old) (content_of (file_at base_new) new) in
    subst P same first

-- A failed sync leaves the record as before.
pub not_synced : (base_old base_new : BTreeMap FileName (Vec ℕ Global)) (old new : List Change) → base_new ≡ base_old → new ≡ old → NotSynced (content_of (file_at base_old) old) (content_of (file_at base_new) new)
not_synced base_old base_new old new same_base is =
    moved NotSynced base_old base_new old new old same_base is (NotSynced-same (Some (content_of (file_at base_old) old)) (record_reads_fit (file_at base_old) old))

-- One more change at the end is one more application.
pub applied_push : (fill : Bool) (name : FileName) (file : File) (changes : List Change) (change : Change) → applied fill name file (changes ++ change ∷ []) ≡ apply_file fill name (applied fill name file changes) change
applied_push fill name file [] change = refl
applied_push fill name file (first ∷ changes) change = applied_push fill name (apply_file fill name file first) changes change

-- One turn of a loop that applies changes.
pub applied_more : (fill : Bool) (name : FileName) (file : File) (changes : List Change) (i : ℕ) (change : Change) → i < length changes → change ≡ get_or changes i change → applied fill name file (take (i + 1) changes) ≡ apply_file fill name (applied fill name file (take i changes)) change
applied_more fill name file changes i change below is =
    ap (applied fill name file) (take_more changes i change below ∙ ap (λ (c : Change). take i changes ++ c ∷ []) (sym is)) ∙ applied_push fill name file (take i changes) change

-- The bytes of a file that is there.
pub seen_found : (files base : BTreeMap FileName (Vec ℕ Global)) (changes : List Change) (name : FileName) (v : Vec ℕ Global) → Current files base changes → Some v ≡ get_by (order.ghosts.cmp name) files → bytes_of (content_of (file_at base) changes name).seen ≡ v.items
seen_found files base changes name v is found = ap bytes_of (sym (is name) ∙ here_found files name v found)

-- The bytes of a file that is missing.
pub seen_missing : (files base : BTreeMap FileName (Vec ℕ Global)) (changes : List Change) (name : FileName) → Current files base changes → None ≡ get_by (order.ghosts.cmp name) files → bytes_of (content_of (file_at base) changes name).seen ≡ []
seen_missing files base changes name is found = ap bytes_of (sym (is name) ∙ here_missing files name found)

-- A read of the bytes of a file.
pub has_read : (k : Content) (name : FileName) (offset n : ℕ) (before after bytes : List ℕ) → bytes_of (k name).seen ≡ bytes → n ≡ min (length before) (length bytes - offset) → after ≡ take n (drop offset bytes) ++ drop n before → HasRead name offset n before after k
has_read k name offset n before after bytes is count read =
    let P = λ (b : List ℕ). n ≡ min (length before) (length b - offset) in
    let Q = λ (b : List ℕ). after ≡ take n (drop offset b) ++ drop n before in
    record { count = subst P (sym is) count; bytes = subst Q (sym is) read }

-- A push that succeeds.
pub push_ok : (b : Bool) (old new : List Change) (change : Change) → new ≡ (if b then old ++ change ∷ [] else old) → b ≡ true → new ≡ old ++ change ∷ []
push_ok true old new change is ok = is
push_ok false old new change is ok = cc

-- A sync that is recorded, or isn't, keeps the files in use those of the record.
pub settles_current : (b : Bool) (files base : BTreeMap FileName (Vec ℕ Global)) (old new : List Change) → Current files base old → new ≡ (if b then old ++ Sync ∷ [] else old) → Current files base new
settles_current true files base old new was is = stays_current files files base old new Sync was (λ name. refl) is
settles_current false files base old new was is = subst (λ (cs : List Change). Current files base cs) (sym is) was

-- The files that a pick makes.
pub picks : (pick kept count : ℕ) (changes front back : List Change) (base first second : BTreeMap FileName (Vec ℕ Global)) (copied : Files) → IsLastSync changes count → front ≡ take count changes → back ≡ drop count changes → kept ≡ picked_count pick (length changes - count)
    → ((name : FileName) → copied name ≡ file_at base name) → ((name : FileName) → file_at first name ≡ applied false name (copied name) front) → ((name : FileName) → file_at second name ≡ applied (pick == 2) name (file_at first name) (take kept back))
    → (files : Files) → ((name : FileName) → files name ≡ file_at second name) → IsPicked pick (file_at base) changes files
picks pick kept count changes front back base first second copied last front_is back_is kept_is copy one two files same = record {
  count = count;
  last_sync = last;
  each = λ name.
      same name ∙ (two name ∙ (ap (λ (f : File). applied (pick == 2) name f (take kept back)) (one name ∙ (ap (λ (f : File). applied false name f front) (copy name) ∙ ap (applied false name (file_at base name)) front_is))
      ∙ (ap (λ (cs : List Change). applied (pick == 2) name (applied false name (file_at base name) (take count changes)) (take kept cs)) back_is
      ∙ ap (λ (n : ℕ). applied (pick == 2) name (applied false name (file_at base name) (take count changes)) (take n (drop count changes))) kept_is)));
}
