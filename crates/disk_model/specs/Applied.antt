-- Changes applied to files, with their own bytes or others, and the images that result.
use Rattle.std.specs.Prelude.{◌≡◌, ◌⊎◌, ℕ, ◌+◌, ◌-◌, ◌/◌, ◌≤◌, ◌<◌, Bool, true, false, cond, if◌then◌else◌, ◌==◌, Option, Some, None, List, [], ◌∷◌, ◌++◌, length, get_or, take, drop, replicate, refl}
use Rattle.std.specs.BTreeMap.{is_at}
use Rattle.std.proofs.Common.{zero, suc, ◌∙◌, sym, ap, subst, inl, inr, arith, length-take}
use Rattle.std.proofs.lemmas.Grind.{common_steps}
use Rattle.std.proofs.lemmas.List.{get_or-take, take-append-drop, length-replicate}
use Rattle.disk_model.specs.declared.name.FileName.{FileName}
use Rattle.disk_model.specs.declared.change.Change.{Change}
use Rattle.disk_model.specs.declared.change.Change.TheVariants.{Write, Cut, Remove, Sync}
use Rattle.disk_model.specs.Disk.{File, Files, Image, Kept, Content, Survival, MaySurvive, bytes_of, overlay, write_sure, cut_sure, remove_sure, cut_file, ReadsFit}
use Rattle.disk_model.specs.Laws.{MaySurvive-Within, write_wider, cut_wider, remove_wider, exact-fits, overlay_length}
use Rattle.disk_model.specs.Name.{name_cmp}
use Rattle.disk_model.specs.Record.{step, replay, at_rest, content_of}

-- The bytes of a write, or as many of the value 255.
abbrev pub filled : Bool → List ℕ → List ℕ
filled true bytes = replicate (length bytes) 255
filled false bytes = bytes

-- A file as it reads after a change.
abbrev pub apply_file : Bool → FileName → File → Change → File
apply_file fill name file (Write other offset bytes) = cond (is_at (name_cmp other) name)
    (Some (overlay offset (filled fill bytes.items) (bytes_of file))) file
apply_file fill name file (Cut other n) = cond (is_at (name_cmp other) name) (cut_file n file) file
apply_file fill name file (Remove other) = cond (is_at (name_cmp other) name) None file
apply_file fill name file Sync = file

-- A file as it reads after all changes.
abbrev pub applied : Bool → FileName → File → List Change → File
applied fill name file [] = file
applied fill name file (change ∷ changes) =
    applied fill name (apply_file fill name file change) changes

-- A change that isn't a sync.
abbrev pub IsNoSync : Change → Type 0
IsNoSync Sync = ⊥
IsNoSync (Write other offset bytes) = Unit {0}
IsNoSync (Cut other n) = Unit {0}
IsNoSync (Remove other) = Unit {0}

-- No change is a sync.
abbrev pub AreUnsynced : List Change → Type 0
AreUnsynced [] = Unit {0}
AreUnsynced (change ∷ changes) = IsNoSync change × AreUnsynced changes

-- The last sync is the last of the first n changes, or there is none and n is 0.
pub record IsLastSync (changes : List Change) (n : ℕ) : Type 0 where
  pub within : n ≤ length changes
  pub synced : (n ≡ 0) ⊎ ((front : List Change) × (take n changes ≡ front ++ Sync ∷ []))
  pub rest : AreUnsynced (drop n changes)

-- The number of n changes since the last sync that a pick applies: none, all, all with other bytes,
-- or the first half.
abbrev pub picked_count : ℕ → ℕ → ℕ
picked_count pick n = if pick == 0 then 0 else (if pick == 3 then n / 2 else n)

-- The files that a pick makes of base files: the changes up to the last sync, then those that the
-- pick applies, for pick 2 with 255 in place of each byte that they write.
pub record IsPicked (pick : ℕ) (base : Files) (changes : List Change) (files : Files) : Type 0 where
  pub count : ℕ
  pub last_sync : IsLastSync changes count
  pub each : (name : FileName)
      → files name ≡ applied (pick == 2) name (applied false name (base name) (take count changes))
      (take (picked_count pick (length changes - count)) (drop count changes))

-- Both files are missing, or both are there with equal lengths.
abbrev pub AsLong : File → File → Type 0
AsLong None None = Unit {0}
AsLong (Some a) (Some b) = length a ≡ length b
AsLong None (Some b) = ⊥
AsLong (Some a) None = ⊥

-- A file is as long as itself.
pub as_long : (file : File) → AsLong file file
as_long None = tt
as_long (Some bytes) = refl

-- A file that a crash may leave and that is as long as the one that reads give.
pub record Tracks (k : Kept) (file : File) : Type 0 where
  pub fits : MaySurvive k.sure file
  pub long : AsLong k.seen file

-- Filling a write keeps its length.
pub filled-length : (fill : Bool) (bytes : List ℕ) → length (filled fill bytes) ≡ length bytes
filled-length true bytes = length-replicate {A = ℕ} (length bytes) 255
filled-length false bytes = refl

-- A write keeps each byte that it doesn't reach.
pub overlay_keeps : (at : ℕ) (bytes old : List ℕ) (i : ℕ) → i < length old → (i < at)
    ⊎ (at + length bytes ≤ i) → get_or (overlay at bytes old) i 0 ≡ get_or old i 0
overlay_keeps at bytes old i within (inl low) = grind (arith, common_steps)
overlay_keeps at bytes old i within (inr high) = grind (arith, common_steps)

-- A write of n bytes to a file that tracks gives one that tracks.
pub write_tracks : (offset : ℕ) (bytes other : List ℕ) (k : Kept) (file : File)
    → length other ≡ length bytes → Tracks k file
    → Tracks (record {
      seen = Some (overlay offset bytes (bytes_of k.seen));
      sure = write_sure offset (length bytes) k.seen k.sure;
    }) (Some (overlay offset other (bytes_of file)))
write_tracks offset bytes other k file same t = write_case k.seen k.sure file t.fits t.long where
  write_case : (seen : File) (s : Survival) (image : File) → MaySurvive s image → AsLong seen image
      → Tracks (record {
        seen = Some (overlay offset bytes (bytes_of seen));
        sure = write_sure offset (length bytes) seen s;
      }) (Some (overlay offset other (bytes_of image)))
  write_case None s None fits long = record {
    fits = record {
      there = refl;
      no_shorter = omega arith;
      no_longer = omega (arith, overlay_length offset other [], same);
      outside = λ i below out. absurd (omega (arith, below));
    };
    long = omega (arith, overlay_length offset other [], overlay_length offset bytes [], same);
  }
  write_case None s (Some b) fits long = absurd long
  write_case (Some a) s None fits long = absurd long
  write_case (Some a) s (Some b) fits long =
      let new = overlay_length offset other b in
      let low = fits.no_shorter in
      let high = fits.no_longer in
      record {
        fits = record {
          there = refl;
          no_shorter = omega (arith, new, low);
          no_longer = omega (arith, new, high, same);
          outside = λ i below out.
              let within : i < length b = omega (arith, low, below) in
              let apart : (i < offset) ⊎ (offset + length other ≤ i) = rw same out.0 in
              overlay_keeps offset other b i within apart ∙ fits.outside i below out.1;
        };
        long = omega (arith, overlay_length offset other b, overlay_length offset bytes a, same, long);
      }

-- A cut of a file that tracks gives one that tracks.
pub cut_tracks : (n : ℕ) (k : Kept) (file : File) → Tracks k file
    → Tracks (record { seen = cut_file n k.seen; sure = cut_sure n k.sure }) (cut_file n file)
cut_tracks n k file t = cut_case k.seen k.sure file t.fits t.long where
  cut_case : (seen : File) (s : Survival) (image : File) → MaySurvive s image → AsLong seen image
      → Tracks (record { seen = cut_file n seen; sure = cut_sure n s }) (cut_file n image)
  cut_case None s None fits long = record { fits = fits; long = tt }
  cut_case None s (Some b) fits long = absurd long
  cut_case (Some a) s None fits long = absurd long
  cut_case (Some a) s (Some b) fits long =
      let low = fits.no_shorter in
      let high = fits.no_longer in
      let size = length-take n b in
      record {
        fits = record {
          there = fits.there;
          no_shorter = omega (arith, size, low);
          no_longer = omega (arith, size, high);
          outside = λ i below out.
              let front : i < n = omega (arith, below) in
              let least : i < s.least = omega (arith, below) in
              get_or-take n b i 0 front ∙ fits.outside i least out;
        };
        long = omega (arith, size, length-take n a, long);
      }

-- A change of a file that tracks gives one that tracks, whatever bytes it writes.
pub step_tracks : (fill : Bool) (name : FileName) (k : Kept) (file : File) (change : Change)
    → IsNoSync change → Tracks k file
    → Tracks (step name k change) (apply_file fill name file change)
step_tracks fill name k file (Write other offset bytes) plain t =
    chosen (is_at (name_cmp other) name) where
      chosen : (b : Bool) → Tracks (cond b (record {
        seen = Some (overlay offset bytes.items (bytes_of k.seen));
        sure = write_sure offset (length bytes.items) k.seen k.sure;
      }) k)
          (cond b (Some (overlay offset (filled fill bytes.items) (bytes_of file))) file)
      chosen true = write_tracks offset bytes.items (filled fill bytes.items) k file
          (filled-length fill bytes.items) t
      chosen false = t
step_tracks fill name k file (Cut other n) plain t = chosen (is_at (name_cmp other) name) where
  chosen : (b : Bool) → Tracks (cond b (record {
    seen = cut_file n k.seen;
    sure = cut_sure n k.sure;
  }) k) (cond b (cut_file n file) file)
  chosen true = cut_tracks n k file t
  chosen false = t
step_tracks fill name k file (Remove other) plain t = chosen (is_at (name_cmp other) name) where
  chosen : (b : Bool)
      → Tracks (cond b (record { seen = None; sure = remove_sure k.sure }) k) (cond b None file)
  chosen true = record { fits = refl; long = tt }
  chosen false = t
step_tracks fill name k file Sync plain t = absurd plain

-- A file that a crash may leave is one that it may leave after a change that wasn't applied.
pub step_wider : (name : FileName) (k : Kept) (file : File) (change : Change) → IsNoSync change
    → MaySurvive k.sure file → MaySurvive (step name k change).sure file
step_wider name k file (Write other offset bytes) plain fits =
    chosen (is_at (name_cmp other) name) where
      chosen : (b : Bool)
          → MaySurvive (cond b (record {
            seen = Some (overlay offset bytes.items (bytes_of k.seen));
            sure = write_sure offset (length bytes.items) k.seen k.sure;
          }) k).sure file
      chosen true = MaySurvive-Within k.sure (write_sure offset (length bytes.items) k.seen k.sure) file
          (write_wider offset (length bytes.items) k.seen k.sure) fits
      chosen false = fits
step_wider name k file (Cut other n) plain fits = chosen (is_at (name_cmp other) name) where
  chosen : (b : Bool)
      → MaySurvive (cond b (record { seen = cut_file n k.seen; sure = cut_sure n k.sure }) k).sure file
  chosen true = MaySurvive-Within k.sure (cut_sure n k.sure) file (cut_wider n k.sure) fits
  chosen false = fits
step_wider name k file (Remove other) plain fits = chosen (is_at (name_cmp other) name) where
  chosen : (b : Bool) → MaySurvive (cond b (record { seen = None; sure = remove_sure k.sure }) k).sure file
  chosen true = MaySurvive-Within k.sure (remove_sure k.sure) file (remove_wider k.sure) fits
  chosen false = fits
step_wider name k file Sync plain fits = absurd plain

-- The same for a list of changes that weren't applied.
pub replay_wider : (name : FileName) (k : Kept) (file : File) (changes : List Change)
    → AreUnsynced changes → MaySurvive k.sure file → MaySurvive (replay name k changes).sure file
replay_wider name k file [] plain fits = fits
replay_wider name k file (change ∷ changes) plain fits = replay_wider name (step name k change)
    file changes plain.1 (step_wider name k file change plain.0 fits)

-- A file to which only the first m changes were applied is one that a crash may leave.
pub part_fits : (fill : Bool) (name : FileName) (k : Kept) (file : File) (changes : List Change)
    (m : ℕ) → AreUnsynced changes → Tracks k file
    → MaySurvive (replay name k changes).sure (applied fill name file (take m changes))
part_fits fill name k file [] zero plain t = t.fits
part_fits fill name k file [] (suc m) plain t = t.fits
part_fits fill name k file (change ∷ changes) zero plain t =
    replay_wider name k file (change ∷ changes) plain t.fits
part_fits fill name k file (change ∷ changes) (suc m) plain t =
    part_fits fill name (step name k change) (apply_file fill name file change) changes m plain.1
    (step_tracks fill name k file change plain.0 t)

-- A change and its application give the same file as it reads.
pub step_seen : (name : FileName) (k : Kept) (change : Change)
    → (step name k change).seen ≡ apply_file false name k.seen change
step_seen name k (Write other offset bytes) = chosen (is_at (name_cmp other) name) where
  chosen : (b : Bool) → (cond b (record {
    seen = Some (overlay offset bytes.items (bytes_of k.seen));
    sure = write_sure offset (length bytes.items) k.seen k.sure;
  }) k).seen
      ≡ cond b (Some (overlay offset bytes.items (bytes_of k.seen))) k.seen
  chosen true = refl
  chosen false = refl
step_seen name k (Cut other n) = chosen (is_at (name_cmp other) name) where
  chosen : (b : Bool) → (cond b (record { seen = cut_file n k.seen; sure = cut_sure n k.sure })
      k).seen ≡ cond b (cut_file n k.seen) k.seen
  chosen true = refl
  chosen false = refl
step_seen name k (Remove other) = chosen (is_at (name_cmp other) name) where
  chosen : (b : Bool)
      → (cond b (record { seen = None; sure = remove_sure k.sure }) k).seen ≡ cond b None k.seen
  chosen true = refl
  chosen false = refl
step_seen name k Sync = refl

-- The same for all changes.
pub replay_seen : (name : FileName) (k : Kept) (changes : List Change)
    → (replay name k changes).seen ≡ applied false name k.seen changes
replay_seen name k [] = refl
replay_seen name k (change ∷ changes) = replay_seen name (step name k change) changes
    ∙ ap (λ (file : File). applied false name file changes) (step_seen name k change)

-- Replaying two lists of changes one after the other is replaying the whole.
pub replay_append : (name : FileName) (k : Kept) (front back : List Change)
    → replay name k (front ++ back) ≡ replay name (replay name k front) back
replay_append name k [] back = refl
replay_append name k (change ∷ front) back = replay_append name (step name k change) front back

-- After a sync all is on the disk as it reads.
pub synced_rest : (name : FileName) (k : Kept) (front : List Change)
    → replay name k (front ++ Sync ∷ []) ≡ at_rest (replay name k front).seen
synced_rest name k front = replay_append name k front (Sync ∷ [])

-- At the last sync each file is on the disk as it reads.
pub last_rest : (name : FileName) (file : File) (changes : List Change) (n : ℕ)
    → IsLastSync changes n → replay name (at_rest file) (take n changes)
    ≡ at_rest (applied false name file (take n changes))
last_rest name file changes n last = elim last.synced [
  | inl none ↦ rw none refl
  | inr some ↦
      let P : List Change → Type 0 =
      λ cs. replay name (at_rest file) cs ≡ at_rest (applied false name file cs) in
      subst P (sym some.1) (synced_rest name (at_rest file) some.0 ∙ ap at_rest (seen_before some.0))
] where
  seen_before : (front : List Change)
      → (replay name (at_rest file) front).seen ≡ applied false name file (front ++ Sync ∷ [])
  seen_before front = sym (ap (λ (k : Kept). k.seen) (synced_rest name (at_rest file) front))
      ∙ replay_seen name (at_rest file) (front ++ Sync ∷ [])

-- A pick of the changes since the last sync gives a file that a crash may leave.
pub applied_fits : (fill : Bool) (base : Files) (changes : List Change) (n m : ℕ) (name : FileName)
    → IsLastSync changes n → MaySurvive (content_of base changes name).sure (applied fill name
    (applied false name (base name) (take n changes)) (take m (drop n changes)))
unfolding content_of
applied_fits fill base changes n m name last =
    let file = applied false name (base name) (take n changes) in
    let rest : replay name (at_rest (base name)) changes ≡ replay name (at_rest file) (drop n changes) =
    ap (replay name (at_rest (base name))) (sym (take-append-drop n changes)) ∙ (replay_append name
    (at_rest (base name)) (take n changes) (drop n changes) ∙ ap (λ (k : Kept).
    replay name k (drop n changes)) (last_rest name (base name) changes n last)) in
    let P : Kept → Type 0 = λ k. MaySurvive k.sure (applied fill name file (take m (drop n changes))) in
    subst P (sym rest) (part_fits fill name (at_rest file) file (drop n changes) m last.rest
    (record { fits = exact-fits file; long = as_long file }))

-- The files of a pick are an image.
pub IsPicked-image : (pick : ℕ) (base : Files) (changes : List Change) (files : Files)
    → IsPicked pick base changes files → Image (Some (content_of base changes)) files
IsPicked-image pick base changes files picked name =
    let P : File → Type 0 = λ file. MaySurvive (content_of base changes name).sure file in
    subst P (sym (picked.each name)) (applied_fits (pick == 2) base changes picked.count
    (picked_count pick (length changes - picked.count)) name picked.last_sync)

-- A change that isn't a sync keeps what reads give among the images.
pub by_tracks : (name : FileName) (k : Kept) (change : Change) → IsNoSync change
    → MaySurvive k.sure k.seen → MaySurvive (step name k change).sure (step name k change).seen
by_tracks name k change plain fits =
    let t =
    step_tracks false name k k.seen change plain (record { fits = fits; long = as_long k.seen }) in
    let P : File → Type 0 = λ file. MaySurvive (step name k change).sure file in
    subst P (sym (step_seen name k change)) t.fits

-- Every change keeps it so.
pub step_reads_fit : (name : FileName) (k : Kept) (change : Change) → MaySurvive k.sure k.seen
    → MaySurvive (step name k change).sure (step name k change).seen
step_reads_fit name k (Write other offset bytes) fits =
    by_tracks name k (Write other offset bytes) tt fits
step_reads_fit name k (Cut other n) fits = by_tracks name k (Cut other n) tt fits
step_reads_fit name k (Remove other) fits = by_tracks name k (Remove other) tt fits
step_reads_fit name k Sync fits = exact-fits k.seen

-- The same after all changes.
pub replay_reads_fit : (name : FileName) (k : Kept) (changes : List Change) → MaySurvive k.sure k.seen
    → MaySurvive (replay name k changes).sure (replay name k changes).seen
replay_reads_fit name k [] fits = fits
replay_reads_fit name k (change ∷ changes) fits =
    replay_reads_fit name (step name k change) changes (step_reads_fit name k change fits)

-- The same for every file.
pub record_reads_fit : (base : Files) (changes : List Change)
    → ReadsFit (Some (content_of base changes))
unfolding content_of
record_reads_fit base changes k is name =
    let P : Kept → Type 0 = λ kept. MaySurvive kept.sure kept.seen in
    subst P (ap (λ (o : Option Content). kept_in o) is)
    (replay_reads_fit name (at_rest (base name)) changes (exact-fits (base name))) where
      kept_in : Option Content → Kept
      kept_in None = at_rest None
      kept_in (Some content) = content name
