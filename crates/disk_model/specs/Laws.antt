-- Laws for programs that write a disk: what a write, a sync and a fault leave.
use Rattle.std.specs.Prelude.{◌≡◌, ◌⊎◌, ℕ, ◌+◌, ◌-◌, ◌<◌, ◌≤◌, min, Bool, true, false, cond, ◌&&◌, Option, Some, None, List, length, get_or, take, drop, map, Result, Ok, Err, OnOk, OnErr, refl}
use Rattle.std.specs.List.{range_with_len}
use Rattle.std.proofs.Common.{◌∙◌, sym, ap, subst, inl, inr, arith, ltb, leb, length-take, length-drop, length-append}
use Rattle.std.proofs.lemmas.List.FromFn.{get_or-map-range_with_len, length-map-range_with_len}
use Rattle.std.proofs.lemmas.Bool.Decides.{nat_tests}
use Rattle.std.proofs.lemmas.Grind.{common_steps, same_number_lists}
use Rattle.std.proofs.lemmas.Bool.{cases_lt}
use Rattle.std.proofs.lemmas.List.{get_or-take, get_or_past}
use Rattle.disk_model.specs.declared.name.FileName.{FileName}
use Rattle.disk_model.specs.Disk.{File, Files, Survival, MayHold, MaySurvive, exact, write_sure, cut_sure, remove_sure, Within, Kept, Content, Image, BothTold, WhereTold, Unchanged, bytes_of, overlay, Synced, NotSynced, ReadsFit, IsLength}

-- Bytes that differ in a range at most, with equal lengths.
pub record SameOutside (at n : ℕ) (old new : List ℕ) : Type 0 where
  pub size : length new ≡ length old
  pub bytes : (i : ℕ) → (i < at) ⊎ (at + n ≤ i) → get_or new i 0 ≡ get_or old i 0

-- Files that differ in a range at most: both missing, or both there with equal lengths.
abbrev pub TornFile : ℕ → ℕ → File → File → Type 0
TornFile at n None None = Unit {0}
TornFile at n (Some old) (Some new) = SameOutside at n old new
TornFile at n None (Some new) = ⊥
TornFile at n (Some old) None = ⊥

-- A file after a write inside it is a file from before the write, with other bytes in the range.
pub record Origin (at n : ℕ) (s : Survival) (image : File) : Type 0 where
  pub file : File
  pub fits : MaySurvive s file
  pub torn : TornFile at n file image

-- A file after a write starts with the same bytes, up to the offset, as a file from before the
-- write.
pub record FrontOrigin (at : ℕ) (s : Survival) (image : File) : Type 0 where
  pub file : File
  pub fits : MaySurvive s file
  pub same : take at (bytes_of image) ≡ take at (bytes_of file)
  pub long : at ≤ length (bytes_of file) → at ≤ length (bytes_of image)

-- A file that the first allows, the second allows too.
pub MaySurvive-Within : (s t : Survival) (file : File) → Within s t → MaySurvive s file → MaySurvive t file
MaySurvive-Within s t None w fits = w.gone fits
MaySurvive-Within s t (Some bytes) w fits = record {
  there = w.there fits.there;
  no_shorter = omega (arith, w.least, fits.no_shorter);
  no_longer = omega (arith, w.greatest, fits.no_longer);
  outside = λ i below out.
      let o = w.outside i below out in
      let shorter : i < s.least = omega (arith, w.least, below) in
      fits.outside i shorter o.0 ∙ o.1;
}

-- `Within` is reflexive.
pub Within-refl : (s : Survival) → Within s s
Within-refl s = record {
  there = λ e. e;
  gone = λ e. e;
  least = omega arith;
  greatest = omega arith;
  outside = λ i below out. (out, refl);
}

-- `Within` is transitive.
pub Within-trans : (s t u : Survival) → Within s t → Within t u → Within s u
Within-trans s t u p q = record {
  there = λ e. q.there (p.there e);
  gone = λ e. q.gone (p.gone e);
  least = omega (arith, p.least, q.least);
  greatest = omega (arith, p.greatest, q.greatest);
  outside = λ i below out.
      let first = q.outside i below out in
      let shorter : i < t.least = omega (arith, q.least, below) in
      let second = p.outside i shorter first.0 in
      (second.0, second.1 ∙ first.1);
}

-- A cut preserves `Within`.
pub cut_within : (n : ℕ) (s t : Survival) → Within s t → Within (cut_sure n s) (cut_sure n t)
cut_within n s t w = record {
  there = w.there;
  gone = w.gone;
  least = let l = w.least in omega arith;
  greatest = w.greatest;
  outside = λ i below out. let shorter : i < t.least = omega (arith, below) in
      w.outside i shorter out;
}

-- A removal preserves `Within`.
pub remove_within : (s t : Survival) → Within s t → Within (remove_sure s) (remove_sure t)
remove_within s t w = record {
  there = w.there;
  gone = λ e. refl;
  least = w.least;
  greatest = w.greatest;
  outside = w.outside;
}

-- A write that failed may have done nothing.
pub write_wider : (at n : ℕ) (seen : File) (s : Survival) → Within s (write_sure at n seen s)
write_wider at n None s = record {
  there = λ e. refl;
  gone = λ e. e;
  least = omega arith;
  greatest = omega arith;
  outside = λ i below out. absurd (omega (arith, below));
}
write_wider at n (Some bytes) s = record {
  there = λ e. refl;
  gone = λ e. e;
  least = omega arith;
  greatest = omega arith;
  outside = λ i below out. (out.1, refl);
}

-- A cut that failed may have done nothing.
pub cut_wider : (n : ℕ) (s : Survival) → Within s (cut_sure n s)
cut_wider n s = record {
  there = λ e. e;
  gone = λ e. e;
  least = omega arith;
  greatest = omega arith;
  outside = λ i below out. (out, refl);
}

-- A removal that failed may have done nothing.
pub remove_wider : (s : Survival) → Within s (remove_sure s)
remove_wider s = record {
  there = λ e. e;
  gone = λ e. refl;
  least = omega arith;
  greatest = omega arith;
  outside = λ i below out. (out, refl);
}

-- A failed sync may change nothing.
pub NotSynced-same : (content : Option Content) → ReadsFit content → BothTold NotSynced content content
NotSynced-same None fit = tt
NotSynced-same (Some k) fit = record { seen = fit k refl; crash = λ name. Within-refl (k name).sure }

-- A file that is on the disk as it reads has one image, itself.
pub MaySurvive-exact : (seen image : File) → MaySurvive (exact seen) image → image ≡ seen
MaySurvive-exact None None fits = refl
MaySurvive-exact None (Some bytes) fits = let wrong : false ≡ true = fits.there in cc
MaySurvive-exact (Some seen) None fits = let wrong : false ≡ true = fits in cc
MaySurvive-exact (Some seen) (Some bytes) fits =
    let short = fits.no_shorter in
    let long = fits.no_longer in
    let size : length bytes ≡ length seen = omega arith in
    ap (λ (b : List ℕ). Some b) (same_number_lists bytes seen size (λ i below.
    fits.outside i (omega (arith, size, below)) tt))

-- A file that is on the disk as it reads is an image of itself.
pub exact-fits : (seen : File) → MaySurvive (exact seen) seen
exact-fits None = refl
exact-fits (Some seen) = record {
  there = refl;
  no_shorter = omega arith;
  no_longer = omega arith;
  outside = λ i below out. refl;
}

-- Whether an offset is in a range.
abbrev pub is_in : ℕ → ℕ → ℕ → Bool
is_in at n i = leb at i && ltb i (at + n)

-- In the range the first value is chosen.
pub chosen_in : (at n i a b : ℕ) → at ≤ i → i < at + n → cond (is_in at n i) a b ≡ a
chosen_in at n i a b low high = grind (arith, nat_tests)

-- Outside the range the second value is chosen.
pub chosen_out : (at n i a b : ℕ) → (i < at) ⊎ (at + n ≤ i) → cond (is_in at n i) a b ≡ b
chosen_out at n i a b (inl low) = grind (arith, nat_tests)
chosen_out at n i a b (inr high) = grind (arith, nat_tests)

-- An offset is in a range or outside it.
pub in_or_out : (at n i : ℕ) → ((at ≤ i) × (i < at + n)) ⊎ ((i < at) ⊎ (at + n ≤ i))
in_or_out at n i = elim (cases_lt i at) [
  | inl low ↦ inr (inl low)
  | inr above ↦ elim (cases_lt i
      (at + n)) [ inl below ↦ inl (above, below) | inr high ↦ inr (inr high) ]
]

-- Bytes from before a write: those of the last sync in its range, and elsewhere those from after
-- it.
abbrev pub unwritten : ℕ → ℕ → Survival → List ℕ → List ℕ
unwritten at n s bytes = map (λ i. cond (is_in at n i) (get_or s.bytes i 0) (get_or bytes i 0))
    (range_with_len 0 (min (length bytes) s.greatest))

-- The length of these bytes.
pub unwritten_length : (at n : ℕ) (s : Survival) (bytes : List ℕ)
    → length (unwritten at n s bytes) ≡ min (length bytes) s.greatest
unwritten_length at n s bytes = length-map-range_with_len (λ i. cond (is_in at n i)
    (get_or s.bytes i 0) (get_or bytes i 0)) 0 (min (length bytes) s.greatest)

-- The byte at an offset.
pub unwritten_at : (at n : ℕ) (s : Survival) (bytes : List ℕ) (i : ℕ)
    → i < min (length bytes) s.greatest → get_or (unwritten at n s bytes) i 0
    ≡ cond (is_in at n i) (get_or s.bytes i 0) (get_or bytes i 0)
unwritten_at at n s bytes i below =
    get_or-map-range_with_len (λ i. cond (is_in at n i) (get_or s.bytes i 0) (get_or bytes i 0)) 0
    (min (length bytes) s.greatest) i i 0 below (omega arith)

-- A crash before the write might have left these bytes.
pub unwritten_fits : (at n : ℕ) (s : Survival) (seen bytes : List ℕ) → MayHold s seen
    → MayHold (write_sure at n (Some seen) s) bytes → MayHold s (unwritten at n s bytes)
unwritten_fits at n s seen bytes h w =
    let size = unwritten_length at n s bytes in
    let least = w.no_shorter in
    let low = h.no_shorter in
    let high = h.no_longer in
    record {
      there = h.there;
      no_shorter = omega arith;
      no_longer = omega arith;
      outside = λ i below out.
          let inside : i < min (length bytes) s.greatest = omega arith in
          let found = unwritten_at at n s bytes i inside in
          elim (in_or_out at n i) [
            | inl within ↦ found ∙ chosen_in at n i _ _ within.0 within.1
            | inr apart ↦ found ∙ (chosen_out at n i _ _ apart ∙ w.outside i below (apart, out))
          ];
    }

-- Each file after a write inside it is a file from before, with other bytes in the range.
pub write_origin : (at n : ℕ) (s : Survival) (seen : List ℕ) (image : File) → MayHold s seen
    → at + n ≤ length seen → MaySurvive (write_sure at n (Some seen) s) image → Origin at n s image
write_origin at n s seen None h inside fits = record { file = None; fits = fits; torn = tt }
write_origin at n s seen (Some bytes) h inside fits =
    let size = unwritten_length at n s bytes in
    let long = fits.no_longer in
    let high = h.no_longer in
    let same : length bytes ≡ length (unwritten at n s bytes) = omega arith in
    record {
      file = Some (unwritten at n s bytes);
      fits = unwritten_fits at n s seen bytes h fits;
      torn = record {
        size = same;
        bytes = λ i apart.
            elim (cases_lt i (length bytes)) [
              | inl below ↦ sym (unwritten_at at n s bytes i (omega (arith, size, same, below))
                  ∙ chosen_out at n i _ _ apart)
              | inr past ↦ get_or_past bytes i 0 past
                  ∙ sym (get_or_past (unwritten at n s bytes) i 0 (omega (arith, same, past)))
            ];
      };
    }

-- Each file after a write at an offset or after it starts with the same bytes as a file from
-- before.
pub write_front : (at n : ℕ) (s : Survival) (seen image : File) → MaySurvive s seen
    → at ≤ length (bytes_of seen) → MaySurvive (write_sure at n seen s) image → FrontOrigin at s image
write_front at n s seen None h after fits =
    record { file = None; fits = fits; same = refl; long = λ l. l }
write_front at n s None (Some bytes) h after fits =
    let empty : at ≡ 0 = omega arith in
    record { file = None; fits = h; same = rw empty refl; long = λ l. omega (arith, after) }
write_front at n s (Some seen) (Some bytes) h after fits =
    let size = unwritten_length at n s bytes in
    let high = h.no_longer in
    record {
      file = Some (unwritten at n s bytes);
      fits = unwritten_fits at n s seen bytes h fits;
      same = same_number_lists (take at bytes) (take at (unwritten at n s bytes))
          (omega (arith, size, after, high, length-take {A = ℕ}))
          (λ i below.
          let front : i < at = omega (arith, below, length-take {A = ℕ}) in
          let there : i < length bytes = omega (arith, below, length-take {A = ℕ}) in
          let held : i < min (length bytes) s.greatest = omega (arith, front, there, after, high) in
          get_or-take at bytes i 0 front ∙ sym (get_or-take at (unwritten at n s bytes) i 0 front
          ∙ (unwritten_at at n s bytes i held ∙ chosen_out at n i _ _ (inl front))));
      long = λ l. omega (arith, size, l);
    }

-- The length after a write.
pub overlay_length : (at : ℕ) (bytes old : List ℕ) → length (overlay at bytes old)
    ≡ min at (length old) + length bytes + (length old - (at + length bytes))
overlay_length at bytes old =
    omega (arith, length-append {A = ℕ}, length-take {A = ℕ}, length-drop {A = ℕ})

-- A write keeps each byte outside its range.
pub overlay_kept : (at : ℕ) (bytes old : List ℕ) (i : ℕ) → at ≤ length old → (i < at)
    ⊎ (at + length bytes ≤ i) → get_or (overlay at bytes old) i 0 ≡ get_or old i 0
overlay_kept at bytes old i inside (inl low) = grind (arith, common_steps)
overlay_kept at bytes old i inside (inr high) = grind (arith, common_steps)

-- A write inside a file keeps the file's length.
pub overlay-size : (at : ℕ) (bytes old : List ℕ) → at + length bytes ≤ length old
    → length (overlay at bytes old) ≡ length old
overlay-size at bytes old inside = omega (arith, overlay_length at bytes old)

-- A write puts the bytes into its range.
pub overlay-inside : (at : ℕ) (bytes old : List ℕ) → at ≤ length old
    → take (length bytes) (drop at (overlay at bytes old)) ≡ bytes
overlay-inside at bytes old inside = grind (arith, common_steps)

-- A write inside a file changes at most its range.
pub overlay-torn : (at : ℕ) (bytes old : List ℕ) → at + length bytes ≤ length old
    → SameOutside at (length bytes) old (overlay at bytes old)
overlay-torn at bytes old inside = record {
  size = overlay-size at bytes old inside;
  bytes = λ i apart. overlay_kept at bytes old i (omega arith) apart;
}

-- After a sync that returns `Ok` a crash leaves what reads give.
pub synced_image : (old new : Content) (image : Files) → Synced old new → Image (Some new) image
    → (name : FileName) → image name ≡ (new name).seen
synced_image old new image synced left name =
    MaySurvive-exact (old name).seen (image name) (MaySurvive-Within (new name).sure (exact (old name).seen)
    (image name) (synced.crash name) (left name)) ∙ sym (synced.seen name)

-- A sync adds no image, whatever it returns.
pub sync_image : {T E : Type 0} (result : Result T E) (old new : Option Content) (image : Files)
    → ReadsFit old → OnOk result (BothTold Synced old new) → OnErr result (BothTold NotSynced old new)
    → Image new image → Image old image
sync_image (Ok v) None None image fit ok err left = tt
sync_image (Ok v) None (Some k) image fit ok err left = absurd ok
sync_image (Ok v) (Some k) None image fit ok err left = absurd ok
sync_image (Ok v) (Some old) (Some new) image fit ok err left = λ name.
    let as_read = synced_image old new image ok left name ∙ ok.seen name in
    let Fit : File → Type 0 = λ file. MaySurvive (old name).sure file in
    subst Fit (sym as_read) (fit old refl name)
sync_image (Err e) None None image fit ok err left = tt
sync_image (Err e) None (Some k) image fit ok err left = absurd err
sync_image (Err e) (Some k) None image fit ok err left = absurd err
sync_image (Err e) (Some old) (Some new) image fit ok err left =
    λ name. MaySurvive-Within (new name).sure (old name).sure (image name) (err.crash name) (left name)

-- A disk that doesn't tell its content reads as one of its images.
pub untold_fits : ReadsFit None
untold_fits k is name = let wrong : None ≡ Some k = is in cc

-- A length that was read stays until the disk changes.
pub IsLength-unchanged : (name : FileName) (n : ℕ) (old new : Option Content)
    → WhereTold (IsLength name n) old → BothTold Unchanged old new → WhereTold (IsLength name n) new
IsLength-unchanged name n None None is same = tt
IsLength-unchanged name n None (Some m) is same = absurd same
IsLength-unchanged name n (Some k) None is same = absurd same
IsLength-unchanged name n (Some k) (Some m) is same =
    let P : Kept → Type 0 = λ kept. n ≡ length (bytes_of kept.seen) in
    subst P (sym (same name)) is
