-- What several removals leave, one after the other.
use Rattle.std.specs.Prelude.{◌≡◌, ◌≢◌, ◌⊎◌, ℕ, ◌+◌, ◌<◌, Option, Some, None, List, length, slice_get, refl}
use Rattle.std.specs.List.{Contains}
use Rattle.std.proofs.Common.{◌∙◌, ap, sym, subst, inl, inr, arith}
use Rattle.std.proofs.lemmas.Bool.{cases_lt}
use Rattle.std.proofs.lemmas.Option.{same_Some, slice_get-get_or, slice_get_within, get_or_from_slice_get}
use Rattle.disk_model.specs.declared.name.FileName.{FileName}
use Rattle.disk_model.specs.Disk.{Content, File, Files, MaySurvive, Image, Kept, OneFile, Removed, Survival, BothTold, TornRemoval, Within, remove_sure}
use Rattle.disk_model.specs.Laws.{MaySurvive-Within, Within-trans, remove_within, remove_wider}
use Rattle.disk_model.specs.Images.{same_or_other}
use Rattle.disk_model.specs.Tells.{told_then, told_weaker}
use Rattle.store_finding.specs.Removing.{AreRemoved, Fewer}

-- Some of these files may be gone, and the others are as they were.
pub record Thinned (names : List FileName) (old new : Content) : Type 0 where
  pub others : (name : FileName) → (Contains names name → ⊥) → new name ≡ old name
  pub sure : (name : FileName) → Within (new name).sure (remove_sure (old name).sure)

-- The first n of them are gone.
pub record GoneUpTo (names : List FileName) (n : ℕ) (old new : Content) : Type 0 where
  pub thinned : Thinned names old new
  pub gone : (i : ℕ) (name : FileName) → i < n → slice_get names i ≡ Some name → (new name).seen ≡ None

-- A crash leaves a removed file as before or not at all.
one_fewer : (s : Survival) (image : File) → MaySurvive (remove_sure s) image → (image ≡ None) ⊎ MaySurvive s image
one_fewer s None fits = inl refl
one_fewer s (Some bytes) fits = inr (record { there = fits.there; no_shorter = fits.no_shorter; no_longer = fits.no_longer; outside = fits.outside })

-- A removal of one of them, done or torn.
thinner : (names : List FileName) (taken : FileName) (k m o : Content) → Contains names taken → Thinned names k m → Within (o taken).sure (remove_sure (m taken).sure) → ((other : FileName) → other ≢ taken → o other ≡ m other) → Thinned names k o
thinner names taken k m o among thin crash elsewhere = record {
  others = λ name none. elsewhere name (λ same. none (subst (λ (n : FileName). Contains names n) (sym same) among)) ∙ thin.others name none;
  sure = λ name.
      elim (same_or_other taken name) [
        | inl same ↦
            let here : Within (o taken).sure (remove_sure (k taken).sure) = Within-trans (o taken).sure (remove_sure (m taken).sure) (remove_sure (k taken).sure) crash (remove_within (m taken).sure (remove_sure (k taken).sure) (thin.sure taken)) in
            subst (λ (n : FileName). Within (o n).sure (remove_sure (k n).sure)) (sym same) here
        | inr apart ↦ let P : Kept → Type 0 = λ kept. Within kept.sure (remove_sure (k name).sure) in subst P (sym (elsewhere name apart)) (thin.sure name)
      ];
}

-- A name at an index is in the list.
pub at_place_in : (names : List FileName) (n : ℕ) (name : FileName) → slice_get names n ≡ Some name → Contains names name
at_place_in names n name is = (n, slice_get_within names n name is, get_or_from_slice_get names n name name is)

-- The state before the first removal.
pub none_gone : (names : List FileName) (k : Option Content) → BothTold (GoneUpTo names 0) k k
none_gone names None = tt
none_gone names (Some k) = record {
  thinned = record { others = λ name none. refl; sure = λ name. remove_wider (k name).sure };
  gone = λ i name below found. absurd (omega (arith, below));
}

-- What a crash leaves before the first removal.
pub fewer_at_start : (names : List FileName) (k : Option Content) (image : Files) → Image k image → Fewer names k image
fewer_at_start names None image left = tt
fewer_at_start names (Some k) image left = record { listed = λ name among. inr (left name); others = λ name none. left name }

-- One more file.
pub gone_more : (names : List FileName) (n : ℕ) (taken : FileName) (k m o : Option Content) → slice_get names n ≡ Some taken → BothTold (GoneUpTo names n) k m → BothTold (OneFile taken Removed) m o → BothTold (GoneUpTo names (n + 1)) k o
gone_more names n taken k m o is =
    told_then (GoneUpTo names n) (OneFile taken Removed) (GoneUpTo names (n + 1)) k m o
    (λ a b c old mid so_far removed. record {
      thinned = thinner names taken a b c (at_place_in names n taken is) so_far.thinned removed.here.crash removed.elsewhere;
      gone = λ i name below found.
          elim (same_or_other taken name) [
            | inl same ↦ subst (λ (f : FileName). (c f).seen ≡ None) (sym same) removed.here.seen
            | inr apart ↦ elim (cases_lt i n) [
              | inl earlier ↦ ap (λ (kept : Kept). kept.seen) (removed.elsewhere name apart) ∙ so_far.gone i name earlier found
              | inr last ↦ (let here : i ≡ n = omega (arith, below, last) in absurd (apart (same_Some name taken (sym found ∙ (ap (slice_get names) here ∙ is)))))
            ]
          ];
    })

-- A removal that failed.
pub torn_more : (names : List FileName) (n : ℕ) (taken : FileName) (k m o : Option Content) → slice_get names n ≡ Some taken → BothTold (GoneUpTo names n) k m → BothTold (OneFile taken TornRemoval) m o → BothTold (Thinned names) k o
torn_more names n taken k m o is =
    told_then (GoneUpTo names n) (OneFile taken TornRemoval) (Thinned names) k m o (λ a b c old mid so_far torn. thinner names taken a b c (at_place_in names n taken is) so_far.thinned torn.here.crash torn.elsewhere)

-- What a crash then leaves.
pub fewer : (names : List FileName) (k m : Option Content) (image : Files) → BothTold (Thinned names) k m → Image m image → Fewer names k image
fewer names None m image thin left = tt
fewer names (Some k) None image thin left = absurd thin
fewer names (Some k) (Some m) image thin left = record {
  listed = λ name among. one_fewer (k name).sure (image name) (MaySurvive-Within (m name).sure (remove_sure (k name).sure) (image name) (thin.sure name) (left name));
  others = λ name none. subst (λ (kept : Kept). MaySurvive kept.sure (image name)) (thin.others name none) (left name);
}

pub fewer_gone : (names : List FileName) (n : ℕ) (k m : Option Content) (image : Files) → BothTold (GoneUpTo names n) k m → Image m image → Fewer names k image
fewer_gone names n k m image so_far = fewer names k m image (told_weaker (GoneUpTo names n) (Thinned names) k m (λ a b old new gone. gone.thinned) so_far)

-- The state after the last removal.
pub gone_all : (names : List FileName) (k m : Option Content) → BothTold (GoneUpTo names (length names)) k m → BothTold (AreRemoved names) k m
gone_all names k m =
    told_weaker (GoneUpTo names (length names)) (AreRemoved names) k m
    (λ a b old new so_far. record {
      listed = λ name among. record {
        seen = so_far.gone among.0 name among.1 (slice_get-get_or names among.0 name among.1 ∙ ap (λ (f : FileName). Some f) among.2);
        crash = so_far.thinned.sure name;
      };
      others = so_far.thinned.others;
    })
