-- Files determine the entries of epochs that are whole, and files that are opened have no damage.
use Rattle.std.specs.Prelude.{◌≡◌, ◌+◌, ◌<◌, ◌≤◌, ◌==◌, ◌^◌, ℕ, zero, suc, List, [], ◌∷◌, ◌++◌, length, take, drop, map, Option, Some, None, refl}
use Rattle.std.specs.List.{AllByRecursion}
use Rattle.std.proofs.Common.{◌∙◌, sym, ap, subst, inl, inr, arith, append_assoc, length-append, length-drop}
use Rattle.std.proofs.Math.Seq.{take-append_seam, drop-append_seam}
use Rattle.std.proofs.lemmas.List.{append-nil, append_cancel_left, take-append-drop, length-map, map-append, take-map, drop-map}
use Rattle.std.proofs.lemmas.List.Elements.{filter-append}
use Rattle.std.proofs.lemmas.Bool.{cases_lt}
use Rattle.arch_base.specs.declared.ids.ObjectId.{ObjectId}
use Rattle.arch_base.specs.declared.ids.Form.{Form}
use Rattle.disk_model.specs.Disk.{Files, bytes_of}
use Rattle.arch_model.specs.Archives.{Entry, in_epoch, messages as delivered}
use Rattle.mail_commits.specs.Entries.{magic}
use Rattle.arch_model.specs.Epochs.{epoch_bytes, entries_bytes, last_commit}
use Rattle.number_map.specs.declared.line.Record.{Record}
use Rattle.epoch_file.specs.Entries.{EntriesDiffer, EpochEntry, AreEpochEntries, bytes_after, commit_after, chain, last_of, EpochsDiffer}
use Rattle.root_slots.specs.declared.root.Root.{Root}
use Rattle.root_slots.specs.Valid.{RootFits}
use Rattle.root_change.specs.Texts.{Fronts}
use Rattle.store_finding.specs.Files.{epoch_file_of}
use Rattle.arch_model.specs.Validity.{IsEntry, Rise, number_after}
use Rattle.store_finding.specs.Kept.{in_file}
use Rattle.store_finding.specs.Damage.{record_of, AreFirst, AreOpened, named_length, named_bytes, AreWhole, LacksFront, LacksNext, LacksLast}
use Rattle.store_finding.specs.Openings.{OpenedUndamaged}
use Rattle.arch_model.proofs.ValidArchives.{all_weaker}
use Rattle.store_finding.proofs.Magics.{magic_length, take_magic, drop_magic}
use Rattle.store_finding.proofs.UniqueRoots.{front_is_one}
use Rattle.store_finding.proofs.UniqueEntries.{unnumbered, same_first}
use Rattle.store_finding.proofs.Firsts.{all_back, all_front, first_front}
use Rattle.store_finding.proofs.Joins.{only_here}
use Rattle.store_finding.proofs.Opening.{chain_of, last_is, entry_some, file_valid, none_apart}

-- Epochs never fall, so entries are those before an epoch and then the others.
rise_over : (number low : ℕ) (es : List Entry) → Rise number low es → AllByRecursion (λ (e : Entry). low ≤ e.epoch) es
rise_over number low [] rise = tt
rise_over number low (e ∷ es) rise =
    (rise.1, all_weaker (λ (f : Entry). e.epoch ≤ f.epoch) (λ (f : Entry). low ≤ f.epoch) es (λ f more. (let least = rise.1 in omega (arith, least, more))) (rise_over (number_after e.kind number e.number) e.epoch es rise.2))

record Split (es : List Entry) (epoch : ℕ) : Type 0 where
  front : List Entry
  back : List Entry
  is : es ≡ front ++ back
  under : AllByRecursion (λ (e : Entry). e.epoch < epoch) front
  over : AllByRecursion (λ (e : Entry). epoch ≤ e.epoch) back

split : (number low : ℕ) (es : List Entry) (epoch : ℕ) → Rise number low es → Split es epoch
split number low [] epoch rise = record { front = []; back = []; is = refl; under = tt; over = tt }
split number low (e ∷ es) epoch rise = elim (cases_lt e.epoch epoch) [
  | inl less ↦
      (let rest = split (number_after e.kind number e.number) e.epoch es epoch rise.2 in
      record { front = e ∷ rest.front; back = rest.back; is = ap (λ (l : List Entry). e ∷ l) rest.is; under = (less, rest.under); over = rest.over })
  | inr most ↦ record { front = []; back = e ∷ es; is = refl; under = tt; over = rise_over number epoch (e ∷ es) (rise.0, most, rise.2) }
]

-- The entries of a map before an epoch, whose files are whole, and the others.
record UpTo (root : Root) (files : Files) (rs after : List Record) (es : List Entry) (epoch : ℕ) : Type 0 where
  front : List Entry
  back : List Entry
  is : es ≡ front ++ back
  over : AllByRecursion (λ (e : Entry). epoch ≤ e.epoch) back
  first : AreFirst root.config.form rs (map (record_of root.config.form) (delivered back) ++ after) front
  whole : AreWhole root files epoch front

up_to : (root : Root) (files : Files) (rs after : List Record) (es : List Entry) (top epoch : ℕ) → AreFirst root.config.form rs after es → AreWhole root files top es → epoch ≤ top → UpTo root files rs after es epoch
up_to root files rs after es top epoch first whole low =
    let parts = split 1 0 es epoch first.order in
    let same : (e : ℕ) → e < epoch → in_epoch es e ≡ in_epoch parts.front e = (λ e less. ap (λ (l : List Entry). in_epoch l e) parts.is
    ∙ (filter-append (λ (f : Entry). f.epoch == e) parts.front parts.back
    ∙ (ap (λ (l : List Entry). in_epoch parts.front e ++ l) (none_apart parts.back e (all_weaker (λ (f : Entry). epoch ≤ f.epoch) _ parts.back (λ f more is. absurd (omega (arith, more, is, less))) parts.over))
    ∙ append-nil (in_epoch parts.front e)))) in
    record {
      front = parts.front;
      back = parts.back;
      is = parts.is;
      over = parts.over;
      first = first_front root.config.form rs after parts.front parts.back (subst (AreFirst root.config.form rs after) parts.is first);
      whole = record {
        below = parts.under;
        lengths = λ e less. whole.lengths e (omega (arith, less, low)) ∙ ap (λ (l : List Entry). length (epoch_bytes root.config.form l)) (same e less);
        fronts = λ e less. subst (λ (l : List Entry). Fronts (epoch_bytes root.config.form l) (files (epoch_file_of root e))) (same e less) (whole.fronts e (omega (arith, less, low)));
      };
    }

-- The entries of the last epoch.
record Last (root : Root) (files : Files) (rs after : List Record) (es : List Entry) (epoch : ℕ) : Type 0 where
  upto : UpTo root files rs after es epoch
  stand : AllByRecursion (λ (e : Entry). e.epoch ≡ epoch) upto.back
  valid : AllByRecursion IsEntry upto.back
  long : named_length root epoch ≡ length (epoch_bytes root.config.form upto.back)
  front : Fronts (epoch_bytes root.config.form upto.back) (files (epoch_file_of root epoch))

last_epoch : (root : Root) (files : Files) (rs after : List Record) (es : List Entry) (epoch : ℕ) → AreFirst root.config.form rs after es → AreWhole root files (suc epoch) es → Last root files rs after es epoch
last_epoch root files rs after es epoch first whole =
    let part = up_to root files rs after es (suc epoch) epoch first whole (omega arith) in
    let stand = both part.back (all_back (λ (e : Entry). e.epoch < suc epoch) part.front part.back (subst (AllByRecursion (λ (e : Entry). e.epoch < suc epoch)) part.is whole.below)) part.over in
    let here : in_epoch es epoch ≡ part.back = ap (λ (l : List Entry). in_epoch l epoch) part.is ∙ only_here part.front part.back epoch part.whole.below stand in
    record {
      upto = part;
      stand = stand;
      valid = all_back IsEntry part.front part.back (subst (AllByRecursion IsEntry) part.is first.valid);
      long = whole.lengths epoch (omega arith) ∙ ap (λ (l : List Entry). length (epoch_bytes root.config.form l)) here;
      front = subst (λ (l : List Entry). Fronts (epoch_bytes root.config.form l) (files (epoch_file_of root epoch))) here (whole.fronts epoch (omega arith));
    } where
      both : (xs : List Entry) → AllByRecursion (λ (e : Entry). e.epoch < suc epoch) xs → AllByRecursion (λ (e : Entry). epoch ≤ e.epoch) xs → AllByRecursion (λ (e : Entry). e.epoch ≡ epoch) xs
      both [] under over = tt
      both (x ∷ xs) under over = (let low = under.0 in let high = over.0 in omega (arith, low, high), both xs under.1 over.1)

-- The bytes of an epoch after the magic are a chain.
tail_of : (form : Form) (es : List Entry) → chain form None (map in_file es) ≡ drop 8 (epoch_bytes form es)
tail_of form [] = refl
tail_of form (e ∷ es) = sym (chain_of form None (e ∷ es)) ∙ sym (drop_magic form (entries_bytes form None (e ∷ es)))

files_valid : (es : List Entry) → AllByRecursion IsEntry es → AreEpochEntries (map in_file es)
files_valid [] all = tt
files_valid (e ∷ es) all = (file_valid e all.0, files_valid es all.1)

-- An entry of an epoch but for its number, by what is in the file.
abbrev from_file : ℕ → EpochEntry → Entry
from_file epoch f = record { kind = f.kind; number = 0; epoch = epoch; text = f.text; moment = f.moment }

from_files : (epoch : ℕ) (es : List Entry) → AllByRecursion (λ (e : Entry). e.epoch ≡ epoch) es → map unnumbered es ≡ map (from_file epoch) (map in_file es)
from_files epoch [] all = refl
from_files epoch (e ∷ es) all = let rest = from_files epoch es all.1 in λ i. record { kind = e.kind; number = 0; epoch = all.0 i; text = e.text; moment = e.moment } ∷ rest i

same_places : (epoch : ℕ) (xs ys : List Entry) → AllByRecursion (λ (e : Entry). e.epoch ≡ epoch) xs → AllByRecursion (λ (e : Entry). e.epoch ≡ epoch) ys → map in_file xs ≡ map in_file ys → map unnumbered xs ≡ map unnumbered ys
same_places epoch xs ys one two same = from_files epoch xs one ∙ (ap (map (from_file epoch)) same ∙ sym (from_files epoch ys two))

module _ (root : Root) (files : Files) (rs : List Record) (fits : RootFits root) where
  -- The bytes of epochs that are whole determine all of their entries but for the numbers.
  same_whole : EpochsDiffer → (epoch : ℕ) (p q : List Record) (xs ys : List Entry) → epoch ≤ 64 → AreFirst root.config.form rs p xs → AreFirst root.config.form rs q ys → AreWhole root files epoch xs → AreWhole root files epoch ys → map unnumbered xs ≡ map unnumbered ys
  same_whole differ zero p q xs ys few first also whole part = ap (map unnumbered) (none_below xs whole.below ∙ sym (none_below ys part.below)) where
    none_below : (es : List Entry) → AllByRecursion (λ (e : Entry). e.epoch < 0) es → es ≡ []
    none_below [] below = refl
    none_below (e ∷ es) below = absurd (let low = below.0 in omega (arith, low))
  same_whole differ (suc epoch) p q xs ys few first also whole part =
      let one = last_epoch root files rs p xs epoch first whole in
      let two = last_epoch root files rs q ys epoch also part in
      let fronts = same_whole differ epoch _ _ one.upto.front two.upto.front (omega (arith, few)) one.upto.first two.upto.first one.upto.whole two.upto.whole in
      let bytes = front_is_one (files (epoch_file_of root epoch)) (epoch_bytes root.config.form one.upto.back) (epoch_bytes root.config.form two.upto.back) (sym one.long ∙ two.long) one.front two.front in
      let short = (fits.epochs epoch (omega (arith, few))).length in
      let long = one.long in
      let size : length (chain root.config.form None (map in_file one.upto.back)) ≡ length (drop 8 (epoch_bytes root.config.form one.upto.back)) = ap length (tail_of root.config.form one.upto.back) in
      let same : map in_file one.upto.back ≡ map in_file two.upto.back =
      differ root.config.form (map in_file one.upto.back) (map in_file two.upto.back) (files_valid one.upto.back one.valid) (files_valid two.upto.back two.valid)
      (omega (arith, short, long, size, magic_length root.config.form, length-append (magic root.config.form) (chain root.config.form None (map in_file one.upto.back)), length-drop 8 (epoch_bytes root.config.form one.upto.back)))
      (ap (λ (b : List ℕ). magic root.config.form ++ b) (tail_of root.config.form one.upto.back ∙ (ap (drop 8) bytes ∙ sym (tail_of root.config.form two.upto.back)))) in
      ap (map unnumbered) one.upto.is ∙ (map-append unnumbered one.upto.front one.upto.back
      ∙ ((λ i. fronts i ++ same_places epoch one.upto.back two.upto.back one.stand two.stand same i)
      ∙ sym (ap (map unnumbered) two.upto.is ∙ map-append unnumbered two.upto.front two.upto.back)))

  -- So the records of the map determine the entries.
  pub whole_one : EpochsDiffer → (p q : List Record) (epoch : ℕ) (xs ys : List Entry) → epoch ≤ 64 → AreFirst root.config.form rs p xs → AreFirst root.config.form rs q ys → AreWhole root files epoch xs → AreWhole root files epoch ys → xs ≡ ys
  whole_one differ p q epoch xs ys few first also whole part = same_first root.config.form rs p q xs ys first also (same_whole differ epoch p q xs ys few first also whole part)

  -- No message is missing.
  none_missing : EpochsDiffer → (entries : List Entry) (epoch offset : ℕ) → AreOpened root files rs entries → LacksLast root files rs epoch offset → ⊥
  none_missing differ entries epoch offset opened lost =
      let same = whole_one differ [] (lost.next ∷ lost.after) 64 entries lost.before (omega arith) opened.first lost.first opened.whole lost.whole in
      let wrong : [] ≡ lost.next ∷ lost.after =
      append_cancel_left (map (record_of root.config.form) (delivered lost.before)) [] (lost.next ∷ lost.after) (ap (λ (l : List Entry). map (record_of root.config.form) (delivered l) ++ []) (sym same) ∙ (sym opened.first.records ∙ lost.first.records)) in
      cc

-- The bytes that the root names of an epoch that is whole.
named_whole : (root : Root) (files : Files) (epoch : ℕ) (bytes : List ℕ) → named_length root epoch ≡ length bytes → Fronts bytes (files (epoch_file_of root epoch)) → named_bytes root files epoch ≡ bytes
named_whole root files epoch bytes long front = ap (λ (n : ℕ). take n (bytes_of (files (epoch_file_of root epoch)))) long ∙ front.front

-- No epoch lacks its magic.
no_front_lost : (root : Root) (files : Files) (rs : List Record) (entries : List Entry) (epoch offset : ℕ) → AreWhole root files 64 entries → epoch < 64 → LacksFront root files rs epoch offset → ⊥
no_front_lost root files rs entries epoch offset whole less lost = by (in_epoch entries epoch) (named_whole root files epoch _ (whole.lengths epoch less) (whole.fronts epoch less)) (whole.lengths epoch less) where
  by : (here : List Entry) → named_bytes root files epoch ≡ epoch_bytes root.config.form here → named_length root epoch ≡ length (epoch_bytes root.config.form here) → ⊥
  by [] is long = let some = lost.some in absurd (omega (arith, some, long))
  by (e ∷ es) is long = lost.lacks (ap (take 8) is ∙ take_magic root.config.form (entries_bytes root.config.form None (e ∷ es)))

-- Entries whose bytes start others' bytes are the first of them.
pub record Prefix (form : Form) (parent : Option ObjectId) (xs ys : List EpochEntry) (rest : List ℕ) : Type 0 where
  pub more : List EpochEntry
  pub is : ys ≡ xs ++ more
  pub rest_is : rest ≡ chain form (last_of form parent xs) more

no_front : (b c r : List ℕ) → [] ≡ (b ++ c) ++ r → b ≡ []
no_front [] c r is = refl
no_front (z ∷ zs) c r is = absurd (cc)

pub prefix_of : (form : Form) → EntriesDiffer → (parent : Option ObjectId) (xs ys : List EpochEntry) (rest : List ℕ) → AreEpochEntries xs → AreEpochEntries ys → length (chain form parent ys) < 2 ^ 64 → chain form parent ys ≡ chain form parent xs ++ rest → Prefix form parent xs ys rest
prefix_of form differ parent [] ys rest valid also short is = record { more = ys; is = refl; rest_is = sym is }
prefix_of form differ parent (x ∷ xs) [] rest valid also short is = absurd (entry_some form parent x (no_front (bytes_after form parent x) (chain form (Some (commit_after form parent x)) xs) rest is))
prefix_of form differ parent (x ∷ xs) (y ∷ ys) rest valid also short is =
    let next : Option ObjectId = Some (commit_after form parent x) in
    let tail = chain form (Some (commit_after form parent y)) ys in
    let one = differ form parent y x tail (chain form next xs ++ rest) also.0 valid.0 short (is ∙ append_assoc (bytes_after form parent x) (chain form next xs) rest) in
    let same : chain form next ys ≡ chain form next xs ++ rest = ap (λ (e : EpochEntry). chain form (Some (commit_after form parent e)) ys) (sym one.0) ∙ one.1 in
    let size : length (chain form next ys) ≡ length tail = ap (λ (e : EpochEntry). length (chain form (Some (commit_after form parent e)) ys)) (sym one.0) in
    let later = prefix_of form differ next xs ys rest valid.1 also.1 (omega (arith, short, size, length-append (bytes_after form parent y) tail)) same in
    let first = one.0 in
    record { more = later.more; is = (λ i. first i ∷ later.is i); rest_is = later.rest_is }

-- No entry is missing.
none_lost : EntriesDiffer → EpochsDiffer → (root : Root) (files : Files) (rs : List Record) (entries : List Entry) (epoch offset : ℕ) → RootFits root → AreOpened root files rs entries → epoch < 64 → LacksNext root files rs epoch offset → ⊥
none_lost entry epochs root files rs entries epoch offset fits opened less lost =
    let all = up_to root files rs [] entries 64 (suc epoch) opened.first opened.whole (omega (arith, less)) in
    let last = last_epoch root files rs _ all.front epoch all.first all.whole in
    let here = last.upto.back in
    let count = length lost.here in
    let named : named_bytes root files epoch ≡ epoch_bytes root.config.form here = named_whole root files epoch (epoch_bytes root.config.form here) last.long last.front in
    let begins : chain root.config.form None (map in_file here) ≡ chain root.config.form None (map in_file lost.here) ++ lost.rest =
    tail_of root.config.form here ∙ (ap (drop 8) (sym named ∙ (lost.spelled ∙ append_assoc (magic root.config.form) (entries_bytes root.config.form None lost.here) lost.rest))
    ∙ (drop_magic root.config.form (entries_bytes root.config.form None lost.here ++ lost.rest) ∙ ap (λ (b : List ℕ). b ++ lost.rest) (chain_of root.config.form None lost.here))) in
    let size : length (chain root.config.form None (map in_file here)) ≡ length (drop 8 (epoch_bytes root.config.form here)) = ap length (tail_of root.config.form here) in
    let long = last.long in
    let short = (fits.epochs epoch less).length in
    let prefix = prefix_of root.config.form entry None (map in_file lost.here) (map in_file here) lost.rest (files_valid lost.here (all_back IsEntry lost.before lost.here lost.first.valid)) (files_valid here last.valid)
    (omega (arith, short, long, size, length-drop 8 (epoch_bytes root.config.form here))) begins in
    let counted = length-map lost.here in_file in
    let start : map in_file (take count here) ≡ map in_file lost.here = sym (take-map in_file count here) ∙ (ap (take count) prefix.is ∙ (ap (λ (n : ℕ). take n (map in_file lost.here ++ prefix.more)) (sym counted) ∙ take-append_seam (map in_file lost.here) prefix.more)) in
    let left : map in_file (drop count here) ≡ prefix.more = sym (drop-map in_file count here) ∙ (ap (drop count) prefix.is ∙ (ap (λ (n : ℕ). drop n (map in_file lost.here ++ prefix.more)) (sym counted) ∙ drop-append_seam (map in_file lost.here) prefix.more)) in
    let xs = last.upto.front ++ take count here in
    let whole : entries ≡ xs ++ (drop count here ++ all.back) =
    all.is ∙ (ap (λ (l : List Entry). l ++ all.back) (last.upto.is ∙ (ap (λ (l : List Entry). last.upto.front ++ l) (sym (take-append-drop count here)) ∙ sym (append_assoc last.upto.front (take count here) (drop count here)))) ∙ append_assoc xs (drop count here) all.back) in
    let before : last.upto.front ≡ lost.before = whole_one root files rs fits epochs _ _ epoch last.upto.front lost.before (omega (arith, less)) last.upto.first (first_front root.config.form rs lost.after lost.before lost.here lost.first) last.upto.whole lost.whole in
    let InEpoch : List Entry → Type 0 = AllByRecursion (λ (e : Entry). e.epoch ≡ epoch) in
    let stand : InEpoch (take count here ++ drop count here) = subst InEpoch (sym (take-append-drop count here)) last.stand in
    let places = same_places epoch (take count here) lost.here (all_front (λ (e : Entry). e.epoch ≡ epoch) (take count here) (drop count here) stand) lost.stand start in
    let same : xs ≡ lost.before ++ lost.here = same_first root.config.form rs _ lost.after xs (lost.before ++ lost.here) (first_front root.config.form rs [] xs (drop count here ++ all.back) (subst (AreFirst root.config.form rs []) whole opened.first)) lost.first
    (map-append unnumbered last.upto.front (take count here) ∙ ((λ i. map unnumbered (before i) ++ places i) ∙ sym (map-append unnumbered lost.before lost.here))) in
    let total : length (epoch_bytes root.config.form here) ≡ length ((magic root.config.form ++ entries_bytes root.config.form None lost.here) ++ lost.rest) = ap length (sym named ∙ lost.spelled) in
    by here all.back (drop count here) refl (all_back (λ (e : Entry). e.epoch ≡ epoch) (take count here) (drop count here) stand) (prefix.rest_is ∙ (λ i. chain root.config.form (sym (last_is root.config.form None lost.here) i) (sym left i)))
    (omega (arith, long, total, magic_length root.config.form, length-append (magic root.config.form ++ entries_bytes root.config.form None lost.here) lost.rest, length-append (magic root.config.form) (entries_bytes root.config.form None lost.here)))
    long (whole ∙ (λ i. same i ++ (drop count here ++ all.back)))
  where
    by : (here back more : List Entry) → drop (length lost.here) here ≡ more → AllByRecursion (λ (e : Entry). e.epoch ≡ epoch) more → lost.rest ≡ chain root.config.form (last_commit root.config.form None lost.here) (map in_file more)
        → named_length root epoch ≡ 8 + length (entries_bytes root.config.form None lost.here) + length lost.rest → named_length root epoch ≡ length (epoch_bytes root.config.form here) → entries ≡ (lost.before ++ lost.here) ++ (more ++ back) → ⊥
    by here back [] none stand rest total long is =
        let size : length lost.rest ≡ 0 = ap length rest in
        let at = lost.offset_is in
        elim lost.wanted [
          | inl empty ↦ (let nothing : 0 ≡ length (epoch_bytes root.config.form here) = ap (λ (l : List Entry). length (epoch_bytes root.config.form l)) (sym none ∙ ap (λ (l : List Entry). drop (length l) here) empty) in absurd (omega (arith, nothing, long, total)))
          | inr goes_on ↦ absurd (omega (arith, total, size, at, goes_on))
        ]
    by here back (c ∷ cs) none stand rest total long is =
        lost.lacks c (map (record_of root.config.form) (delivered (cs ++ back)) ++ []) (chain root.config.form (Some (commit_after root.config.form (last_commit root.config.form None lost.here) (in_file c))) (map in_file cs)) stand.0
        (first_front root.config.form rs [] ((lost.before ++ lost.here) ++ c ∷ []) (cs ++ back) (subst (AreFirst root.config.form rs []) (is ∙ sym (append_assoc (lost.before ++ lost.here) (c ∷ []) (cs ++ back))) opened.first)) rest

-- Files that are opened have no damage.
pub opened_undamaged : EntriesDiffer → EpochsDiffer → OpenedUndamaged
opened_undamaged entry epochs root files rs entries epoch offset has opened (inl front) = no_front_lost root files rs entries epoch offset opened.whole front.0 front.1
opened_undamaged entry epochs root files rs entries epoch offset has opened (inr (inl next)) = none_lost entry epochs root files rs entries epoch offset has.fits opened next.0 next.1
opened_undamaged entry epochs root files rs entries epoch offset has opened (inr (inr last)) = none_missing root files rs has.fits epochs entries epoch offset opened last
