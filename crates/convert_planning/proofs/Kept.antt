-- The entries of a store, one after the other, in another form.
use Rattle.std.specs.Prelude.{◌≡◌, ◌+◌, ◌≤◌, ℕ, zero, suc, List, [], ◌∷◌, ◌++◌, length, take, drop, slice_get, Option, Some, None, Err, refl}
use Rattle.std.specs.List.{AllByRecursion}
use Rattle.std.proofs.Common.{◌∙◌, sym, ap, subst, arith, append_assoc}
use Rattle.std.proofs.lemmas.List.{append-nil, take_all}
use Rattle.std.proofs.lemmas.Option.{same_Some, slice_get_within}
use Rattle.arch_base.specs.Ids.{form_of}
use Rattle.arch_base.specs.declared.ids.Form.{Form}
use Rattle.arch_base.proofs.SameIds.{form_with}
use Rattle.disk_model.specs.declared.name.FileName.{FileName}
use Rattle.disk_model.specs.Disk.{Content, BothTold, Unchanged, WhereTold, bytes_of}
use Rattle.root_slots.specs.declared.root.Root.{Root}
use Rattle.root_change.specs.Parts.{texts_of}
use Rattle.root_change.specs.Rewriting.{IsPlan}
use Rattle.git_objects.specs.Objects.{blob_id_of, blob_spelling, digest_of}
use Rattle.arch_model.specs.Archives.{Archive, Entry}
use Rattle.epoch_file.specs.Lying.{tree_end}
use Rattle.epoch_file.specs.Planning.{texts_in}
use Rattle.epoch_file.specs.declared.refusal.StoreRefusal.{StoreRefusal}
use Rattle.epoch_file.specs.declared.refusal.StoreRefusal.TheVariants.{DiskFault, NoMemory, Damaged}
use Rattle.store_finding.specs.declared.entries.StoredEntry.{StoredEntry}
use Rattle.store_finding.specs.Damage.{named_length}
use Rattle.store_finding.specs.Extents.{AreNamed, LieFrom}
use Rattle.store_finding.specs.Files.{epoch_file_of}
use Rattle.store_finding.specs.Kept.{IsDiskWith, stored_after, stored_at}
use Rattle.store_finding.specs.Reading.{HasText, StandsAt}
use Rattle.store_finding.specs.Recovery.{parts_of}
use Rattle.store_planning.specs.DamagedTexts.{DamageBy, IsDamagedEntry}
use Rattle.store_planning.specs.Dropping.{SeesNoDamage}
use Rattle.store_planning.specs.Planning.{PlansUndamaged}
use Rattle.convert_planning.specs.Converting.{Conversion, kept_store}
use Rattle.convert_planning.specs.ConvertSteps.{ConvertsAll, ConvertsFirst, HasTaken, IsTextLack, StartsPlans, TakenUpTo, TakesStored, TakesText}
use Rattle.convert_planning.proofs.Converted.{first_more, first_none, own_text}
use Rattle.convert_planning.proofs.Taking.{taken_more, taken_none}

-- The next entry of an archive, and what is kept of it.
pub record IsNth (form : Form) (before es : List Entry) (n : ℕ) (s : StoredEntry) : Type 0 where
  pub entry : Entry
  pub is : es ≡ take n es ++ entry ∷ drop (suc n) es
  pub more : take (suc n) es ≡ take n es ++ entry ∷ []
  pub kept : s ≡ stored_at form (before ++ take n es) entry

pub nth : (form : Form) (before es : List Entry) (n : ℕ) (s : StoredEntry) → slice_get (stored_after form before es) n ≡ Some s → IsNth form before es n s
nth form before [] n s here = absurd (let less = slice_get_within {A = StoredEntry} [] n s here in omega (arith, less))
nth form before (e ∷ es) zero s here = record {
  entry = e;
  is = refl;
  more = refl;
  kept = sym (same_Some (stored_at form before e) s here) ∙ ap (λ (b : List Entry). stored_at form b e) (sym (append-nil before));
}
nth form before (e ∷ es) (suc n) s here =
    let r = nth form (before ++ e ∷ []) es n s here in
    record {
      entry = r.entry;
      is = ap (λ (l : List Entry). e ∷ l) r.is;
      more = ap (λ (l : List Entry). e ∷ l) r.more;
      kept = r.kept ∙ ap (λ (b : List Entry). stored_at form b r.entry) (append_assoc before (e ∷ []) (take n es));
    }

length_stored : (form : Form) (before es : List Entry) → length (stored_after form before es) ≡ length es
length_stored form before [] = refl
length_stored form before (e ∷ es) = ap suc (length_stored form (before ++ e ∷ []) es)

-- Contents that agree at each name are one.
one_content : (k m : Content) → Unchanged k m → m ≡ k
one_content k m same = λ i. λ (name : FileName). same name i

-- What is planned of the entries before an index, whatever the disk holds.
pub record HasTakenTo (root : Root) (form : Form) (entries : List StoredEntry) (i : ℕ) (p : Conversion) : Type 0 where
  pub epoch : ℕ
  pub from : ℕ
  pub taken : TakenUpTo root form epoch (take i entries) p
  pub left : LieFrom epoch from (drop i entries)

pub to_none : (root : Root) (form : Form) (entries : List StoredEntry) (p : Conversion) → AreNamed root entries → StartsPlans p.plans → p.entries ≡ [] → p.form ≡ form → HasTakenTo root form entries 0 p
to_none root form entries p named starts none is = record { epoch = 0; from = 0; taken = taken_none root form p starts none is; left = named.lie }

-- An item of a list at an index.
all_at : (P : StoredEntry → Type 0) (es : List StoredEntry) (i : ℕ) (s : StoredEntry) → AllByRecursion P es → slice_get es i ≡ Some s → P s
all_at P [] i s all here = absurd (let less = slice_get_within {A = StoredEntry} [] i s here in omega (arith, less))
all_at P (e ∷ es) zero s all here = subst P (same_Some e s here) all.0
all_at P (e ∷ es) (suc i) s all here = all_at P es i s all.1 here

front_at : (es : List StoredEntry) (i : ℕ) (s : StoredEntry) → slice_get es i ≡ Some s → take (suc i) es ≡ take i es ++ s ∷ []
front_at [] i s here = absurd (let less = slice_get_within {A = StoredEntry} [] i s here in omega (arith, less))
front_at (e ∷ es) zero s here = ap (λ (x : StoredEntry). x ∷ []) (same_Some e s here)
front_at (e ∷ es) (suc i) s here = ap (λ (l : List StoredEntry). e ∷ l) (front_at es i s here)

rest_at : (es : List StoredEntry) (i : ℕ) (s : StoredEntry) → slice_get es i ≡ Some s → drop i es ≡ s ∷ drop (suc i) es
rest_at [] i s here = absurd (let less = slice_get_within {A = StoredEntry} [] i s here in omega (arith, less))
rest_at (e ∷ es) zero s here = ap (λ (x : StoredEntry). x ∷ es) (same_Some e s here)
rest_at (e ∷ es) (suc i) s here = rest_at es i s here

module _ (root : Root) (form : Form) (entries : List StoredEntry) (i : ℕ) (s : StoredEntry) (here : slice_get entries i ≡ Some s) (named : AreNamed root entries) (file : FileName) (file_is : file ≡ epoch_file_of root s.epoch) (p new : Conversion) (up : HasTakenTo root form entries i p) where
  pub to_more : (content : Option Content) → TakesStored p file s content new → HasTakenTo root form entries (i + 1) new
  to_more content takes =
      let count : suc i ≡ i + 1 = omega arith in
      let lies : LieFrom up.epoch up.from (s ∷ drop (suc i) entries) = subst (LieFrom up.epoch up.from) (rest_at entries i s here) up.left in
      let ends : tree_end s.seen ≤ named_length root s.epoch = all_at (λ (e : StoredEntry). tree_end e.seen ≤ named_length root e.epoch) entries i s named.ends here in
      record {
        epoch = s.epoch;
        from = tree_end s.seen;
        taken = subst (λ (l : List StoredEntry). TakenUpTo root form s.epoch l new) (sym (front_at entries i s here) ∙ ap (λ (n : ℕ). take n entries) count) (taken_more root form up.epoch (take i entries) s takes.text file p new up.taken takes.takes file_is lies.0.0 ends);
        left = subst (λ (n : ℕ). LieFrom s.epoch (tree_end s.seen) (drop n entries)) count lies.2;
      }

pub to_end : (root : Root) (form : Form) (entries : List StoredEntry) (i : ℕ) (p : Conversion) → length entries ≤ i → HasTakenTo root form entries i p → HasTaken root form entries p
to_end root form entries i p most up = (up.epoch, subst (λ (l : List StoredEntry). TakenUpTo root form up.epoch l p) (take_all i entries most) up.taken)

-- The same on the disk of a store that keeps them.
abbrev pub ConvertsFront : Root → Form → List StoredEntry → ℕ → Conversion → Content → Type 0
ConvertsFront root form entries n p k = (slot : ℕ) (a : Archive) (cache : List ℕ) → IsDiskWith (kept_store root slot entries) cache a k → ConvertsFirst (texts_of root (parts_of a cache)) form (take n a.entries) p

pub converts_none : (root : Root) (form : Form) (entries : List StoredEntry) (p : Conversion) (content : Option Content) → StartsPlans p.plans → p.entries ≡ [] → WhereTold (ConvertsFront root form entries 0 p) content
converts_none root form entries p None starts none = tt
converts_none root form entries p (Some k) starts none = λ slot a cache own. first_none (texts_of root (parts_of a cache)) form p starts none

module _ (root : Root) (entries : List StoredEntry) (i : ℕ) (s : StoredEntry) (here : slice_get entries i ≡ Some s) (file : FileName) (file_is : file ≡ epoch_file_of root s.epoch) where
  -- The entry of the archive.
  its : (slot : ℕ) (a : Archive) (cache : List ℕ) (k : Content) → IsDiskWith (kept_store root slot entries) cache a k → IsNth a.config.form [] a.entries i s
  its slot a cache k own = nth a.config.form [] a.entries i s (ap (λ (l : List StoredEntry). slice_get l i) (sym own.keeps.kept) ∙ here)

  -- Its text is read.
  text_is : (slot : ℕ) (a : Archive) (cache : List ℕ) (k : Content) (own : IsDiskWith (kept_store root slot entries) cache a k) (text : List ℕ) → StandsAt (bytes_of (k file).seen) s.seen.text_at s.seen.size text → text ≡ (its slot a cache k own).entry.text
  text_is slot a cache k own text stands =
      let at = its slot a cache k own in
      let name_is : file ≡ epoch_file_of root at.entry.epoch = file_is ∙ ap (λ (q : StoredEntry). epoch_file_of root q.epoch) at.kept in
      own_text k (kept_store root slot entries) cache a own (take i a.entries) (drop (suc i) a.entries) at.entry at.is s at.kept text
      (subst (λ (f : FileName). StandsAt (texts_in k f) s.seen.text_at s.seen.size text) name_is stands)

  abbrev TakesWell : Conversion → Conversion → FileName → StoredEntry → List ℕ → Type 0
  TakesWell p new f q text = (one : TakesText p f q text new) × IsPlan one.plan

  one_more : (form : Form) (p new : Conversion) (k : Content) (slot : ℕ) (a : Archive) (cache : List ℕ) (own : IsDiskWith (kept_store root slot entries) cache a k) (text : List ℕ) → text ≡ (its slot a cache k own).entry.text → TakesWell p new file s text → p.form ≡ form
      → ConvertsFirst (texts_of root (parts_of a cache)) form (take i a.entries) p → ConvertsFirst (texts_of root (parts_of a cache)) form (take (i + 1) a.entries) new
  one_more form p new k slot a cache own text text_so well form_so first =
      let at = its slot a cache k own in
      let t = texts_of root (parts_of a cache) in
      let e = at.entry in
      let name = epoch_file_of root e.epoch in
      let name_is : file ≡ name = file_is ∙ ap (λ (q : StoredEntry). epoch_file_of root q.epoch) at.kept in
      let stored = stored_at a.config.form (take i a.entries) e in
      let its_well : TakesWell p new name stored e.text =
      subst (λ (f : FileName). TakesWell p new f stored e.text) name_is (subst (λ (q : StoredEntry). TakesWell p new file q e.text) at.kept (subst (TakesWell p new file s) text_so well)) in
      let own_first : ConvertsFirst t p.form (take i a.entries) p = subst (λ (f : Form). ConvertsFirst t f (take i a.entries) p) (sym form_so) first in
      let next = first_more k (kept_store root slot entries) cache a own (take i a.entries) (drop (suc i) a.entries) e at.is p new own_first its_well.0 its_well.1 in
      let count : suc i ≡ i + 1 = omega arith in
      subst (λ (f : Form). ConvertsFirst t f (take (i + 1) a.entries) new) form_so
      (subst (λ (es : List Entry). ConvertsFirst t p.form es new) (sym at.more ∙ ap (λ (n : ℕ). take n a.entries) count) next)

  pub converts_more : (form : Form) (p new : Conversion) (content mid : Option Content) → BothTold Unchanged content mid → p.form ≡ form → (takes : TakesStored p file s mid new) → IsPlan takes.takes.plan → WhereTold (ConvertsFront root form entries i p) content → WhereTold (ConvertsFront root form entries (i + 1) new) content
  converts_more form p new None mid same form_so takes valid up = tt
  converts_more form p new (Some k) None same form_so takes valid up = absurd same
  converts_more form p new (Some k) (Some m) same form_so takes valid up = λ slot a cache own.
      let stands = subst (λ (c : Content). StandsAt (bytes_of (c file).seen) s.seen.text_at s.seen.size takes.text) (one_content k m same) takes.stands in
      one_more form p new k slot a cache own takes.text (text_is slot a cache k own takes.text stands) (takes.takes, valid) form_so (up slot a cache own)

  -- Nothing is damaged there.
  none_lacks : (slot : ℕ) (a : Archive) (cache : List ℕ) (k : Content) (own : IsDiskWith (kept_store root slot entries) cache a k) (f : FileName) (at : ℕ) → IsTextLack file s (Some k) f at → ⊥
  none_lacks slot a cache k own f at lack =
      let nth_so = its slot a cache k own in
      let text = lack.text in
      let text_so : text ≡ nth_so.entry.text = text_is slot a cache k own text lack.stands in
      let blob_so : s.seen.blob ≡ blob_id_of a.config.form nth_so.entry.text = ap (λ (q : StoredEntry). q.seen.blob) nth_so.kept in
      let form_so : form_of s.seen.blob ≡ a.config.form = ap form_of blob_so ∙ form_with a.config.form (digest_of a.config.form (blob_spelling nth_so.entry.text)) in
      lack.other (ap (λ (g : Form). blob_id_of g text) form_so ∙ (ap (blob_id_of a.config.form) text_so ∙ sym blob_so))

  sees_none : (T : Type 0) (slot : ℕ) (a : Archive) (cache : List ℕ) (k : Content) → IsDiskWith (kept_store root slot entries) cache a k → (why : StoreRefusal) → DamageBy why (IsTextLack file s (Some k)) → SeesNoDamage {T = T} (Err why)
  sees_none T slot a cache k own DiskFault lack = tt
  sees_none T slot a cache k own NoMemory lack = tt
  sees_none T slot a cache k own (Damaged f at) lack = none_lacks slot a cache k own f at lack

  pub stops : (T : Type 0) (content mid : Option Content) (why : StoreRefusal) → BothTold Unchanged content mid → DamageBy why (IsTextLack file s mid) → (slot : ℕ) → PlansUndamaged {T = T} (kept_store root slot entries) (Err why) content
  stops T None mid why same lack slot = λ a cache store. absurd store
  stops T (Some k) None why same lack slot = λ a cache store. absurd same
  stops T (Some k) (Some m) why same lack slot = λ a cache own. sees_none T slot a cache k own why (subst (λ (c : Content). DamageBy why (IsTextLack file s (Some c))) (one_content k m same) lack)

-- A text that isn't in its place, whatever archive the disk holds.
lacks_text : (root : Root) (s : StoredEntry) (k : Content) (text : List ℕ) → length text ≡ s.seen.size → StandsAt (bytes_of (k (epoch_file_of root s.epoch)).seen) s.seen.text_at s.seen.size text → form_of s.seen.blob ≡ root.config.form → (blob_id_of (form_of s.seen.blob) text ≡ s.seen.blob → ⊥) → HasText root s k → ⊥
lacks_text root s k text size stands form_so other has =
    let text_so = stands has.long in
    other (ap (λ (g : Form). blob_id_of g text) form_so ∙ (ap (blob_id_of root.config.form) text_so ∙ has.blob))

has_form : (root : Root) (s : StoredEntry) (k : Content) → HasText root s k → form_of s.seen.blob ≡ root.config.form
has_form root s k has = ap form_of (sym has.blob) ∙ form_with root.config.form (digest_of root.config.form (blob_spelling (take s.seen.size (drop s.seen.text_at (bytes_of (k (epoch_file_of root s.epoch)).seen)))))

lack_told : (root : Root) (s : StoredEntry) (file : FileName) (content mid : Option Content) (f : FileName) (at : ℕ) → file ≡ epoch_file_of root s.epoch → BothTold Unchanged content mid → IsTextLack file s mid f at → WhereTold (λ (k : Content). HasText root s k → ⊥) content
lack_told root s file None mid f at file_is same lack = tt
lack_told root s file (Some k) None f at file_is same lack = absurd same
lack_told root s file (Some k) (Some m) f at file_is same lack = λ has.
    let text = lack.text in
    let stands = subst (λ (n : FileName). StandsAt (bytes_of (k n).seen) s.seen.text_at s.seen.size text) file_is (subst (λ (c : Content). StandsAt (bytes_of (c file).seen) s.seen.text_at s.seen.size text) (one_content k m same) lack.stands) in
    lacks_text root s k text lack.size stands (has_form root s k has) lack.other has

pub damage_told : (root : Root) (entries : List StoredEntry) (i : ℕ) (s : StoredEntry) (file : FileName) (content mid : Option Content) (why : StoreRefusal) → slice_get entries i ≡ Some s → file ≡ epoch_file_of root s.epoch → BothTold Unchanged content mid → DamageBy why (IsTextLack file s mid)
    → DamageBy why (λ (f : FileName) (at : ℕ). (slot : ℕ) → IsDamagedEntry (kept_store root slot entries) f at content)
damage_told root entries i s file content mid DiskFault here file_is same lack = tt
damage_told root entries i s file content mid NoMemory here file_is same lack = tt
damage_told root entries i s file content mid (Damaged f at) here file_is same lack = λ slot. record {
  index = i;
  entry = s;
  there = here;
  file_is = lack.file_is ∙ file_is;
  at_is = lack.at_is;
  lacks = lack_told root s file content mid f at file_is same lack;
}

-- All entries of a store are those of its archive.
pub converts_end : (root : Root) (form : Form) (entries : List StoredEntry) (i : ℕ) (p : Conversion) (content : Option Content) → length entries ≤ i → WhereTold (ConvertsFront root form entries i p) content → WhereTold (ConvertsAll root form entries p) content
converts_end root form entries i p None most up = tt
converts_end root form entries i p (Some k) most up = λ slot a cache own.
    let size : length entries ≡ length a.entries = ap length own.keeps.kept ∙ length_stored a.config.form [] a.entries in
    subst (λ (es : List Entry). ConvertsFirst (texts_of root (parts_of a cache)) form es p) (take_all i a.entries (omega (arith, most, size))) (up slot a cache own)
