-- One more entry of an archive is planned in another form, on the archive's own disk.
use Rattle.std.specs.Prelude.{◌≡◌, ◌+◌, ◌-◌, ◌<◌, ◌≤◌, ◌==◌, ℕ, Bool, true, false, if◌then◌else◌, List, [], ◌∷◌, ◌++◌, length, take, drop, get_or, slice_get, Option, Some, None, refl}
use Rattle.std.specs.List.{AllByRecursion}
use Rattle.std.proofs.Common.{◌∙◌, sym, ap, subst, inl, inr, arith, append_assoc, length-append}
use Rattle.std.proofs.lemmas.Bool.Decides.{nat_tests}
use Rattle.std.proofs.lemmas.List.{append-nil}
use Rattle.arch_base.specs.Configs.{with_form}
use Rattle.arch_base.specs.declared.ids.Form.{Form}
use Rattle.arch_base.specs.declared.ids.ObjectId.{ObjectId}
use Rattle.disk_model.specs.declared.name.FileName.{FileName}
use Rattle.disk_model.specs.Disk.{Content}
use Rattle.root_slots.specs.Valid.{no_place}
use Rattle.root_change.specs.Copying.{range_of}
use Rattle.root_change.specs.Parts.{texts_of}
use Rattle.root_change.specs.Rewriting.{IsPlan, IsPlanWhole, Plan, written_by}
use Rattle.root_change.specs.Texts.{Texts}
use Rattle.root_change.proofs.Changes.{text_named}
use Rattle.root_change.proofs.Grown.{epoch_isnt_root, epoch_is_named}
use Rattle.root_change.proofs.PlanParts.{last_there}
use Rattle.root_change.proofs.Roots.{other_test}
use Rattle.git_objects.specs.Objects.{blob_spelling}
use Rattle.mail_commits.specs.Entries.{commit_id, commit_text, magic, tree_of}
use Rattle.arch_model.specs.Archives.{Entry, Archive, in_epoch}
use Rattle.arch_model.specs.Epochs.{entries_bytes, epoch_bytes, last_commit}
use Rattle.arch_model.specs.Validity.{IsEntry}
use Rattle.arch_model.proofs.ValidArchives.{all_weaker}
use Rattle.epoch_file.specs.Appending.{front_at}
use Rattle.epoch_file.specs.Planning.{texts_in}
use Rattle.epoch_file.specs.Walking.{blob_front}
use Rattle.store_finding.specs.declared.entries.StoredEntry.{StoredEntry}
use Rattle.store_finding.specs.Files.{epoch_file_of}
use Rattle.store_finding.specs.Kept.{StoreState, IsDiskWith, stored_after, stored_at}
use Rattle.store_finding.specs.Reading.{StandsAt}
use Rattle.store_finding.specs.Recovery.{bytes_in, parts_of}
use Rattle.store_finding.proofs.Extents.{all_more}
use Rattle.store_finding.proofs.Growing.{bytes_here, bytes_other, in_epoch-here, stored_more}
use Rattle.store_finding.proofs.Lasts.{last_commit_is, none_in}
use Rattle.store_finding.proofs.Magics.{magic_length}
use Rattle.store_finding.proofs.TextBytes.{in_epoch_split, one_of_all}
use Rattle.store_planning.proofs.Ends.{last_of}
use Rattle.store_planning.proofs.Planned.{earlier}
use Rattle.convert_planning.specs.Converting.{Conversion}
use Rattle.convert_planning.specs.ConvertSteps.{ConvertsFirst, StartsPlans, TakesText, commit_if, parent_in}
use Rattle.convert_planning.proofs.Blobs.{blob_range, entry_parts, epoch_split, text_read}
use Rattle.convert_planning.proofs.Extended.{at_is, written_after}
use Rattle.convert_planning.proofs.Sets.{item_of_set}

-- Before the first entry.
pub first_none : (texts : Texts) (form : Form) (p : Conversion) → StartsPlans p.plans → p.entries ≡ [] → ConvertsFirst texts form [] p
first_none texts form p starts none = record {
  entries = none;
  written = λ x plan here. subst (λ (q : Plan). IsPlanWhole texts q × (written_by texts q ≡ [])) (sym (starts.each x plan here)) ((λ i s at. absurd (let wrong : None ≡ Some s = at in cc)), refl);
}

-- The offset of the next entry of an epoch.
start_length : (form : Form) (xs : List Entry) → length (epoch_bytes form xs ++ front_at form (length (epoch_bytes form xs))) ≡ 8 + length (entries_bytes form None xs)
start_length form [] = (let eight = magic_length form in omega (arith, eight))
start_length form (x ∷ xs) =
    let others = entries_bytes form None (x ∷ xs) in
    let all = magic form ++ others in
    let size = length-append (magic form) others in
    let eight = magic_length form in
    let there : (length all == 0) ≡ false = other_test (length all) 0 (λ none. absurd (omega (arith, size, eight, none))) in
    ap (λ (b : Bool). length (all ++ (if b then magic form else []))) there ∙ (ap length (append-nil all) ∙ omega (arith, size, eight))

-- The commit of the last entry, if it is in an epoch, is the last commit of the epoch.
parent_step : (form : Form) (x : ℕ) (front : List Entry) (f : Entry) (t : Bool) → (f.epoch == x) ≡ t → (t ≡ false → in_epoch (front ++ f ∷ []) x ≡ [])
    → (if t then Some (stored_at form front f).seen.commit else None) ≡ last_commit form None (in_epoch (front ++ f ∷ []) x)
parent_step form x front f true is none =
    let same : f.epoch ≡ x = grind (arith, nat_tests, is) in
    ap (λ (n : ℕ). Some (commit_id form f.kind f.text f.moment (last_commit form None (in_epoch front n)))) same
    ∙ (sym (last_commit_is form None (in_epoch front x) f) ∙ sym (ap (last_commit form None) (in_epoch-here front f x same)))
parent_step form x front f false is none = sym (ap (last_commit form None) (none refl))

parent_after : (form : Form) (x : ℕ) (front : List Entry) (f : Entry) → ((f.epoch == x) ≡ false → in_epoch (front ++ f ∷ []) x ≡ []) → parent_in (stored_after form [] (front ++ f ∷ [])) x ≡ last_commit form None (in_epoch (front ++ f ∷ []) x)
parent_after form x front f none =
    let kept = stored_after form [] front in
    let last = stored_at form front f in
    let all : stored_after form [] (front ++ f ∷ []) ≡ kept ++ last ∷ [] = stored_more form [] front f in
    let place : length (kept ++ last ∷ []) - 1 ≡ length kept = omega (arith, length-append kept (last ∷ [])) in
    ap (λ (l : List StoredEntry). parent_in l x) all
    ∙ (ap (λ (n : ℕ). commit_if (slice_get (kept ++ last ∷ []) n) x) place
    ∙ (ap (λ (o : Option StoredEntry). commit_if o x) (last_there kept last) ∙ parent_step form x front f (f.epoch == x) refl none))

module _ (k : Content) (v : StoreState) (cache : List ℕ) (a : Archive) (own : IsDiskWith v cache a k) (es rest : List Entry) (e : Entry) (is : a.entries ≡ es ++ e ∷ rest) where
  abbrev was : Form
  was = a.config.form

  abbrev xs : List Entry
  xs = in_epoch es e.epoch

  abbrev ys : List Entry
  ys = in_epoch rest e.epoch

  abbrev name : FileName
  name = epoch_file_of v.root e.epoch

  abbrev t : Texts
  t = texts_of v.root (parts_of a cache)

  abbrev stored : StoredEntry
  stored = stored_at was es e

  entry : IsEntry e
  entry = one_of_all IsEntry es e rest (subst (AllByRecursion IsEntry) is own.keeps.valid.entries)

  bytes_are : bytes_in a e.epoch ≡ epoch_bytes was (xs ++ e ∷ ys)
  bytes_are = ap (λ (l : List Entry). epoch_bytes was (in_epoch l e.epoch)) is ∙ ap (epoch_bytes was) (in_epoch_split es e rest)

  some : 0 < (get_or v.root.epochs e.epoch no_place).length
  some =
      let low = entry.epoch in
      let long = own.keeps.names.epochs e.epoch (omega (arith, low)) in
      let size = ap length bytes_are in
      let split = ap length (epoch_split was xs e ys) in
      let parts = length-append (magic was) (entries_bytes was None (xs ++ e ∷ ys)) in
      let eight = magic_length was in
      omega (arith, long, size, split, parts, eight)

  text_is : t name ≡ epoch_bytes was (xs ++ e ∷ ys)
  text_is =
      let low = entry.epoch in
      text_named v.root (parts_of a cache) name (epoch_is_named v.root e.epoch (get_or v.root.epochs e.epoch no_place).generation (omega (arith, low)) some refl) ∙ bytes_are

  disk_is : texts_in k name ≡ t name
  disk_is = own.on.exact.ends name (epoch_isnt_root e.epoch (get_or v.root.epochs e.epoch no_place).generation)

  -- A text that was read in its place is its own.
  pub own_text : (s : StoredEntry) → s ≡ stored → (text : List ℕ) → StandsAt (texts_in k name) s.seen.text_at s.seen.size text → text ≡ e.text
  own_text s s_is text stands =
      let at : s.seen.text_at ≡ 8 + length (entries_bytes was None xs) + blob_front e.text = ap (λ (q : StoredEntry). q.seen.text_at) s_is in
      let size : s.seen.size ≡ length e.text = ap (λ (q : StoredEntry). q.seen.size) s_is in
      let reads = text_read was xs e ys (texts_in k name) s.seen.text_at (disk_is ∙ text_is) at in
      let inside = reads.0 in
      stands (omega (arith, inside, size)) ∙ (ap (λ (n : ℕ). take n (drop s.seen.text_at (texts_in k name))) size ∙ reads.1)

  -- The last commit of its epoch so far.
  parent_is : (form : Form) → parent_in (stored_after form [] es) e.epoch ≡ last_commit form None xs
  parent_is form = elim (last_of es) [
    | inl none ↦ ap (λ (l : List Entry). parent_in (stored_after form [] l) e.epoch) none ∙ ap (λ (l : List Entry). last_commit form None (in_epoch l e.epoch)) (sym none)
    | inr last ↦
        ap (λ (l : List Entry). parent_in (stored_after form [] l) e.epoch) last.is
        ∙ (parent_after form e.epoch last.front last.item (no_more last.front last.item last.is) ∙ ap (λ (l : List Entry). last_commit form None (in_epoch l e.epoch)) (sym last.is))
  ] where
    no_more : (front : List Entry) (f : Entry) → es ≡ front ++ f ∷ [] → (f.epoch == e.epoch) ≡ false → in_epoch (front ++ f ∷ []) e.epoch ≡ []
    no_more front f es_is test =
        let split : a.entries ≡ front ++ f ∷ (e ∷ rest) = is ∙ (ap (λ (l : List Entry). l ++ e ∷ rest) es_is ∙ append_assoc front (f ∷ []) (e ∷ rest)) in
        let low : AllByRecursion (λ (g : Entry). g.epoch ≤ e.epoch) (front ++ f ∷ []) = subst (AllByRecursion (λ (g : Entry). g.epoch ≤ e.epoch)) es_is (earlier k v cache a own es rest e is) in
        let its : f.epoch ≤ e.epoch = one_of_all (λ (g : Entry). g.epoch ≤ e.epoch) front f [] low in
        let less : f.epoch < e.epoch = grind (arith, nat_tests, test, its) in
        none_in (front ++ f ∷ []) e.epoch
        (all_more (λ (g : Entry). g.epoch < e.epoch) front f (all_weaker (λ (g : Entry). g.epoch ≤ f.epoch) (λ (g : Entry). g.epoch < e.epoch) front (λ g most. omega (arith, most, less)) (earlier k v cache a own front (e ∷ rest) f split)) less)

  -- It was taken after those before it.
  module _ (p new : Conversion) (first : ConvertsFirst t p.form es p) (takes : TakesText p name stored e.text new) (valid : IsPlan takes.plan) where
    abbrev form : Form
    form = p.form

    abbrev parent : Option ObjectId
    parent = parent_in p.entries e.epoch

    abbrev tree : List ℕ
    tree = tree_of form e.kind e.text

    abbrev commit : List ℕ
    commit = commit_text form e.kind e.text e.moment parent

    abbrev before : List ℕ
    before = epoch_bytes form xs

    its_parent : parent ≡ last_commit form None xs
    its_parent = ap (λ (l : List StoredEntry). parent_in l e.epoch) first.entries ∙ parent_is form

    was_written : IsPlanWhole t takes.plan × (written_by t takes.plan ≡ before)
    was_written = first.written e.epoch takes.plan takes.there

    copies : (stored.seen.at + takes.extends.count ≤ length (t name)) × (range_of (t name) stored.seen.at takes.extends.count ≡ blob_spelling e.text)
    copies =
        let there = blob_range was xs e ys stored.seen.at stored.seen.text_at takes.extends.count refl refl takes.extends.sum in
        subst (λ (b : List ℕ). (stored.seen.at + takes.extends.count ≤ length b) × (range_of b stored.seen.at takes.extends.count ≡ blob_spelling e.text)) (sym text_is) there

    writes : IsPlanWhole t takes.after × (written_by t takes.after ≡ before ++ (front_at form (length before) ++ (range_of (t name) stored.seen.at takes.extends.count ++ (tree ++ commit))))
    writes = written_after form name stored.seen (tree ++ commit) takes.plan takes.after takes.at takes.extends t before valid was_written.0 was_written.1 copies.0

    -- The archive of the entries so far in the new form.
    abbrev so_far : Archive
    so_far = record { config = with_form form a.config; entries = es; next = a.next }

    its_bytes : written_by t takes.after ≡ epoch_bytes form (in_epoch (es ++ e ∷ []) e.epoch)
    its_bytes =
        writes.1
        ∙ (ap (λ (b : List ℕ). before ++ (front_at form (length before) ++ (b ++ (tree ++ commit)))) copies.1
        ∙ (ap (λ (o : Option ObjectId). before ++ (front_at form (length before) ++ (blob_spelling e.text ++ (tree ++ commit_text form e.kind e.text e.moment o)))) its_parent
        ∙ (ap (λ (b : List ℕ). before ++ (front_at form (length before) ++ b)) (sym (entry_parts form e.kind e.text e.moment (last_commit form None xs))) ∙ sym (bytes_here so_far e))))

    its_offset : takes.at ≡ 8 + length (entries_bytes form None xs)
    its_offset = at_is form name stored.seen (tree ++ commit) takes.plan takes.after takes.at takes.extends t before valid was_written.0 was_written.1 copies.0 ∙ start_length form xs

    its_text : takes.made.seen.text_at ≡ 8 + length (entries_bytes form None xs) + blob_front e.text
    its_text = (let at = its_offset in let moved = takes.made_is.text_at in omega (arith, at, moved))

    made_is : takes.made ≡ stored_at form es e
    made_is =
        let of = takes.made_is in
        let at : takes.made.seen.at ≡ 8 + length (entries_bytes form None xs) = of.at_is ∙ its_offset in
        let text_at = its_text in
        let commit_so : takes.made.seen.commit ≡ commit_id form e.kind e.text e.moment (last_commit form None xs) = of.commit_is ∙ ap (commit_id form e.kind e.text e.moment) its_parent in
        λ i. record {
          number = of.number i;
          epoch = of.epoch i;
          seen = record {
            kind = of.kind i;
            at = at i;
            text_at = text_at i;
            size = of.size i;
            blob = of.blob_is i;
            commit = commit_so i;
            moment = of.moment i;
            id = of.id i;
            content = of.content i;
          };
        }

    pub first_more : ConvertsFirst t form (es ++ e ∷ []) new
    first_more = record {
      entries = takes.entries ∙ (ap (λ (l : List StoredEntry). l ++ takes.made ∷ []) first.entries ∙ (ap (λ (s : StoredEntry). stored_after form [] es ++ s ∷ []) made_is ∙ sym (stored_more form [] es e)));
      written = λ x plan here. elim (item_of_set p.plans e.epoch x takes.after plan (ap (λ (l : List Plan). slice_get l x) (sym takes.plans) ∙ here)) [
        | inl there ↦
            subst (λ (n : ℕ). IsPlanWhole t plan × (written_by t plan ≡ epoch_bytes form (in_epoch (es ++ e ∷ []) n))) (sym there.0)
            (subst (λ (q : Plan). IsPlanWhole t q × (written_by t q ≡ epoch_bytes form (in_epoch (es ++ e ∷ []) e.epoch))) (sym there.1) (writes.0, its_bytes))
        | inr other ↦
            let was_so = first.written x plan other.1 in
            (was_so.0, was_so.1 ∙ sym (bytes_other so_far e x (λ same. other.0 (sym same))))
      ];
    }
