-- Where the entries of a store lie: after one more entry, and after plans.
use Rattle.std.specs.Prelude.{◌≡◌, ◌≢◌, ◌+◌, ◌<◌, ◌≤◌, ◌==◌, nat_lt, ℕ, suc, Bool, true, false, if◌then◌else◌, List, [], ◌∷◌, ◌++◌, length, set, get_or, Option, Some, None, unwrap_or, refl}
use Rattle.std.specs.List.{AllByRecursion}
use Rattle.std.proofs.Common.{◌∙◌, sym, ap, subst, inl, inr, arith, length-append}
use Rattle.std.proofs.lemmas.Bool.Decides.{nat_tests}
use Rattle.std.proofs.lemmas.List.{get_or-set_same, get_or-set_other}
use Rattle.arch_base.specs.declared.ids.ObjectId.{ObjectId}
use Rattle.arch_base.specs.Ids.{form_of}
use Rattle.git_objects.specs.Objects.{blob_id_of}
use Rattle.git_objects.specs.Trees.{tree_size}
use Rattle.arch_model.proofs.ValidArchives.{all_weaker}
use Rattle.disk_model.specs.declared.name.FileKind.TheVariants as kind
use Rattle.root_slots.specs.declared.root.Place.{Place}
use Rattle.root_slots.specs.declared.root.Root.{Root}
use Rattle.root_slots.specs.Valid.{no_place}
use Rattle.root_change.specs.declared.plan.Target.{Target}
use Rattle.root_change.specs.declared.plan.Target.TheVariants.{Anew, Behind}
use Rattle.root_change.specs.Rewriting.{IsRootAfter, Plan, no_plan, place_anew, place_behind, place_by, place_planned, plan_count, plan_of, with_bytes}
use Rattle.root_change.proofs.PlanParts.{found}
use Rattle.root_change.proofs.Pushes.{count_with_bytes}
use Rattle.root_change.proofs.Roots.{equal_or_not}
use Rattle.epoch_file.specs.Appending.{appended, entry_of, front_at, written_of}
use Rattle.epoch_file.specs.declared.entry.NewEntry.{NewEntry}
use Rattle.epoch_file.specs.declared.entry.Seen.{Seen}
use Rattle.epoch_file.specs.declared.entry.Written.{Written}
use Rattle.epoch_file.specs.Entries.{bytes_after}
use Rattle.epoch_file.specs.Lying.{EntryLiesIn, tree_end}
use Rattle.epoch_file.specs.Walking.{blob_front}
use Rattle.epoch_file.proofs.Sizes.{length-entry, tree_by_blob}
use Rattle.mail_commits.specs.Entries.{magic}
use Rattle.store_finding.specs.declared.entries.StoredEntry.{StoredEntry}
use Rattle.store_planning.specs.declared.next.NextPlace.{NextPlace}
use Rattle.store_finding.specs.Damage.{named_length}
use Rattle.store_finding.specs.Extents.{AreIn, AreNamed, AreNamedAfter, AreUpToEpoch, ComesAfter, LieFrom, length_planned}
use Rattle.store_planning.specs.Planning.{AreAnew, length_after, length_by}
use Rattle.store_finding.specs.Kept.{InEpochs}
use Rattle.epoch_store.specs.Commands.{place_of}
use Rattle.store_finding.proofs.Extents.{all_more, lie_more}
use Rattle.store_finding.proofs.Magics.{magic_length}
use Rattle.store_planning.proofs.PlannedExtents.{anew_long, none_planned, anew_planned}

-- Entries lie in files that are longer.
pub are_in_longer : (f g : ℕ → ℕ) (es : List StoredEntry) → ((e : ℕ) → f e ≤ g e) → AreIn f es → AreIn g es
are_in_longer f g es longer are = record {
  lie = are.lie;
  ends = all_weaker (λ (e : StoredEntry). tree_end e.seen ≤ f e.epoch) (λ (e : StoredEntry). tree_end e.seen ≤ g e.epoch) es (λ e less. (let more = longer e.epoch in omega (arith, less, more))) are.ends;
}

-- One more entry, which is written at the end of the last epoch or of a later one.
pub are_in_more : (f g : ℕ → ℕ) (es : List StoredEntry) (e : StoredEntry) (end_ : ℕ) → ((x : ℕ) → f x ≤ g x) → end_ ≤ g e.epoch → AreUpToEpoch e.epoch es → EntryLiesIn (f e.epoch) end_ e.seen → AreIn f es → AreIn g (es ++ e ∷ [])
are_in_more f g es e end_ longer most last lies are =
    let at = lies.at in
    let ends = lies.ends in
    record {
      lie = lie_more 0 0 es e are.lie (omega arith, λ same. omega arith) (after es last are.ends) lies.text;
      ends = all_more (λ (x : StoredEntry). tree_end x.seen ≤ g x.epoch) es e (are_in_longer f g es longer are).ends (omega (arith, ends, most));
    } where
      after : (xs : List StoredEntry) → AreUpToEpoch e.epoch xs → AllByRecursion (λ (x : StoredEntry). tree_end x.seen ≤ f x.epoch) xs → AllByRecursion (λ (x : StoredEntry). ComesAfter x.epoch (tree_end x.seen) e) xs
      after [] low all = tt
      after (x ∷ xs) low all = (
        (
          low.0,
          λ same. (let most_ : tree_end x.seen ≤ f e.epoch = subst (λ (n : ℕ). tree_end x.seen ≤ f n) same all.0 in let at_ = lies.at in omega (arith, most_, at_)),
        ),
        after xs low.1 all.1,
      )

pub up_to_later : (es : List StoredEntry) (epoch later : ℕ) → epoch ≤ later → AreUpToEpoch epoch es → AreUpToEpoch later es
up_to_later es epoch later more all = all_weaker (λ (e : StoredEntry). e.epoch ≤ epoch) (λ (e : StoredEntry). e.epoch ≤ later) es (λ e less. omega (arith, less, more)) all

-- A new entry lies at the end of its file.
new_lies : (start : ℕ) (entry : NewEntry) (seen : Seen) (at front : ℕ) → seen.blob ≡ blob_id_of entry.form entry.text.now → at ≡ (if start == 0 then 8 else start) → front ≡ blob_front entry.text.now → seen.at ≡ at → seen.text_at ≡ at + front → seen.size ≡ length entry.text.now → EntryLiesIn start (start + length (appended start entry)) seen
new_lies start entry seen at front blob_is at_is front_is seen_at_is text_is size_is = by (start == 0) refl where
  more : length (appended start entry) ≡ length (front_at entry.form start) + length (bytes_after entry.form entry.parent (entry_of entry))
  more = length-append (front_at entry.form start) (bytes_after entry.form entry.parent (entry_of entry))

  tree : tree_size (form_of seen.blob) ≡ tree_size entry.form
  tree = ap (λ (i : ObjectId). tree_size (form_of i)) blob_is ∙ tree_by_blob entry.form entry.text.now

  by : (t : Bool) → (start == 0) ≡ t → EntryLiesIn start (start + length (appended start entry)) seen
  by true is =
      let none : start ≡ 0 = grind (arith, nat_tests, is) in
      let at_8 : at ≡ 8 = at_is ∙ ap (λ (b : Bool). if b then 8 else start) is in
      let eight : length (front_at entry.form start) ≡ 8 = ap (λ (b : Bool). length (if b then magic entry.form else [])) is ∙ magic_length entry.form in
      let size = length-entry entry.form entry.parent (entry_of entry) in
      record { at = omega (arith, none); text = omega (arith, seen_at_is, text_is); ends = omega (arith, more, eight, size, none, at_8, text_is, front_is, size_is, tree) }
  by false is =
      let at_same : at ≡ start = at_is ∙ ap (λ (b : Bool). if b then 8 else start) is in
      let size = length-entry entry.form entry.parent (entry_of entry) in
      record { at = omega (arith, at_same, seen_at_is); text = omega (arith, seen_at_is, text_is); ends = omega (arith, more, size, at_same, text_is, front_is, size_is, tree) }

pub written_lies : (start : ℕ) (entry : NewEntry) (seen : Seen) (at front : ℕ) (written : Written) → seen.blob ≡ blob_id_of entry.form entry.text.now → written ≡ written_of start entry → at ≡ (if start == 0 then 8 else start) → front ≡ blob_front entry.text.now → seen.at ≡ at → seen.text_at ≡ at + front → seen.size ≡ length entry.text.now → EntryLiesIn start written.end seen
written_lies start entry seen at front written blob_is is at_is front_is seen_at_is text_is size_is =
    subst (λ (w : Written). EntryLiesIn start w.end seen) (sym is) (new_lies start entry seen at front blob_is at_is front_is seen_at_is text_is size_is)

-- The lengths that a root names after an entry was written in an epoch, which ends then at an offset.
pub written_lengths : (epochs : List Place) (generation epoch end_ : ℕ) → epoch < length epochs → (get_or epochs epoch no_place).length ≤ end_
    → ((e : ℕ) → (get_or epochs e no_place).length ≤ (get_or (set epochs epoch (record { generation = generation; length = end_ })) e no_place).length) × (end_ ≤ (get_or (set epochs epoch (record { generation = generation; length = end_ })) epoch no_place).length)
written_lengths epochs generation epoch end_ within longer =
    let place : Place = record { generation = generation; length = end_ } in
    let here : (get_or (set epochs epoch place) epoch no_place).length ≡ end_ = ap (λ (p : Place). p.length) (get_or-set_same epochs epoch place no_place within) in (
      λ e. elim (equal_or_not e epoch) [
        | inl same ↦
            let was : (get_or epochs e no_place).length ≡ (get_or epochs epoch no_place).length = ap (λ (n : ℕ). (get_or epochs n no_place).length) same in
            let is : (get_or (set epochs epoch place) e no_place).length ≡ end_ = ap (λ (n : ℕ). (get_or (set epochs epoch place) n no_place).length) same ∙ here in
            omega (arith, was, is, longer)
        | inr apart ↦
            let other : (get_or (set epochs epoch place) e no_place).length ≡ (get_or epochs e no_place).length = ap (λ (p : Place). p.length) (get_or-set_other epochs epoch e place no_place apart) in
            omega (arith, other)
      ],
      omega (arith, here),
    )

-- What a store keeps then: one more entry, in the bytes that the new root names.
pub named_more : (root new : Root) (generation end_ start : ℕ) (es : List StoredEntry) (e : StoredEntry) → length root.epochs ≡ 64 → e.epoch ≤ 63 → start ≡ named_length root e.epoch → new.epochs ≡ set root.epochs e.epoch (record { generation = generation; length = end_ }) → AreUpToEpoch e.epoch es → EntryLiesIn start end_ e.seen → AreNamed root es → AreNamed new (es ++ e ∷ [])
named_more root new generation end_ start es e count low start_is new_is last lies are =
    let at = lies.at in
    let text = lies.text in
    let ends = lies.ends in
    let so = written_lengths root.epochs generation e.epoch end_ (omega (arith, count, low)) (omega (arith, at, text, ends, start_is)) in
    subst (λ (places : List Place). AreIn (λ (x : ℕ). (get_or places x no_place).length) (es ++ e ∷ [])) (sym new_is)
    (are_in_more (named_length root) (λ (x : ℕ). (get_or (set root.epochs e.epoch (record { generation = generation; length = end_ })) x no_place).length) es e end_ so.0 so.1 last (subst (λ (n : ℕ). EntryLiesIn n end_ e.seen) start_is lies) are)

behind_long : (next : ℕ) (place : Place) (n : ℕ) → (place_behind next place n).length ≡ place.length + n
behind_long next place n = by (nat_lt 0 place.length) refl where
  by : (t : Bool) → nat_lt 0 place.length ≡ t → (if t then record { generation = place.generation; length = place.length + n } else place_anew next n).length ≡ place.length + n
  by true is = refl
  by false is = let none : place.length ≡ 0 = grind (arith, nat_tests, is) in let anew = anew_long next n in omega (arith, none, anew)

pub behind_planned : (root : Root) (plans : List Plan) (e : ℕ) (q : Plan) → plan_of plans kind.Epoch e ≡ Some q → q.target ≡ Behind → length_planned root plans e ≡ named_length root e + plan_count q
behind_planned root plans e q is behind =
    ap (λ (o : Option Plan). (place_planned (root.sequence + 1) o (get_or root.epochs e no_place)).length) is
    ∙ (ap (λ (t : Target). (place_by (root.sequence + 1) t (get_or root.epochs e no_place) (plan_count q)).length) behind ∙ behind_long (root.sequence + 1) (get_or root.epochs e no_place) (plan_count q))

pub after_planned : (root : Root) (plans : List Plan) (e : ℕ) → AreAnew plans → length_after root plans e ≡ length_planned root plans e
after_planned root plans e anew = by (plan_of plans kind.Epoch e) refl where
  by : (was : Option Plan) → plan_of plans kind.Epoch e ≡ was → length_after root plans e ≡ length_planned root plans e
  by None none = ap (length_by (named_length root e)) none ∙ sym (none_planned root plans e none)
  by (Some q) some =
      let there = found plans kind.Epoch e q some in
      ap (length_by (named_length root e)) some ∙ sym (anew_planned root plans e q some (anew there.index q there.here))

-- The length of an epoch that gets bytes after what is planned of it.
pub more_planned : (root : Root) (old new : List Plan) (e : ℕ) (piece : List ℕ) → plan_of new kind.Epoch e ≡ Some (with_bytes (unwrap_or (plan_of old kind.Epoch e) (no_plan kind.Epoch e Behind)) piece) → length_planned root new e ≡ length_planned root old e + length piece
more_planned root old new e piece is = by (plan_of old kind.Epoch e) refl where
  by : (was : Option Plan) → plan_of old kind.Epoch e ≡ was → length_planned root new e ≡ length_planned root old e + length piece
  by None none =
      let plan = no_plan kind.Epoch e Behind in
      let now : plan_of new kind.Epoch e ≡ Some (with_bytes plan piece) = is ∙ ap (λ (o : Option Plan). Some (with_bytes (unwrap_or o plan) piece)) none in
      let count = count_with_bytes plan piece in
      let empty : plan_count plan ≡ 0 = refl in
      let long = behind_planned root new e (with_bytes plan piece) now refl in
      let was = none_planned root old e none in
      omega (arith, count, empty, long, was)
  by (Some q) some =
      by_target q.target refl where
        by_target : (t : Target) → q.target ≡ t → length_planned root new e ≡ length_planned root old e + length piece
        by_target Anew q_is =
            let count = count_with_bytes q piece in
            let now : plan_of new kind.Epoch e ≡ Some (with_bytes q piece) = is ∙ ap (λ (o : Option Plan). Some (with_bytes (unwrap_or o (no_plan kind.Epoch e Behind)) piece)) some in
            let long = anew_planned root new e (with_bytes q piece) now q_is in
            let was = anew_planned root old e q some q_is in
            omega (arith, count, long, was)
        by_target Behind q_is =
            let count = count_with_bytes q piece in
            let now : plan_of new kind.Epoch e ≡ Some (with_bytes q piece) = is ∙ ap (λ (o : Option Plan). Some (with_bytes (unwrap_or o (no_plan kind.Epoch e Behind)) piece)) some in
            let long = behind_planned root new e (with_bytes q piece) now q_is in
            let was = behind_planned root old e q some q_is in
            omega (arith, count, long, was)

-- One more entry is planned.
pub planned_more : (root : Root) (old new : List Plan) (es : List StoredEntry) (e : StoredEntry) (piece : List ℕ) (start end_ : ℕ) → plan_of new kind.Epoch e.epoch ≡ Some (with_bytes (unwrap_or (plan_of old kind.Epoch e.epoch) (no_plan kind.Epoch e.epoch Behind)) piece)
    → ((x : ℕ) → x ≢ e.epoch → plan_of new kind.Epoch x ≡ plan_of old kind.Epoch x) → start ≡ length_planned root old e.epoch → end_ ≡ start + length piece → (LieFrom 0 0 es → AreUpToEpoch e.epoch es) → EntryLiesIn start end_ e.seen → AreNamedAfter root old es → AreNamedAfter root new (es ++ e ∷ [])
planned_more root old new es e piece start end_ own others start_is end_is last lies are =
    let here = more_planned root old new e.epoch piece own in
    are_in_more (length_planned root old) (length_planned root new) es e end_ longer (omega (arith, here, start_is, end_is)) (last are.lie) (subst (λ (n : ℕ). EntryLiesIn n end_ e.seen) start_is lies) are where
      longer : (x : ℕ) → length_planned root old x ≤ length_planned root new x
      longer x = elim (equal_or_not x e.epoch) [
        | inl same ↦
            let here = more_planned root old new e.epoch piece own in
            let less : length_planned root old e.epoch ≤ length_planned root new e.epoch = omega (arith, here) in
            subst (λ (n : ℕ). length_planned root old n ≤ length_planned root new n) (sym same) less
        | inr apart ↦
            let stays : length_planned root new x ≡ length_planned root old x = ap (λ (o : Option Plan). (place_planned (root.sequence + 1) o (get_or root.epochs x no_place)).length) (others x apart) in
            omega (arith, stays)
      ]

-- What a store keeps once plans are carried out.
pub named_after : (old : Root) (plans : List Plan) (next : ℕ) (new : Root) (es : List StoredEntry) → IsRootAfter old plans next old.config.form new → InEpochs es → AreNamedAfter old plans es → AreNamed new es
named_after old plans next new es after low are = record { lie = are.lie; ends = by es low are.ends } where
  by : (xs : List StoredEntry) → InEpochs xs → AllByRecursion (λ (e : StoredEntry). tree_end e.seen ≤ length_planned old plans e.epoch) xs → AllByRecursion (λ (e : StoredEntry). tree_end e.seen ≤ named_length new e.epoch) xs
  by [] in_ all = tt
  by (x ∷ xs) in_ all =
      let first : x.epoch ≤ 63 = in_ 0 x refl in
      let place = after.epochs x.epoch (omega (arith, first)) in
      let long : named_length new x.epoch ≡ length_planned old plans x.epoch = ap (λ (p : Place). p.length) place in
      let ends = all.0 in
      (omega (arith, ends, long), by xs (λ i f here. in_ (suc i) f here) all.1)

-- What a store keeps after an entry was written at the next place.
pub written_named : (root new : Root) (p : NextPlace) (end_ : ℕ) (es : List StoredEntry) (e : StoredEntry) → length root.epochs ≡ 64 → p.epoch ≤ 63 → p ≡ place_of root p.epoch p.parent → new.epochs ≡ set root.epochs p.epoch (record { generation = p.generation; length = end_ }) → e.epoch ≡ p.epoch → AreUpToEpoch p.epoch es → EntryLiesIn p.length end_ e.seen
    → AreNamed root es → AreNamed new (es ++ e ∷ [])
written_named root new p end_ es e count small place new_is epoch_is last lies are =
    let long : p.length ≡ named_length root e.epoch = ap (λ (q : NextPlace). q.length) place ∙ ap (named_length root) (sym epoch_is) in
    named_more root new p.generation end_ p.length es e count (omega (arith, epoch_is, small)) long
    (subst (λ (n : ℕ). new.epochs ≡ set root.epochs n (record { generation = p.generation; length = end_ })) (sym epoch_is) new_is) (subst (λ (n : ℕ). AreUpToEpoch n es) (sym epoch_is) last) lies are
