-- One more message after what is planned, on the archive that is planned.
use Rattle.std.specs.Prelude.{◌≡◌, ◌≢◌, ◌+◌, ◌^◌, ◌<◌, ◌≤◌, ◌==◌, ℕ, Bool, true, false, if◌then◌else◌, List, [], ◌∷◌, ◌++◌, length, get_or, Option, Some, None, unwrap_or, refl}
use Rattle.std.proofs.Common.{◌∙◌, sym, ap, subst, inl, inr, arith, length-append}
use Rattle.std.proofs.lemmas.Bool.Decides.{nat_tests}
use Rattle.disk_model.specs.declared.name.FileKind.{FileKind}
use Rattle.disk_model.specs.declared.name.FileKind.TheVariants as kind
use Rattle.arch_base.specs.declared.ids.ObjectId.{ObjectId}
use Rattle.arch_base.specs.declared.ids.Form.{Form}
use Rattle.arch_base.specs.declared.config.Config.{Config}
use Rattle.arch_base.specs.Ids.{id_bytes, id_size}
use Rattle.disk_model.specs.Sizes.{record_size}
use Rattle.git_objects.proofs.ObjectIds.{IsObjectId-id_of}
use Rattle.git_objects.specs.Objects.{blob_id_of, blob_spelling}
use Rattle.git_objects.specs.declared.entry_kind.EntryKind.TheVariants.{Message}
use Rattle.number_map.specs.Records.{record_bytes}
use Rattle.number_map.specs.Sizes.{record_length}
use Rattle.mail_reader.specs.Content.{content_id_of}
use Rattle.mail_reader.specs.Ids.{own_id}
use Rattle.root_slots.specs.declared.root.Root.{Root}
use Rattle.root_slots.specs.Valid.{no_place}
use Rattle.root_change.specs.declared.plan.Target.{Target}
use Rattle.root_change.specs.declared.plan.Target.TheVariants.{Behind}
use Rattle.root_change.specs.Parts.{texts_of}
use Rattle.root_change.specs.Rewriting.{Plan, IsPlanWhole, bytes_by, no_plan, plan_of, planned, rewritten, with_bytes, written_by}
use Rattle.root_change.specs.Texts.{Texts}
use Rattle.root_change.proofs.PlanParts.{found}
use Rattle.root_change.proofs.Plans.{written_long}
use Rattle.root_change.proofs.Pushes.{whole_with_bytes}
use Rattle.root_change.proofs.Roots.{equal_or_not}
use Rattle.arch_model.specs.Archives.{Entry, Archive, in_epoch, message, with_entry}
use Rattle.arch_model.specs.Delivery.{new_epoch}
use Rattle.arch_model.specs.Epochs.{last_commit}
use Rattle.arch_model.specs.Validity.{IsArchive}
use Rattle.epoch_file.specs.Appending.{front_at}
use Rattle.epoch_file.specs.Entries.{EpochEntry, bytes_after}
use Rattle.epoch_file.specs.Lying.{EntryLiesIn}
use Rattle.epoch_file.specs.Planning.{Planned}
use Rattle.store_finding.specs.declared.entries.StoredEntry.{StoredEntry}
use Rattle.store_planning.specs.declared.next.NextPlace.{NextPlace}
use Rattle.store_finding.specs.Extents.{AreNamedAfter, AreUpToEpoch, LieFrom, length_planned}
use Rattle.store_planning.specs.Planning.{AppendsRecord, AreAnew, AreValid, IsPlaceAfter, IsReadyPlan, Planning, PlansArchive, PlansEdit, length_after, length_by, plans_with, with_record}
use Rattle.store_finding.specs.Recovery.{NamesArchive, bytes_in, map_bytes, parts_of}
use Rattle.epoch_store.specs.Commands.{EntriesEndAt}
use Rattle.store_finding.specs.Kept.{StoreState, stored_at}
use Rattle.epoch_store.proofs.Entering.{some_bytes}
use Rattle.epoch_store.proofs.EntryExtents.{after_planned, planned_more}
use Rattle.epoch_store.proofs.MorePlanned.{none_whole, option_more, plan_more}
use Rattle.store_finding.proofs.Growing.{bytes_here, bytes_other, map_grows, stored_more}
use Rattle.store_planning.proofs.Messaged.{each_record, each_with, epoch_isnt_map, here_record, here_with, other_record, other_with, ready_more}

module _ (root : Root) (cache : List ℕ) (a b : Archive) (old : Planning) (next : ℕ) (made : PlansArchive root cache a b old next) (names : NamesArchive root a) (valid : AreValid old.plans) where
  abbrev texts : Texts
  texts = texts_of root (parts_of a cache)

  part_of : (k : FileKind) (n : ℕ) (o : Option Plan) → plan_of old.plans k n ≡ o → planned texts (plan_of old.plans k n) (parts_of a cache k n) ≡ planned texts o (parts_of a cache k n)
  part_of k n o is = ap (λ (x : Option Plan). planned texts x (parts_of a cache k n)) is

  -- How long epochs are.
  pub length_is : AreAnew old.plans → (e : ℕ) → e < 64 → length_after root old.plans e ≡ length (bytes_in b e)
  length_is anew e below = by (plan_of old.plans kind.Epoch e) refl where
    by : (o : Option Plan) → plan_of old.plans kind.Epoch e ≡ o → length_by (get_or root.epochs e no_place).length o ≡ length (bytes_in b e)
    by None is = names.epochs e below ∙ ap length (sym (part_of kind.Epoch e None is) ∙ made.parts kind.Epoch e)
    by (Some p) is =
        let there = found old.plans kind.Epoch e p is in
        sym (written_long texts p (made.whole there.index p there.here))
        ∙ ap length (ap (λ (t : Target). bytes_by t (bytes_in a e) (written_by texts p)) (sym (anew there.index p there.here)) ∙ (sym (part_of kind.Epoch e (Some p) is) ∙ made.parts kind.Epoch e))

  module _ (e : ℕ) (text : List ℕ) (moment : ℕ) (piece line : List ℕ) (piece_is : piece ≡ front_at b.config.form (length (bytes_in b e)) ++ bytes_after b.config.form (last_commit b.config.form None (in_epoch b.entries e)) (record { kind = Message; text = text; moment = moment }))
      (line_is : line ≡ record_bytes (record { number = next; epoch = e; blob = blob_id_of b.config.form text })) (mp : Plan) (map_is : plan_of old.plans kind.Map 0 ≡ Some mp) where
    abbrev new : Entry
    new = message b.next e text moment

    abbrev mid : List Plan
    mid = plans_with old.plans e piece

    abbrev all : List Plan
    all = with_record mid line

    here : planned texts (plan_of all kind.Epoch e) (bytes_in a e) ≡ bytes_in (with_entry b e text moment) e
    here =
        ap (λ (o : Option Plan). planned texts o (bytes_in a e)) (other_record mid line kind.Epoch e (λ k_is n_is. epoch_isnt_map (sym k_is)) ∙ here_with old.plans e piece)
        ∙ (option_more texts old.plans valid e (plan_of old.plans kind.Epoch e) (bytes_in a e) piece refl
        ∙ (ap (λ (l : List ℕ). l ++ piece) (made.parts kind.Epoch e) ∙ (ap (λ (l : List ℕ). bytes_in b e ++ l) piece_is ∙ sym (bytes_here b new))))

    elsewhere : (n : ℕ) → n ≢ e → planned texts (plan_of all kind.Epoch n) (bytes_in a n) ≡ bytes_in (with_entry b e text moment) n
    elsewhere n apart =
        ap (λ (o : Option Plan). planned texts o (bytes_in a n)) (other_record mid line kind.Epoch n (λ k_is n_is. epoch_isnt_map (sym k_is)) ∙ other_with old.plans e piece kind.Epoch n (λ k_is n_is. apart n_is))
        ∙ (made.parts kind.Epoch n ∙ sym (bytes_other b new n (λ is. apart (sym is))))

    map_mid : plan_of mid kind.Map 0 ≡ Some mp
    map_mid = other_with old.plans e piece kind.Map 0 (λ k_is n_is. epoch_isnt_map k_is) ∙ map_is

    map_here : planned texts (plan_of all kind.Map 0) (map_bytes a) ≡ map_bytes (with_entry b e text moment)
    map_here =
        ap (λ (o : Option Plan). planned texts o (map_bytes a)) (here_record mid line mp map_mid)
        ∙ (plan_more texts old.plans valid kind.Map 0 mp (map_bytes a) line map_is
        ∙ (ap (λ (l : List ℕ). l ++ line) (sym (part_of kind.Map 0 (Some mp) map_is) ∙ made.parts kind.Map 0)
        ∙ (ap (λ (l : List ℕ). map_bytes b ++ l) (line_is ∙ ap (λ (n : ℕ). record_bytes (record { number = n; epoch = e; blob = blob_id_of b.config.form text })) (sym made.next_is))
        ∙ sym (map_grows b e text moment made.valid.next_least made.valid.below))))

    part : (k : FileKind) (n : ℕ) → rewritten root all (parts_of a cache) k n ≡ parts_of (with_entry b e text moment) [] k n
    part kind.Root n = refl
    part kind.Cache n = made.parts kind.Cache n
    part kind.Epoch n = elim (equal_or_not n e) [
      | inl is ↦ subst (λ (m : ℕ). planned texts (plan_of all kind.Epoch m) (bytes_in a m) ≡ bytes_in (with_entry b e text moment) m) (sym is) here
      | inr apart ↦ elsewhere n apart
    ]
    part kind.Map n = elim (equal_or_not n 0) [
      | inl is ↦ subst (λ (m : ℕ). planned texts (plan_of all kind.Map m) (parts_of a cache kind.Map m) ≡ parts_of (with_entry b e text moment) [] kind.Map m) (sym is) map_here
      | inr apart ↦
          ap (λ (o : Option Plan). planned texts o (parts_of a cache kind.Map n)) (other_record mid line kind.Map n (λ k_is n_is. apart n_is) ∙ other_with old.plans e piece kind.Map n (λ k_is n_is. epoch_isnt_map k_is))
          ∙ (made.parts kind.Map n ∙ none_there n (n == 0) refl apart)
    ] where
      none_there : (n : ℕ) (t : Bool) → (n == 0) ≡ t → n ≢ 0 → (if n == 0 then map_bytes b else []) ≡ (if n == 0 then map_bytes (with_entry b e text moment) else [])
      none_there n true is apart = absurd (let same : n ≡ 0 = grind (arith, nat_tests, is) in apart same)
      none_there n false is apart = ap (λ (t : Bool). if t then map_bytes b else []) is ∙ ap (λ (t : Bool). if t then map_bytes (with_entry b e text moment) else []) (sym is)

    -- The archive with the message is planned.
    pub archive_more : IsArchive (with_entry b e text moment) → (gone : List ℕ) (current : Option Planned) (form : Form) (entries : List StoredEntry) → entries ≡ old.entries ++ stored_at b.config.form b.entries new ∷ [] → PlansArchive root cache a (with_entry b e text moment) (record { plans = all; entries = entries; gone = gone; current = current; form = form }) (next + 1)
    archive_more is gone current form entries entries_are = record {
      valid = is;
      config = made.config;
      next_is = ap (λ (n : ℕ). n + 1) made.next_is;
      entries = entries_are ∙ (ap (λ (l : List StoredEntry). l ++ stored_at b.config.form b.entries new ∷ []) made.entries ∙ sym (stored_more b.config.form [] b.entries new));
      parts = part;
      whole = each_record (IsPlanWhole texts) mid line (each_with (IsPlanWhole texts) old.plans e piece made.whole (λ p whole. whole_with_bytes texts p piece whole) (λ none. whole_with_bytes texts (no_plan kind.Epoch e Behind) piece (none_whole texts e))) (λ p whole. whole_with_bytes texts p line whole);
    }

-- One more message is planned at the next place.
module _ (v : StoreState) (old : Planning) (p : NextPlace) (text : List ℕ) (moment : ℕ) (piece : List ℕ) (blob : ObjectId) (stored : StoredEntry) (valid : AreValid old.plans) (place : IsPlaceAfter v.root old p) (small : p.epoch ≤ 63) (long : p.length ≡ length_after v.root old.plans p.epoch) (short : p.length < 2 ^ 62)
    (piece_is : piece ≡ front_at v.root.config.form p.length ++ bytes_after v.root.config.form p.parent (record { kind = Message; text = text; moment = moment })) (blob_is : blob ≡ blob_id_of v.root.config.form text)
    (stored_is : (before : List Entry) → EntriesEndAt v.root.config.form before p → stored ≡ stored_at v.root.config.form before (record { kind = Message; number = v.root.next; epoch = p.epoch; text = text; moment = moment })) (mp : Plan) (map_is : plan_of (plans_with old.plans p.epoch piece) kind.Map 0 ≡ Some mp) where
  abbrev written : EpochEntry
  written = record { kind = Message; text = text; moment = moment }

  abbrev record_line : List ℕ
  record_line = record_bytes (record { number = v.root.next; epoch = p.epoch; blob = blob })

  abbrev all_plans : List Plan
  all_plans = with_record (plans_with old.plans p.epoch piece) record_line

  -- The plans may be carried out.
  pub message_ready : AreValid all_plans → IsReadyPlan v.root old.plans v.root.next → IsReadyPlan v.root all_plans (v.root.next + 1)
  message_ready after ready = ready_more v.root old.plans v.root.next p.epoch piece record_line small room size after ready where
    room : plan_of old.plans kind.Epoch p.epoch ≡ None → (get_or v.root.epochs p.epoch no_place).length < 2 ^ 62
    room none = subst (λ (n : ℕ). n < 2 ^ 62) (long ∙ ap (length_by (get_or v.root.epochs p.epoch no_place).length) none) short

    size : length record_line ≡ record_size v.root.config.form
    size = record_length v.root.config.form (record { number = v.root.next; epoch = p.epoch; blob = blob }) (subst (λ (i : ObjectId). length (id_bytes i) ≡ id_size v.root.config.form) (sym blob_is) (IsObjectId-id_of v.root.config.form (blob_spelling text)).len)

  -- They write the archive with the message.
  pub message_archive : (cache : List ℕ) (a b : Archive) → PlansArchive v.root cache a b old v.root.next → NamesArchive v.root a → AreAnew old.plans → IsArchive (with_entry b (new_epoch b) text moment) → (gone : List ℕ) (current : Option Planned) (form : Form) (entries : List StoredEntry) → entries ≡ old.entries ++ stored ∷ []
      → PlansArchive v.root cache a (with_entry b (new_epoch b) text moment) (record { plans = all_plans; entries = entries; gone = gone; current = current; form = form }) (v.root.next + 1)
  message_archive cache a b made names anew is gone current form entries entries_are =
      subst (λ (e : ℕ). PlansArchive v.root cache a (with_entry b e text moment) (record { plans = all_plans; entries = entries; gone = gone; current = current; form = form }) (v.root.next + 1)) at.0
      (archive_more v.root cache a b old v.root.next made names valid p.epoch text moment piece record_line here_piece (ap (λ (i : ObjectId). record_bytes (record { number = v.root.next; epoch = p.epoch; blob = i })) (blob_is ∙ ap (λ (g : Form). blob_id_of g text) form_is)) mp
      (sym (other_with old.plans p.epoch piece kind.Map 0 (λ k_is n_is. epoch_isnt_map k_is)) ∙ map_is)
      (subst (λ (e : ℕ). IsArchive (with_entry b e text moment)) (sym at.0) is) gone current form entries here_entries) where
        form_is : v.root.config.form ≡ b.config.form
        form_is = ap (λ (c : Config). c.form) (names.config ∙ sym made.config)

        at : (p.epoch ≡ new_epoch b) × (p.length ≡ length (bytes_in b p.epoch)) × (p.parent ≡ last_commit b.config.form None (in_epoch b.entries p.epoch))
        at = place b made.valid (names.config ∙ sym made.config) made.entries (length_is v.root cache a b old v.root.next made names valid anew)

        here_piece : piece ≡ front_at b.config.form (length (bytes_in b p.epoch)) ++ bytes_after b.config.form (last_commit b.config.form None (in_epoch b.entries p.epoch)) written
        here_piece =
            piece_is
            ∙ (ap (λ (g : Form). front_at g p.length ++ bytes_after g p.parent written) form_is
            ∙ (ap (λ (n : ℕ). front_at b.config.form n ++ bytes_after b.config.form p.parent written) at.1 ∙ ap (λ (c : Option ObjectId). front_at b.config.form (length (bytes_in b p.epoch)) ++ bytes_after b.config.form c written) at.2))

        here_entries : entries ≡ old.entries ++ stored_at b.config.form b.entries (message b.next p.epoch text moment) ∷ []
        here_entries =
            entries_are
            ∙ ap (λ (s : StoredEntry). old.entries ++ s ∷ []) (stored_is b.entries (subst (λ (g : Form). EntriesEndAt g b.entries p) (sym form_is) (record { length_is = at.1; parent = at.2 })) ∙ (ap (λ (g : Form). stored_at g b.entries (message v.root.next p.epoch text moment)) form_is ∙ ap (λ (n : ℕ). stored_at b.config.form b.entries (message n p.epoch text moment)) (sym made.next_is)))

-- What is written of a message isn't empty.
piece_some : (form : Form) (at : ℕ) (parent : Option ObjectId) (e : EpochEntry) (piece : List ℕ) → piece ≡ front_at form at ++ bytes_after form parent e → 0 < length piece
piece_some form at parent e piece is =
    let size = ap length is in
    let parts = length-append (front_at form at) (bytes_after form parent e) in
    let own = some_bytes form parent e in
    omega (arith, size, parts, own)

-- So all of it is planned.
pub message_planned : (v : StoreState) (old one two : Planning) (p : NextPlace) (text : List ℕ) (moment : ℕ) (piece : List ℕ) (blob : ObjectId) (stored : StoredEntry) → IsPlaceAfter v.root old p → p.epoch ≤ 63 → p.length ≡ length_after v.root old.plans p.epoch → p.length < 2 ^ 62
    → piece ≡ front_at v.root.config.form p.length ++ bytes_after v.root.config.form p.parent (record { kind = Message; text = text; moment = moment }) → blob ≡ blob_id_of v.root.config.form text
    → ((before : List Entry) → EntriesEndAt v.root.config.form before p → stored ≡ stored_at v.root.config.form before (record { kind = Message; number = v.root.next; epoch = p.epoch; text = text; moment = moment })) → one ≡ record { plans = plans_with old.plans p.epoch piece; entries = old.entries; gone = old.gone; current = old.current; form = old.form } → AreValid old.plans
    → AppendsRecord one (record { number = v.root.next; epoch = p.epoch; blob = blob }) two → AreValid two.plans → (plans : List Plan) (before : List StoredEntry) (gone : List ℕ) (current : Option Planned) (form : Form) → record { plans = plans; entries = before; gone = gone; current = current; form = form } ≡ two
    → (entries : List StoredEntry) → entries ≡ before ++ stored ∷ [] → stored.seen.kind ≡ Message → stored.number ≡ v.root.next → own_id text ≡ Some stored.seen.id → stored.seen.blob ≡ blob_id_of v.root.config.form text → stored.seen.content ≡ content_id_of text → stored.epoch ≡ p.epoch
    → (end_ : ℕ) → EntryLiesIn p.length end_ stored.seen → end_ ≡ p.length + length piece → (LieFrom 0 0 old.entries → AreUpToEpoch p.epoch old.entries)
    → PlansEdit v old text moment (record { plans = plans; entries = entries; gone = gone; current = current; form = form })
message_planned v old one two p text moment piece blob stored place small long short piece_is blob_is stored_is one_is valid appends valid_two plans before gone current form two_is entries entries_are kind_is number_is id_is stored_blob content_is epoch_is end_ lies end_is last =
    let line = record_bytes (record { number = v.root.next; epoch = p.epoch; blob = blob }) in
    let one_plans : one.plans ≡ plans_with old.plans p.epoch piece = ap (λ (q : Planning). q.plans) one_is in
    let two_plans : two.plans ≡ with_record (plans_with old.plans p.epoch piece) line = ap (λ (q : Planning). q.plans) appends.0 ∙ ap (λ (l : List Plan). with_record l line) one_plans in
    let plans_are : plans ≡ with_record (plans_with old.plans p.epoch piece) line = ap (λ (q : Planning). q.plans) two_is ∙ two_plans in
    let before_is : before ≡ old.entries = ap (λ (q : Planning). q.entries) two_is ∙ (ap (λ (q : Planning). q.entries) appends.0 ∙ ap (λ (q : Planning). q.entries) one_is) in
    let all : entries ≡ old.entries ++ stored ∷ [] = entries_are ∙ ap (λ (es : List StoredEntry). es ++ stored ∷ []) before_is in
    let own_is : plan_of plans kind.Epoch stored.epoch ≡ Some (with_bytes (unwrap_or (plan_of old.plans kind.Epoch stored.epoch) (no_plan kind.Epoch stored.epoch Behind)) piece) =
    subst (λ (e : ℕ). plan_of plans kind.Epoch e ≡ Some (with_bytes (unwrap_or (plan_of old.plans kind.Epoch e) (no_plan kind.Epoch e Behind)) piece)) (sym epoch_is)
    (ap (λ (l : List Plan). plan_of l kind.Epoch p.epoch) plans_are ∙ (other_record (plans_with old.plans p.epoch piece) line kind.Epoch p.epoch (λ k_is n_is. epoch_isnt_map (sym k_is)) ∙ here_with old.plans p.epoch piece)) in
    let others_are : (e : ℕ) → e ≢ stored.epoch → plan_of plans kind.Epoch e ≡ plan_of old.plans kind.Epoch e = λ e apart.
    ap (λ (l : List Plan). plan_of l kind.Epoch e) plans_are
    ∙ (other_record (plans_with old.plans p.epoch piece) line kind.Epoch e (λ k_is n_is. epoch_isnt_map (sym k_is)) ∙ other_with old.plans p.epoch piece kind.Epoch e (λ k_is n_is. apart (n_is ∙ sym epoch_is))) in
    let map_is : plan_of (plans_with old.plans p.epoch piece) kind.Map 0 ≡ Some appends.1.0 = ap (λ (l : List Plan). plan_of l kind.Map 0) (sym one_plans) ∙ appends.1.1 in
    record {
      entry = stored;
      entries = all;
      kind_is = kind_is;
      number = number_is;
      id = id_is;
      blob = stored_blob;
      content = content_is;
      small = omega (arith, epoch_is, small);
      piece = piece;
      some = piece_some v.root.config.form p.length p.parent (record { kind = Message; text = text; moment = moment }) piece piece_is;
      own = own_is;
      others = others_are;
      ready = λ ready.
          subst (λ (l : List Plan). IsReadyPlan v.root l (v.root.next + 1)) (sym plans_are)
          (message_ready v old p text moment piece blob stored valid place small long short piece_is blob_is stored_is appends.1.0 map_is (subst AreValid two_plans valid_two) ready);
      named = λ anew named.
          let long_is : p.length ≡ length_planned v.root old.plans stored.epoch = long ∙ (after_planned v.root old.plans p.epoch anew ∙ ap (length_planned v.root old.plans) (sym epoch_is)) in
          let last_is : LieFrom 0 0 old.entries → AreUpToEpoch stored.epoch old.entries = λ lie. subst (λ (n : ℕ). AreUpToEpoch n old.entries) (sym epoch_is) (last lie) in
          subst (λ (es : List StoredEntry). AreNamedAfter v.root plans es) (sym all) (planned_more v.root old.plans plans old.entries stored piece p.length end_ own_is others_are long_is end_is last_is lies named);
      archive = λ cache a b made names anew is.
          subst (λ (l : List Plan). PlansArchive v.root cache a (with_entry b (new_epoch b) text moment) (record { plans = l; entries = entries; gone = gone; current = current; form = form }) (v.root.next + 1)) (sym plans_are)
          (message_archive v old p text moment piece blob stored valid place small long short piece_is blob_is stored_is appends.1.0 map_is cache a b made names anew is gone current form entries all);
    }
