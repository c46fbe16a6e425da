-- A new entry of an adoption, after what is planned of the epochs.
use Rattle.std.specs.Prelude.{◌≡◌, ◌≢◌, ◌+◌, ◌^◌, ◌<◌, ◌≤◌, ℕ, List, [], ◌∷◌, ◌++◌, length, Option, Some, None, unwrap_or, refl}
use Rattle.std.proofs.Common.{◌∙◌, sym, ap, subst, inl, inr, arith, length-append}
use Rattle.arch_base.specs.declared.config.Config.{Config}
use Rattle.arch_base.specs.declared.ids.Form.{Form}
use Rattle.arch_base.specs.declared.ids.ObjectId.{ObjectId}
use Rattle.disk_model.specs.declared.name.FileKind.TheVariants as kind
use Rattle.git_objects.specs.Objects.{blob_id_of}
use Rattle.mail_reader.specs.Content.{content_id_of}
use Rattle.mail_reader.specs.Ids.{own_id}
use Rattle.root_slots.specs.declared.root.Root.{Root}
use Rattle.root_change.specs.declared.plan.Target.{Target}
use Rattle.root_change.specs.declared.plan.Target.TheVariants.{Anew, Behind}
use Rattle.root_change.specs.Parts.{texts_of}
use Rattle.root_change.specs.Rewriting.{Plan, IsPlanWhole, bytes_by, no_plan, plan_count, plan_of, planned, with_bytes, written_by}
use Rattle.root_change.specs.Texts.{Texts}
use Rattle.root_change.proofs.PlanParts.{found}
use Rattle.root_change.proofs.Plans.{written_long}
use Rattle.root_change.proofs.Pushes.{whole_with_bytes}
use Rattle.root_change.proofs.Roots.{equal_or_not}
use Rattle.arch_model.specs.Archives.{Entry, Archive, in_epoch}
use Rattle.arch_model.specs.Epochs.{epoch_bytes, last_commit}
use Rattle.arch_model.specs.declared.line.EntryLine.{EntryLine}
use Rattle.epoch_file.specs.Appending.{front_at}
use Rattle.epoch_file.specs.Entries.{EpochEntry, bytes_after}
use Rattle.epoch_file.specs.Lying.{EntryLiesIn}
use Rattle.store_finding.specs.Damage.{named_length}
use Rattle.store_finding.specs.Extents.{AreNamedAfter, AreUpToEpoch, length_planned}
use Rattle.store_finding.specs.Kept.{stored_after, stored_at}
use Rattle.store_finding.specs.Recovery.{NamesArchive, bytes_in, parts_of}
use Rattle.store_finding.specs.declared.entries.StoredEntry.{StoredEntry}
use Rattle.store_finding.proofs.Growing.{bytes_here, bytes_other, stored_more}
use Rattle.store_planning.specs.Epochs.{AreEpochsReady, IsParentIn, PlansEpochs}
use Rattle.store_planning.specs.Planning.{AreValid, Planning, plans_with}
use Rattle.store_planning.proofs.Messaged.{carry_with, each_with, epoch_isnt_map, here_with, other_with}
use Rattle.store_planning.proofs.PlannedExtents.{anew_planned, none_planned}
use Rattle.epoch_store.specs.AdoptedLines.{PlansLine, end_at, end_by, end_if}
use Rattle.epoch_store.specs.Adopting.{entry_of_line}
use Rattle.epoch_store.specs.Commands.{EntriesEndAt}
use Rattle.epoch_store.proofs.EntryExtents.{behind_planned, planned_more}
use Rattle.epoch_store.proofs.MorePlanned.{none_whole, option_more}

-- The number of bytes of an epoch after its plan.
planned_end_is : (root : Root) (plans : List Plan) (e : ℕ) (q : Plan) → plan_of plans kind.Epoch e ≡ Some q → end_by (named_length root e) q ≡ length_planned root plans e
planned_end_is root plans e q is = by q.target refl where
  by : (t : Target) → q.target ≡ t → end_at q.target (named_length root e) (plan_count q) ≡ length_planned root plans e
  by Anew target = ap (λ (t : Target). end_at t (named_length root e) (plan_count q)) target ∙ sym (anew_planned root plans e q is target)
  by Behind target = ap (λ (t : Target). end_at t (named_length root e) (plan_count q)) target ∙ sym (behind_planned root plans e q is target)

pub end_long : (root : Root) (plans : List Plan) (e : ℕ) → end_if (named_length root e) (plan_of plans kind.Epoch e) ≡ length_planned root plans e
end_long root plans e = by (plan_of plans kind.Epoch e) refl where
  by : (o : Option Plan) → plan_of plans kind.Epoch e ≡ o → end_if (named_length root e) (plan_of plans kind.Epoch e) ≡ length_planned root plans e
  by None none = ap (end_if (named_length root e)) none ∙ sym (none_planned root plans e none)
  by (Some q) some = ap (end_if (named_length root e)) some ∙ planned_end_is root plans e q some

-- It is that of the entries that are planned.
module _ (root : Root) (cache : List ℕ) (a : Archive) (es : List Entry) (p : Planning) (names : NamesArchive root a) (plans : PlansEpochs root cache a es p) where
  abbrev texts : Texts
  texts = texts_of root (parts_of a cache)

  pub epoch_long : (e : ℕ) → e < 64 → length_planned root p.plans e ≡ length (epoch_bytes a.config.form (in_epoch es e))
  epoch_long e below = by (plan_of p.plans kind.Epoch e) refl where
    part : (o : Option Plan) → plan_of p.plans kind.Epoch e ≡ o → planned texts o (bytes_in a e) ≡ epoch_bytes a.config.form (in_epoch es e)
    part o is = ap (λ (x : Option Plan). planned texts x (bytes_in a e)) (sym is) ∙ plans.parts e

    by_target : (q : Plan) → plan_of p.plans kind.Epoch e ≡ Some q → (t : Target) → q.target ≡ t → length_planned root p.plans e ≡ length (epoch_bytes a.config.form (in_epoch es e))
    by_target q is Anew target =
        let there = found p.plans kind.Epoch e q is in
        let written : planned texts (Some q) (bytes_in a e) ≡ written_by texts q = ap (λ (t : Target). bytes_by t (bytes_in a e) (written_by texts q)) target in
        anew_planned root p.plans e q is target ∙ (sym (written_long texts q (plans.whole there.index q there.here)) ∙ ap length (sym written ∙ part (Some q) is))
    by_target q is Behind target =
        let there = found p.plans kind.Epoch e q is in
        let written : planned texts (Some q) (bytes_in a e) ≡ bytes_in a e ++ written_by texts q = ap (λ (t : Target). bytes_by t (bytes_in a e) (written_by texts q)) target in
        let size = length-append (bytes_in a e) (written_by texts q) in
        let long = written_long texts q (plans.whole there.index q there.here) in
        let own = names.epochs e below in
        let is_long = behind_planned root p.plans e q is target in
        let whole : length (bytes_in a e ++ written_by texts q) ≡ length (epoch_bytes a.config.form (in_epoch es e)) = ap length (sym written ∙ part (Some q) is) in
        omega (arith, size, long, own, is_long, whole)

    by : (o : Option Plan) → plan_of p.plans kind.Epoch e ≡ o → length_planned root p.plans e ≡ length (epoch_bytes a.config.form (in_epoch es e))
    by None is = none_planned root p.plans e is ∙ (names.epochs e below ∙ ap length (part None is))
    by (Some q) is = by_target q is q.target refl

-- One more entry: its bytes follow those of its epoch.
module _ (root : Root) (old : Planning) (line : EntryLine) (text : List ℕ) (parent : Option ObjectId) (long : ℕ) (piece : List ℕ) (stored : StoredEntry) (end_ : ℕ)
    (low : line.epoch ≤ 63) (later : AreUpToEpoch line.epoch old.entries) (ready : AreEpochsReady root old) (long_is : long ≡ length_planned root old.plans line.epoch) (short : long < 2 ^ 62) (parent_is : IsParentIn old.entries line.epoch parent)
    (piece_is : piece ≡ front_at root.config.form long ++ bytes_after root.config.form parent (record { kind = line.kind; text = text; moment = line.secs }))
    (stored_is : (before : List Entry) → EntriesEndAt root.config.form before (record { epoch = line.epoch; generation = 0; length = long; parent = parent }) → stored ≡ stored_at root.config.form before (entry_of_line line text))
    (valid : AreValid old.plans) (valid_new : AreValid (plans_with old.plans line.epoch piece)) (epoch_is : stored.epoch ≡ line.epoch) (lies : EntryLiesIn long end_ stored.seen) (end_is : end_ ≡ long + length piece) where
  abbrev all : List Plan
  all = plans_with old.plans line.epoch piece

  abbrev more : Planning
  more = record { plans = all; entries = old.entries ++ stored ∷ []; gone = old.gone; current = old.current; form = old.form }

  named : AreNamedAfter root all (old.entries ++ stored ∷ [])
  named =
      let own : plan_of all kind.Epoch stored.epoch ≡ Some (with_bytes (unwrap_or (plan_of old.plans kind.Epoch stored.epoch) (no_plan kind.Epoch stored.epoch Behind)) piece) =
      subst (λ (e : ℕ). plan_of all kind.Epoch e ≡ Some (with_bytes (unwrap_or (plan_of old.plans kind.Epoch e) (no_plan kind.Epoch e Behind)) piece)) (sym epoch_is) (here_with old.plans line.epoch piece) in
      planned_more root old.plans all old.entries stored piece long end_ own (λ e apart. other_with old.plans line.epoch piece kind.Epoch e (λ k_is n_is. apart (n_is ∙ sym epoch_is)))
      (long_is ∙ ap (length_planned root old.plans) (sym epoch_is)) end_is (λ lie. subst (λ (n : ℕ). AreUpToEpoch n old.entries) (sym epoch_is) later) lies ready.named

  pub line_ready : AreEpochsReady root more
  line_ready = record {
    may = carry_with root old.plans line.epoch piece low
        (λ none. (let is : named_length root line.epoch ≡ long = sym (none_planned root old.plans line.epoch none) ∙ sym long_is in subst (λ (n : ℕ). n < 2 ^ 62) (sym is) short)) valid_new ready.may;
    no_map = λ n. other_with old.plans line.epoch piece kind.Map n (λ k_is n_is. epoch_isnt_map k_is) ∙ ready.no_map n;
    named = named;
  }

  module _ (cache : List ℕ) (a : Archive) (es : List Entry) (names : NamesArchive root a) (plans : PlansEpochs root cache a es old) where
    abbrev now_texts : Texts
    now_texts = texts_of root (parts_of a cache)

    -- The entries so far as an archive.
    abbrev b : Archive
    b = record { config = a.config; entries = es; next = 0 }

    abbrev new : Entry
    new = entry_of_line line text

    form_is : root.config.form ≡ a.config.form
    form_is = ap (λ (c : Config). c.form) names.config

    now_long : long ≡ length (bytes_in b line.epoch)
    now_long = long_is ∙ epoch_long root cache a es old names plans line.epoch (omega (arith, low))

    now_parent : parent ≡ last_commit a.config.form None (in_epoch es line.epoch)
    now_parent = parent_is a.config.form es plans.entries ready.named.lie later

    now_piece : piece ≡ front_at b.config.form (length (bytes_in b line.epoch)) ++ bytes_after b.config.form (last_commit b.config.form None (in_epoch b.entries line.epoch)) (record { kind = line.kind; text = text; moment = line.secs })
    now_piece =
        let e : EpochEntry = record { kind = line.kind; text = text; moment = line.secs } in
        piece_is
        ∙ (ap (λ (g : Form). front_at g long ++ bytes_after g parent e) form_is
        ∙ (ap (λ (n : ℕ). front_at b.config.form n ++ bytes_after b.config.form parent e) now_long ∙ ap (λ (c : Option ObjectId). front_at b.config.form (length (bytes_in b line.epoch)) ++ bytes_after b.config.form c e) now_parent))

    now_stored : stored ≡ stored_at a.config.form es new
    now_stored =
        stored_is es (record { length_is = now_long ∙ ap (λ (g : Form). length (epoch_bytes g (in_epoch es line.epoch))) (sym form_is); parent = now_parent ∙ ap (λ (g : Form). last_commit g None (in_epoch es line.epoch)) (sym form_is) })
        ∙ ap (λ (g : Form). stored_at g es new) form_is

    here : planned now_texts (plan_of all kind.Epoch line.epoch) (bytes_in a line.epoch) ≡ epoch_bytes a.config.form (in_epoch (es ++ new ∷ []) line.epoch)
    here =
        ap (λ (o : Option Plan). planned now_texts o (bytes_in a line.epoch)) (here_with old.plans line.epoch piece)
        ∙ (option_more now_texts old.plans valid line.epoch (plan_of old.plans kind.Epoch line.epoch) (bytes_in a line.epoch) piece refl
        ∙ (ap (λ (l : List ℕ). l ++ piece) (plans.parts line.epoch) ∙ (ap (λ (l : List ℕ). bytes_in b line.epoch ++ l) now_piece ∙ sym (bytes_here b new))))

    elsewhere : (n : ℕ) → n ≢ line.epoch → planned now_texts (plan_of all kind.Epoch n) (bytes_in a n) ≡ epoch_bytes a.config.form (in_epoch (es ++ new ∷ []) n)
    elsewhere n apart =
        ap (λ (o : Option Plan). planned now_texts o (bytes_in a n)) (other_with old.plans line.epoch piece kind.Epoch n (λ k_is n_is. apart n_is))
        ∙ (plans.parts n ∙ sym (bytes_other b new n (λ is. apart (sym is))))

    pub line_archive : PlansEpochs root cache a (es ++ new ∷ []) more
    line_archive = record {
      entries = ap (λ (l : List StoredEntry). l ++ stored ∷ []) plans.entries ∙ (ap (λ (s : StoredEntry). stored_after a.config.form [] es ++ s ∷ []) now_stored ∙ sym (stored_more a.config.form [] es new));
      parts = λ n. elim (equal_or_not n line.epoch) [
        | inl is ↦ subst (λ (m : ℕ). planned now_texts (plan_of all kind.Epoch m) (bytes_in a m) ≡ epoch_bytes a.config.form (in_epoch (es ++ new ∷ []) m)) (sym is) here
        | inr apart ↦ elsewhere n apart
      ];
      map = λ n. other_with old.plans line.epoch piece kind.Map n (λ k_is n_is. epoch_isnt_map k_is) ∙ plans.map n;
      whole = each_with (IsPlanWhole now_texts) old.plans line.epoch piece plans.whole (λ p whole. whole_with_bytes now_texts p piece whole) (λ none. whole_with_bytes now_texts (no_plan kind.Epoch line.epoch Behind) piece (none_whole now_texts line.epoch));
    }

  pub line_planned : (made : Planning) → made ≡ more → stored.seen.kind ≡ line.kind → stored.number ≡ line.number → stored.seen.moment ≡ line.secs → stored.seen.blob ≡ blob_id_of root.config.form text → own_id text ≡ Some stored.seen.id → stored.seen.content ≡ content_id_of text → PlansLine root old line text made
  line_planned made is kind_is number_is moment_is blob_is id_is content_is = subst (PlansLine root old line text) (sym is) (record {
    added = record { stored = stored; entries = refl; kind = kind_is; number = number_is; epoch = epoch_is; moment = moment_is; blob = blob_is; id = id_is; content = content_is };
    current = refl;
    ready = line_ready;
    archive = λ cache a es names plans. line_archive cache a es names plans;
  })
