-- The plans of a whole archive without the entries of a text.
use Rattle.std.specs.Prelude.{◌≡◌, ◌≢◌, ◌+◌, ◌-◌, ◌*◌, ◌<◌, ◌≤◌, ◌==◌, not, ℕ, zero, suc, Bool, true, false, ◌&&◌, ◌||◌, if◌then◌else◌, List, [], ◌∷◌, ◌++◌, length, map, take, slice_get, Option, Some, None, refl}
use Rattle.std.specs.List.{filter, flat_map}
use Rattle.std.specs.Str.{bytes_eq}
use Rattle.std.proofs.Common.{◌∙◌, sym, ap, subst, inl, inr, arith}
use Rattle.std.proofs.Math.Seq.{take-length}
use Rattle.std.proofs.lemmas.Bool.{cases_lt}
use Rattle.std.proofs.lemmas.Bool.Decides.{nat_tests}
use Rattle.arch_base.specs.declared.ids.Form.{Form}
use Rattle.disk_model.specs.Name.{kind_index}
use Rattle.disk_model.specs.declared.name.FileKind.{FileKind}
use Rattle.disk_model.specs.declared.name.FileKind.TheVariants as kind
use Rattle.disk_model.specs.declared.name.FileName.{FileName}
use Rattle.disk_model.specs.Disk.{Content}
use Rattle.disk_model.specs.Sizes.{record_size}
use Rattle.root_slots.specs.declared.root.Root.{Root}
use Rattle.root_slots.specs.RootName.{root_name}
use Rattle.root_change.specs.declared.plan.Target.{Target}
use Rattle.root_change.specs.declared.sources.Source.{Source}
use Rattle.root_change.specs.declared.sources.Source.TheVariants.{Bytes, Range}
use Rattle.root_change.specs.Copying.{range_of}
use Rattle.root_change.specs.Parts.{texts_of}
use Rattle.root_change.specs.Rewriting.{Plan, IsPartToPlan, IsPlanFrom, IsPlanWhole, IsSourceFrom, IsWholeIn, bytes_by, file_by, gathered_text, plan_of, planned, rewritten, source_text, written_by}
use Rattle.root_change.specs.Texts.{Texts}
use Rattle.root_change.proofs.Changes.{text_named}
use Rattle.root_change.proofs.Grown.{map_isnt_root, map_is_named}
use Rattle.root_change.proofs.PlanParts.{found, is_of_own, of_more, of_others, other_part}
use Rattle.root_change.proofs.Roots.{other_test, same_test}
use Rattle.number_map.specs.Records.{record_bytes}
use Rattle.number_map.specs.Rewriting.{PlansMap, is_among, map_without, none_record, record_without}
use Rattle.number_map.specs.declared.line.Record.{Record}
use Rattle.number_map.specs.Walks.{BeginsWithRecords}
use Rattle.git_objects.specs.declared.entry_kind.EntryKind.{EntryKind}
use Rattle.git_objects.specs.declared.entry_kind.EntryKind.TheVariants.{Message, Deletion}
use Rattle.arch_model.specs.Archives.{Entry, Archive, in_epoch, is_message, messages, without_text, without_entries}
use Rattle.arch_model.specs.Delivery.{last_epoch}
use Rattle.arch_model.specs.Epochs.{epoch_bytes}
use Rattle.arch_model.specs.Validity.{IsArchive}
use Rattle.arch_model.proofs.Purging.{Climbs, messages_climb, messages_kept}
use Rattle.arch_model.proofs.ValidArchives.{all_weaker, none_later}
use Rattle.epoch_file.specs.Planning.{Planned, texts_in}
use Rattle.store_finding.specs.Files.{map_file_of}
use Rattle.store_planning.specs.Planning.{AreFrom, ClosesLast, FinishesPlans, IsCurrent, IsKeptUpTo, IsPlannedUpTo, Planning, PlansWithout, gone_of, without_current}
use Rattle.store_finding.specs.Recovery.{bytes_in, entry_of, map_bytes, parts_of, record_for, records_from, records_of}
use Rattle.store_finding.specs.Kept.{StoreState, IsDiskWith, stored_after}
use Rattle.store_finding.proofs.Mapped.{map_length, records_few, records_valid}
use Rattle.store_planning.proofs.Planned.{IsShut, each_plan, in_epoch_none, of_first, planned_none, shut}
use Rattle.store_planning.proofs.Taking.{closed_gone}

-- Numbers of the messages that are gone, of messages alone.
abbrev nums : List Entry → List ℕ → List ℕ
nums [] text = []
nums (e ∷ es) text = if bytes_eq text e.text then e.number ∷ nums es text else nums es text

abbrev kept_of : List Entry → List ℕ → List Entry
kept_of es text = filter (λ (e : Entry). not (bytes_eq text e.text)) es

nums_step : (k : EntryKind) (t : Bool) (e : Entry) (g : List ℕ) (ms : List Entry) (text : List ℕ) → bytes_eq text e.text ≡ t → g ≡ nums ms text → (if is_message k && t then e.number ∷ g else g) ≡ nums (if is_message k then e ∷ ms else ms) text
nums_step Message true e g ms text is rest = ap (λ (l : List ℕ). e.number ∷ l) rest ∙ ap (λ (b : Bool). if b then e.number ∷ nums ms text else nums ms text) (sym is)
nums_step Message false e g ms text is rest = rest ∙ ap (λ (b : Bool). if b then e.number ∷ nums ms text else nums ms text) (sym is)
nums_step Deletion t e g ms text is rest = rest

gone_is : (es : List Entry) (text : List ℕ) → gone_of es text ≡ nums (messages es) text
gone_is [] text = refl
gone_is (e ∷ es) text = nums_step e.kind (bytes_eq text e.text) e (gone_of es text) (messages es) text refl (gone_is es text)

-- Where numbers rise, none is found above.
found_step : (t : Bool) (e : Entry) (o : Option Entry) (n : ℕ) → (e.number == n) ≡ t → n < e.number → o ≡ None → (if t then Some e else o) ≡ None
found_step true e o n test less rest = absurd (let is : e.number ≡ n = grind (arith, nat_tests, test) in omega (arith, is, less))
found_step false e o n test less rest = rest

none_above : (es : List Entry) (low n : ℕ) → n < low → Climbs low es → entry_of es n ≡ None
none_above [] low n less climbs = refl
none_above (e ∷ es) low n less climbs =
    let at : low ≤ e.number = climbs.0 in
    found_step (e.number == n) e (entry_of es n) n refl (omega (arith, at, less)) (none_above es (e.number + 1) n (omega (arith, at, less)) climbs.1)

keeps_step : (t : Bool) (e : Entry) (es : List Entry) (n : ℕ) → n < e.number → entry_of es n ≡ None → entry_of (if t then e ∷ es else es) n ≡ None
keeps_step true e es n less rest = found_step (e.number == n) e (entry_of es n) n refl less rest
keeps_step false e es n less rest = rest

none_kept : (es : List Entry) (text : List ℕ) (low n : ℕ) → n < low → Climbs low es → entry_of (kept_of es text) n ≡ None
none_kept [] text low n less climbs = refl
none_kept (e ∷ es) text low n less climbs =
    let at : low ≤ e.number = climbs.0 in
    keeps_step (not (bytes_eq text e.text)) e (kept_of es text) n (omega (arith, at, less)) (none_kept es text (e.number + 1) n (omega (arith, at, less)) climbs.1)

or_false : (a b : Bool) → a ≡ false → b ≡ false → (a || b) ≡ false
or_false a b one two = ap (λ (c : Bool). c || b) one ∙ two

among_step : (t : Bool) (m : ℕ) (ns : List ℕ) (n : ℕ) → n < m → is_among ns n ≡ false → is_among (if t then m ∷ ns else ns) n ≡ false
among_step true m ns n less rest = or_false (m == n) (is_among ns n) (other_test m n (λ is. absurd (omega (arith, is, less)))) rest
among_step false m ns n less rest = rest

not_among : (es : List Entry) (text : List ℕ) (low n : ℕ) → n < low → Climbs low es → is_among (nums es text) n ≡ false
not_among [] text low n less climbs = refl
not_among (e ∷ es) text low n less climbs =
    let at : low ≤ e.number = climbs.0 in
    among_step (bytes_eq text e.text) e.number (nums es text) n (omega (arith, at, less)) (not_among es text (e.number + 1) n (omega (arith, at, less)) climbs.1)

-- The record of a number without the messages that are gone.
abbrev record_of : Form → List ℕ → ℕ → Option Entry → Record
record_of form gone n found_ = if is_among gone n then none_record form n else record_for form n found_

record_step : (form : Form) (t u : Bool) (e : Entry) (es : List Entry) (text : List ℕ) (n : ℕ) → bytes_eq text e.text ≡ t → (e.number == n) ≡ u → Climbs (e.number + 1) es → record_of form (nums es text) n (entry_of es n) ≡ record_for form n (entry_of (kept_of es text) n)
    → record_of form (if t then e.number ∷ nums es text else nums es text) n (if u then Some e else entry_of es n) ≡ record_for form n (entry_of (if not t then e ∷ kept_of es text else kept_of es text) n)
record_step form true true e es text n is test climbs rest =
    let same : e.number ≡ n = grind (arith, nat_tests, test) in
    ap (λ (b : Bool). if b || is_among (nums es text) n then none_record form n else record_for form n (Some e)) test
    ∙ ap (record_for form n) (sym (none_kept es text (e.number + 1) n (omega (arith, same)) climbs))
record_step form true false e es text n is test climbs rest = ap (λ (b : Bool). if b || is_among (nums es text) n then none_record form n else record_for form n (entry_of es n)) test ∙ rest
record_step form false true e es text n is test climbs rest =
    let same : e.number ≡ n = grind (arith, nat_tests, test) in
    ap (λ (b : Bool). if b then none_record form n else record_for form n (Some e)) (not_among es text (e.number + 1) n (omega (arith, same)) climbs)
    ∙ ap (λ (b : Bool). record_for form n (if b then Some e else entry_of (kept_of es text) n)) (sym test)
record_step form false false e es text n is test climbs rest = rest ∙ ap (λ (b : Bool). record_for form n (if b then Some e else entry_of (kept_of es text) n)) (sym test)

record_same : (form : Form) (es : List Entry) (text : List ℕ) (low n : ℕ) → Climbs low es → record_of form (nums es text) n (entry_of es n) ≡ record_for form n (entry_of (kept_of es text) n)
record_same form [] text low n climbs = refl
record_same form (e ∷ es) text low n climbs = record_step form (bytes_eq text e.text) (e.number == n) e es text n refl refl climbs.1 (record_same form es text (e.number + 1) n climbs.1)

numbered : (form : Form) (n : ℕ) (o : Option Entry) → (record_for form n o).number ≡ n
numbered form n None = refl
numbered form n (Some e) = refl

record_is : (form : Form) (gone : List ℕ) (n : ℕ) (o : Option Entry) → record_without form gone (record_for form n o) ≡ record_of form gone n o
record_is form gone n None = refl
record_is form gone n (Some e) = refl

records_same : (form : Form) (gone : List ℕ) (es fs : List Entry) (n count : ℕ) → ((m : ℕ) → record_of form gone m (entry_of es m) ≡ record_for form m (entry_of fs m)) → map (record_without form gone) (records_from form es n count) ≡ records_from form fs n count
records_same form gone es fs n zero each = refl
records_same form gone es fs n (suc count) each = λ i. (record_is form gone n (entry_of es n) ∙ each n) i ∷ records_same form gone es fs (n + 1) count each i

-- The map without the messages that are gone is that of the archive without their text.
pub map_same : (a : Archive) (text : List ℕ) → IsArchive a → map_without a.config.form (gone_of a.entries text) (records_of a) ≡ map_bytes (without_entries a text)
map_same a text valid =
    let form = a.config.form in
    let ms = messages a.entries in
    let climbs = messages_climb 1 0 a.entries valid.order in
    let kept : kept_of ms text ≡ messages (without_text a.entries text) = sym (messages_kept (λ (t : List ℕ). not (bytes_eq text t)) a.entries) in
    let each : (m : ℕ) → record_of form (gone_of a.entries text) m (entry_of ms m) ≡ record_for form m (entry_of (messages (without_text a.entries text)) m) =
    λ m. ap (λ (g : List ℕ). record_of form g m (entry_of ms m)) (gone_is a.entries text) ∙ (record_same form ms text 1 m climbs ∙ ap (λ (l : List Entry). record_for form m (entry_of l m)) kept) in
    ap (flat_map record_bytes) (records_same form (gone_of a.entries text) ms (messages (without_text a.entries text)) 1 (a.next - 1) each)

-- What a plan of one file writes depends on that file alone.
source_same : (bytes : List ℕ) (t u : Texts) (file : FileName) (s : Source) → u file ≡ t file → IsSourceFrom file s → source_text bytes u s ≡ source_text bytes t s
source_same bytes t u file (Bytes offset count) same own = refl
source_same bytes t u file (Range range) same own = ap (λ (b : List ℕ). range_of b range.offset range.count) (ap u own ∙ (same ∙ ap t (sym own)))

gathered_same : (bytes : List ℕ) (t u : Texts) (file : FileName) (ss : List Source) → u file ≡ t file → ((i : ℕ) (s : Source) → slice_get ss i ≡ Some s → IsSourceFrom file s) → gathered_text bytes u ss ≡ gathered_text bytes t ss
gathered_same bytes t u file [] same own = refl
gathered_same bytes t u file (s ∷ ss) same own = λ i. source_same bytes t u file s same (own zero s refl) i ++ gathered_same bytes t u file ss same (λ j r here. own (suc j) r here) i

pub written_same : (t u : Texts) (file : FileName) (p : Plan) → u file ≡ t file → IsPlanFrom file p → written_by u p ≡ written_by t p
written_same t u file p same own = gathered_same p.bytes t u file p.sources same own

whole_source : (bytes : List ℕ) (t u : Texts) (file : FileName) (s : Source) → u file ≡ t file → IsSourceFrom file s → IsWholeIn bytes u s → IsWholeIn bytes t s
whole_source bytes t u file (Bytes offset count) same own whole = whole
whole_source bytes t u file (Range range) same own whole = subst (λ (b : List ℕ). range.offset + range.count ≤ length b) (ap u own ∙ (same ∙ ap t (sym own))) whole

pub whole_same : (t u : Texts) (file : FileName) (p : Plan) → u file ≡ t file → IsPlanFrom file p → IsPlanWhole u p → IsPlanWhole t p
whole_same t u file p same own whole = λ i s here. whole_source p.bytes t u file s same (own i s here) (whole i s here)

-- The file of a part that may be planned isn't the root file.
pub part_isnt_root : (root : Root) (k : FileKind) (n : ℕ) → IsPartToPlan k n → file_by root k n ≢ root_name
part_isnt_root root kind.Root n part = absurd part
part_isnt_root root kind.Cache n part = absurd part
part_isnt_root root kind.Map n part = λ is. (let wrong : kind_index kind.Map ≡ kind_index root_name.kind = ap (λ (f : FileName). kind_index f.kind) is in absurd (omega (arith, wrong)))
part_isnt_root root kind.Epoch n part = λ is. (let wrong : kind_index kind.Epoch ≡ kind_index root_name.kind = ap (λ (f : FileName). kind_index f.kind) is in absurd (omega (arith, wrong)))

pub by_plan : (t u : Texts) (root : Root) (plans : List Plan) (k : FileKind) (n : ℕ) (o : Option Plan) (before : List ℕ) → plan_of plans k n ≡ o → AreFrom root plans → ((name : FileName) → name ≢ root_name → u name ≡ t name) → planned u o before ≡ planned t o before
by_plan t u root plans k n None before is from same = refl
by_plan t u root plans k n (Some p) before is from same =
    let there = found plans k n p is in
    let own = from there.index p there.here in
    ap (bytes_by p.target before) (written_same t u (file_by root p.kind p.number) p (same (file_by root p.kind p.number) (part_isnt_root root p.kind p.number own.0)) own.1)

-- The last epoch was closed: each is planned with the entries that stay.
module _ (k : Content) (v : StoreState) (cache : List ℕ) (a : Archive) (kept : List Entry) (old : Planning) (up : IsKeptUpTo (texts_in k) v.root a a.entries kept old) where
  by_current : (current : Option Planned) → IsCurrent a.config.form (texts_in k) v.root a.entries kept current → (mid : Planning) → ClosesLast old current mid → IsShut (texts_in k) a a.entries kept mid
  by_current None none mid is = subst (IsShut (texts_in k) a a.entries kept) (sym is) (record {
    entries = up.entries;
    before = λ x most.
        let zero_is : last_epoch a.entries ≡ 0 = ap last_epoch none in
        let empty : in_epoch a.entries x ≡ [] = ap (λ (l : List Entry). in_epoch l x) none in
        planned_none (texts_in k) (plan_of old.plans kind.Epoch x) (bytes_in a x) (up.after x (omega (arith, zero_is)))
        ∙ (ap (epoch_bytes a.config.form) empty ∙ ap (epoch_bytes a.config.form) (sym (up.among x empty)));
    after = λ x high. up.after x (omega (arith, high));
    map = up.map;
    whole = up.whole;
    own_form = up.form;
  })
  by_current (Some c) current mid closes = shut (texts_in k) v.root a a.entries kept old up c current (λ x low. refl) closes.0 closes.1 closes.2 mid closes.3

  pub all_shut : (mid : Planning) → ClosesLast old old.current mid → IsShut (texts_in k) a a.entries kept mid
  all_shut mid closes = by_current old.current up.current mid closes

  pub epochs_shut : (mid : Planning) → ClosesLast old old.current mid → (n : ℕ) → planned (texts_in k) (plan_of mid.plans kind.Epoch n) (bytes_in a n) ≡ epoch_bytes a.config.form (in_epoch kept n)
  epochs_shut mid closes n = (let shut_so = all_shut mid closes in elim (cases_lt (last_epoch a.entries) n) [
    | inl above ↦
        let none = in_epoch_none a.entries n (all_weaker (λ (f : Entry). f.epoch ≤ last_epoch a.entries) (λ (f : Entry). f.epoch ≢ n) a.entries (λ f low same. absurd (omega (arith, low, same, above))) (none_later a.entries)) in
        planned_none (texts_in k) (plan_of mid.plans kind.Epoch n) (bytes_in a n) (shut_so.after n above)
        ∙ (ap (epoch_bytes a.config.form) none ∙ ap (epoch_bytes a.config.form) (sym (up.among n none)))
    | inr most ↦ shut_so.before n (omega (arith, most))
  ])

-- Closing leaves the numbers of messages that are gone.
last_gone : (old : Planning) (current : Option Planned) (mid : Planning) → ClosesLast old current mid → mid.gone ≡ old.gone
last_gone old None mid is = ap (λ (p : Planning). p.gone) is
last_gone old (Some c) mid closes = closed_gone (without_current old) closes.0 mid closes.3

-- A text was left out.
module _ (k : Content) (v : StoreState) (cache : List ℕ) (a : Archive) (own : IsDiskWith v cache a k) (text : List ℕ) (old : Planning) (up : IsPlannedUpTo (texts_in k) v.root a a.entries text old) where
  -- So each part is that of the archive without the text.
  module _ (map : FileName) (map_is : map ≡ map_file_of v.root) (count : ℕ) (count_is : count ≡ v.root.next - 1) (new : Planning) (finishes : FinishesPlans old map count new) (from : AreFrom v.root new.plans) where
    abbrev mid : Planning
    mid = finishes.0

    shut_so : IsShut (texts_in k) a a.entries (without_text a.entries text) mid
    shut_so = all_shut k v cache a (without_text a.entries text) old up.0 mid finishes.1

    gone_so : mid.gone ≡ gone_of a.entries text
    gone_so = last_gone old old.current mid finishes.1 ∙ up.1

    abbrev plan : Plan
    plan = finishes.2.0

    of_map : PlansMap a.config.form map count mid.gone plan
    of_map = subst (λ (g : Form). PlansMap g map count mid.gone plan) up.0.form finishes.2.1

    new_is : new ≡ record { plans = mid.plans ++ plan ∷ []; entries = mid.entries; gone = mid.gone; current = mid.current; form = mid.form }
    new_is = finishes.2.2.0

    plans_are : new.plans ≡ mid.plans ++ plan ∷ []
    plans_are = ap (λ (p : Planning). p.plans) new_is

    pub entries_are : new.entries ≡ stored_after a.config.form [] (without_text a.entries text)
    entries_are = ap (λ (p : Planning). p.entries) new_is ∙ shut_so.entries

    abbrev t : Texts
    t = texts_of v.root (parts_of a cache)

    reads : (name : FileName) → name ≢ root_name → texts_in k name ≡ t name
    reads name apart = own.on.exact.ends name apart

    map_text : texts_in k map ≡ map_bytes a
    map_text =
        ap (texts_in k) map_is
        ∙ (reads (map_file_of v.root) (map_isnt_root v.root.map.generation) ∙ text_named v.root (parts_of a cache) (map_file_of v.root) (map_is_named v.root v.root.map.generation refl))

    begins : BeginsWithRecords a.config.form (records_of a) (texts_in k map)
    begins =
        let long : record_size a.config.form * length (records_of a) ≡ length (map_bytes a) = ap (λ (n : ℕ). record_size a.config.form * n) (records_few a) ∙ sym (map_length a own.keeps.valid) in
        record {
          valid = records_valid a own.keeps.valid;
          spelled = ap (take (record_size a.config.form * length (records_of a))) map_text ∙ (ap (λ (n : ℕ). take n (map_bytes a)) long ∙ take-length (map_bytes a));
        }

    map_planned_so : IsPlanWhole (texts_in k) plan × (written_by (texts_in k) plan ≡ map_without a.config.form mid.gone (records_of a))
    map_planned_so = of_map.written (texts_in k) (records_of a) (records_few a ∙ (ap (λ (n : ℕ). n - 1) (sym own.keeps.names.next) ∙ sym count_is)) begins

    map_part : (n : ℕ) (b : Bool) → (n == 0) ≡ b → planned (texts_in k) (plan_of (mid.plans ++ plan ∷ []) kind.Map n) (if b then map_bytes a else []) ≡ (if b then map_bytes (without_entries a text) else [])
    map_part n true zero_is =
        let n_is : n ≡ 0 = grind (arith, nat_tests, zero_is) in
        let here : plan_of (mid.plans ++ plan ∷ []) kind.Map n ≡ Some plan = of_more mid.plans (plan ∷ []) kind.Map n (shut_so.map n) ∙ of_first plan [] kind.Map n (is_of_own plan kind.Map n of_map.kind (of_map.number ∙ sym n_is)) in
        ap (λ (o : Option Plan). planned (texts_in k) o (map_bytes a)) here
        ∙ (ap (λ (target : Target). bytes_by target (map_bytes a) (written_by (texts_in k) plan)) of_map.target
        ∙ (map_planned_so.1 ∙ (ap (λ (gone : List ℕ). map_without a.config.form gone (records_of a)) gone_so ∙ map_same a text own.keeps.valid)))
    map_part n false other =
        let apart : n ≢ 0 = (λ is. (let wrong = same_test n 0 is in let no : true ≡ false = sym wrong ∙ other in cc)) in
        planned_none (texts_in k) (plan_of (mid.plans ++ plan ∷ []) kind.Map n) []
        (of_others mid.plans plan kind.Map n (other_part plan kind.Map n (λ k_is n_is. apart (sym n_is ∙ of_map.number))) ∙ shut_so.map n)

    epoch_part : (n : ℕ) → planned (texts_in k) (plan_of (mid.plans ++ plan ∷ []) kind.Epoch n) (bytes_in a n) ≡ bytes_in (without_entries a text) n
    epoch_part n =
        ap (λ (o : Option Plan). planned (texts_in k) o (bytes_in a n)) (of_others mid.plans plan kind.Epoch n (other_part plan kind.Epoch n (λ k_is n_is. (let wrong : kind_index kind.Map ≡ kind_index kind.Epoch = ap kind_index (sym of_map.kind ∙ k_is) in absurd (omega (arith, wrong))))))
        ∙ epochs_shut k v cache a (without_text a.entries text) old up.0 mid finishes.1 n

    cache_part : (n : ℕ) → [] ≡ parts_of (without_entries a text) [] kind.Cache n
    cache_part n = by (n == 0) where
      by : (b : Bool) → ◌≡◌ {A = List ℕ} [] (if b then [] else [])
      by true = refl
      by false = refl

    part : (t_ : FileKind) (n : ℕ) → rewritten v.root new.plans (parts_of a cache) t_ n ≡ parts_of (without_entries a text) [] t_ n
    part kind.Root n = refl
    part kind.Cache n = cache_part n
    part kind.Map n =
        sym (by_plan t (texts_in k) v.root new.plans kind.Map n (plan_of new.plans kind.Map n) (parts_of a cache kind.Map n) refl from reads)
        ∙ (ap (λ (ps : List Plan). planned (texts_in k) (plan_of ps kind.Map n) (parts_of a cache kind.Map n)) plans_are ∙ map_part n (n == 0) refl)
    part kind.Epoch n =
        sym (by_plan t (texts_in k) v.root new.plans kind.Epoch n (plan_of new.plans kind.Epoch n) (bytes_in a n) refl from reads)
        ∙ (ap (λ (ps : List Plan). planned (texts_in k) (plan_of ps kind.Epoch n) (bytes_in a n)) plans_are ∙ epoch_part n)

    pub all_whole : (i : ℕ) (p : Plan) → slice_get new.plans i ≡ Some p → IsPlanWhole (texts_in k) p
    all_whole i p here = each_plan (IsPlanWhole (texts_in k)) mid.plans plan shut_so.whole map_planned_so.0 i p (ap (λ (l : List Plan). slice_get l i) (sym plans_are) ∙ here)

    pub finished_without : PlansWithout v.root cache a text new.plans
    finished_without = record {
      parts = part;
      whole = λ i p here. (
          let own_file = from i p here in
          whole_same t (texts_in k) (file_by v.root p.kind p.number) p (reads (file_by v.root p.kind p.number) (part_isnt_root v.root p.kind p.number own_file.0)) own_file.1 (all_whole i p here)
          );
    }
