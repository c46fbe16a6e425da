-- What a planner holds once it has taken an entry.
use Rattle.std.specs.Prelude.{◌≡◌, ◌≢◌, ◌≤◌, ℕ, Bool, true, false, List, [], ◌∷◌, ◌++◌, slice_get, Option, Some, None, Result, Ok, Err, OnOk, refl}
use Rattle.std.specs.List.{AllByRecursion}
use Rattle.std.specs.Str.{bytes_eq}
use Rattle.std.proofs.Common.{◌∙◌, sym, ap, subst, inl, inr, arith}
use Rattle.std.proofs.lemmas.Result.{on_ok_weaker}
use Rattle.arch_base.specs.declared.ids.ObjectId.{ObjectId}
use Rattle.arch_base.specs.declared.ids.Form.{Form}
use Rattle.arch_base.specs.Ids.{id_eq}
use Rattle.disk_model.specs.Disk.{Content, WhereTold}
use Rattle.disk_model.specs.declared.name.FileName.{FileName}
use Rattle.disk_model.specs.declared.refusal.WalkRefusal.{WalkRefusal}
use Rattle.disk_model.specs.declared.refusal.WalkRefusal.TheVariants.{DiskFault, NoMemory, Damaged}
use Rattle.git_objects.specs.Objects.{blob_id_of}
use Rattle.root_slots.specs.declared.root.Root.{Root}
use Rattle.root_change.specs.Rewriting.{Plan}
use Rattle.root_change.specs.Texts.{Texts}
use Rattle.arch_model.specs.Archives.{Entry, Archive, in_epoch, without_text}
use Rattle.epoch_file.specs.Entries.{EpochEntry}
use Rattle.epoch_file.specs.Planning.{HasNext, IsMoved, IsOfEpoch, KeepsNext, LacksText, Planned, EntryStays, TellsLack, seen_after, texts_in}
use Rattle.epoch_file.specs.declared.entry.Seen.{Seen}
use Rattle.epoch_file.specs.declared.refusal.StoreRefusal.{StoreRefusal}
use Rattle.epoch_file.specs.declared.refusal.StoreRefusal.TheVariants as store
use Rattle.store_finding.specs.declared.entries.StoredEntry.{StoredEntry}
use Rattle.store_planning.specs.DamagedTexts.{DamageBy, IsDamageOf}
use Rattle.store_finding.specs.Files.{epoch_file_of}
use Rattle.store_planning.specs.Planning.{ArePlansIn, ClosesAs, ClosesEpoch, ComesNext, DropsStored, StaysPlanned, GivesNext, IsFileIn, IsKeptUpTo, IsNoDamage, IsPlanIn, KeepsBut, KeepsStored, PicksText, PlansEntry, LeavesOut, OpensPlan, OpensBy, Planning, RefusesPlanned, PlansNext, epoch_start, gone_of, gone_with, in_files, kept_anew, refusal_in, with_entries, without_current}
use Rattle.store_planning.specs.Dropping.{KeptOf}
use Rattle.store_finding.specs.Kept.{StoreState, in_file, stored_at}
use Rattle.store_planning.proofs.Planned.{IsOpened, each_plan, gone_kept, gone_left, has_next, opened, seen_is, up_kept, up_left, without_kept, without_left}
use Rattle.store_finding.proofs.TextBytes.{one_of_all}

-- The next entry of an archive on its disk: its plan is opened, and its file has it.
module _ (old : Planning) (file : FileName) (stored : StoredEntry) (mid : Planning) (plan : Planned) (opens : OpensPlan old file mid plan)
    (k : Content) (v : StoreState) (cache : List ℕ) (a : Archive) (es rest kept : List Entry) (e : Entry) (comes : ComesNext file stored k v cache a es rest kept e old) where
  open_ : IsOpened (texts_in k) v.root a es kept e.epoch mid plan
  open_ = opened k v cache a comes.own es rest e comes.is kept old comes.up file comes.file_is old.current comes.up.current mid plan opens

  next : HasNext plan.form (texts_in k) plan.file (in_files (in_epoch es e.epoch)) (in_file e)
  next = subst (λ (g : Form). HasNext g (texts_in k) plan.file (in_files (in_epoch es e.epoch)) (in_file e)) (sym open_.form_is) (subst (λ (f : FileName). HasNext a.config.form (texts_in k) f (in_files (in_epoch es e.epoch)) (in_file e)) (sym open_.file) (has_next k v cache a comes.own es rest e comes.is))

  seen_so : stored.seen ≡ seen_after plan.form (in_files (in_epoch es e.epoch)) (in_file e)
  seen_so = ap (λ (s : StoredEntry). s.seen) comes.stored_is ∙ (seen_is a.config.form es e ∙ ap (λ (g : Form). seen_after g (in_files (in_epoch es e.epoch)) (in_file e)) (sym open_.form_is))

  -- It was left out.
  left_next : (new : Planning) → LeavesOut mid plan stored new → IsKeptUpTo (texts_in k) v.root a (es ++ e ∷ []) kept new
  left_next new left =
      let planned_so = left.1 (texts_in k) (in_files (in_epoch es e.epoch)) (in_files (in_epoch kept e.epoch)) (in_file e) open_.is next seen_so in
      subst (IsKeptUpTo (texts_in k) v.root a (es ++ e ∷ []) kept) (sym left.3) (up_left k v cache a comes.own es rest e comes.is kept mid plan comes.up.among open_ left.0 left.2 left.6 (gone_with stored.seen.kind mid.gone stored.number) planned_so)

  -- It stays.
  kept_next : (new : Planning) → PlansEntry mid plan stored (Some k) new → IsKeptUpTo (texts_in k) v.root a (es ++ e ∷ []) (kept ++ e ∷ []) new
  kept_next new keeps =
      let stays = keeps.kept (in_files (in_epoch es e.epoch)) (in_files (in_epoch kept e.epoch)) (in_file e) open_.is next seen_so in
      let made_seen : keeps.seen ≡ (stored_at a.config.form kept e).seen =
      stays.0 ∙ (ap (λ (g : Form). seen_after g (in_files (in_epoch kept e.epoch)) (in_file e)) open_.form_is ∙ sym (seen_is a.config.form kept e)) in
      let made_is : kept_anew stored keeps.seen ≡ stored_at a.config.form kept e = λ i. record { number = (ap (λ (s : StoredEntry). s.number) comes.stored_is) i; epoch = (ap (λ (s : StoredEntry). s.epoch) comes.stored_is) i; seen = made_seen i } in
      subst (IsKeptUpTo (texts_in k) v.root a (es ++ e ∷ []) (kept ++ e ∷ [])) (sym keeps.new_is)
      (up_kept k v cache a comes.own es rest e comes.is kept mid plan comes.up.among open_ keeps.after keeps.file keeps.form (kept_anew stored keeps.seen) made_is stays.1)

  -- It was refused.
  refused_next : (refusal : WalkRefusal) → RefusesPlanned plan stored (Some k) refusal → IsNoDamage refusal
  refused_next refusal refuses = refuses (in_files (in_epoch es e.epoch)) (in_files (in_epoch kept e.epoch)) (in_file e) open_.is next seen_so

-- No damage is found on an archive's disk.
not_damaged : (texts : Texts) (root : Root) (a : Archive) (es kept : List Entry) (e : Entry) (file : FileName) (new : Planning) (refusal : WalkRefusal) → IsNoDamage refusal → StaysPlanned texts root a es kept e new (Err (refusal_in file refusal))
not_damaged texts root a es kept e file new DiskFault none = tt
not_damaged texts root a es kept e file new NoMemory none = tt
not_damaged texts root a es kept e file new (Damaged at) none = none

pub drops_stored : (old : Planning) (file : FileName) (stored : StoredEntry) (mid new : Planning) (plan : Planned) → OpensPlan old file mid plan → LeavesOut mid plan stored new → DropsStored old file stored new
drops_stored old file stored mid new plan opens left = λ k v cache a es rest kept e comes. left_next old file stored mid plan opens k v cache a es rest kept e comes new left

pub keeps_stored : (old : Planning) (file : FileName) (stored : StoredEntry) (content : Option Content) (mid new : Planning) (plan : Planned) → OpensPlan old file mid plan → PlansEntry mid plan stored content new → KeepsStored old file stored content new (Ok tt)
keeps_stored old file stored None mid new plan opens keeps = tt
keeps_stored old file stored (Some k) mid new plan opens keeps = λ v cache a es rest kept e comes. kept_next old file stored mid plan opens k v cache a es rest kept e comes new keeps

pub refuses_stored : (old : Planning) (file : FileName) (stored : StoredEntry) (content : Option Content) (mid new : Planning) (plan : Planned) (refusal : WalkRefusal) → OpensPlan old file mid plan → RefusesPlanned plan stored content refusal → KeepsStored old file stored content new (Err (refusal_in file refusal))
refuses_stored old file stored None mid new plan refusal opens refuses = tt
refuses_stored old file stored (Some k) mid new plan refusal opens refuses = λ v cache a es rest kept e comes.
    not_damaged (texts_in k) v.root a es kept e file new refusal (refused_next old file stored mid plan opens k v cache a es rest kept e comes refusal refuses)

-- What keeping an entry says of a refusal.
stays_none : (of : Form) (texts : Texts) (es kept : List EpochEntry) (e : EpochEntry) (after : Planned) (refusal : WalkRefusal) → EntryStays of texts es kept e after (Err refusal) → IsNoDamage refusal
stays_none of texts es kept e after DiskFault stays = tt
stays_none of texts es kept e after NoMemory stays = tt
stays_none of texts es kept e after (Damaged at) stays = stays

pub refuses_entry : (plan after : Planned) (stored : StoredEntry) (content : Option Content) (refusal : WalkRefusal) → WhereTold (KeepsNext plan stored.seen after (Err refusal)) content → RefusesPlanned plan stored content refusal
refuses_entry plan after stored None refusal keeps = tt
refuses_entry plan after stored (Some k) refusal keeps = λ es kept e planned_so next is. stays_none plan.form (texts_in k) es kept e after refusal (keeps es kept e planned_so next is)

-- The plan that is opened is that of the file, so the damage of an entry is in it.
opened_file : (old : Planning) (file : FileName) (current : Option Planned) (mid : Planning) (plan : Planned) → OpensBy old file current mid plan → plan.file ≡ file
opened_file old file None mid plan by = ap (λ (c : Planned). c.file) by.1
opened_file old file (Some c) mid plan (inl here) = ap (λ (d : Planned). d.file) here.1 ∙ here.0
opened_file old file (Some c) mid plan (inr next) = ap (λ (d : Planned). d.file) next.1

-- Opening the plan of a file leaves the form.
pub closed_form : (old : Planning) (finished : Option Plan) (new : Planning) → ClosesAs old finished new → new.form ≡ old.form
closed_form old None new is = ap (λ (p : Planning). p.form) is
closed_form old (Some plan) new is = ap (λ (p : Planning). p.form) is.0

form_by : (old : Planning) (file : FileName) (current : Option Planned) (mid : Planning) (plan : Planned) → OpensBy old file current mid plan → mid.form ≡ old.form
form_by old file None mid plan by = ap (λ (p : Planning). p.form) by.0
form_by old file (Some c) mid plan (inl here) = ap (λ (p : Planning). p.form) here.2
form_by old file (Some c) mid plan (inr next) = closed_form (without_current old) next.2.0 mid next.2.3

pub opened_form : (old : Planning) (file : FileName) (mid : Planning) (plan : Planned) → OpensPlan old file mid plan → mid.form ≡ old.form
opened_form old file mid plan opens = form_by old file old.current mid plan opens

-- The plan of another file is a new one, once the current one is closed.
pub opened_other : (inside now mid : Planning) (file : FileName) (c plan : Planned) → inside ≡ now → inside.current ≡ Some c → c.file ≢ file → ClosesEpoch (without_current inside) c mid → plan ≡ epoch_start mid.form file → OpensPlan now file mid plan
opened_other inside now mid file c plan same is apart closes start =
    let start_is : plan ≡ epoch_start inside.form file = start ∙ ap (λ (g : Form). epoch_start g file) (closed_form (without_current inside) closes.0 mid closes.3) in
    subst (λ (p : Planning). OpensPlan p file mid plan) same (subst (λ (o : Option Planned). OpensBy inside file o mid plan) (sym is) (inr (apart, start_is, closes)))

pub take_damage : (old : Planning) (file : FileName) (stored : StoredEntry) (content : Option Content) (mid : Planning) (plan : Planned) (refusal : WalkRefusal) → OpensPlan old file mid plan → plan.form ≡ mid.form → TellsLack plan.form plan.file stored.seen content refusal → DamageBy (refusal_in file refusal) (IsDamageOf old.form file stored content)
take_damage old file stored content mid plan DiskFault opens form_is lack = tt
take_damage old file stored content mid plan NoMemory opens form_is lack = tt
take_damage old file stored content mid plan (Damaged at) opens form_is lack = (
  refl,
  lack.0,
  subst (λ (f : FileName). WhereTold (LacksText old.form f stored.seen) content) (opened_file old file old.current mid plan opens)
      (subst (λ (g : Form). WhereTold (LacksText g plan.file stored.seen) content) (form_is ∙ opened_form old file mid plan opens) lack.1),
)

-- Opening the plan of a file leaves what is kept of the entries.
closed_entries : (old : Planning) (finished : Option Plan) (new : Planning) → ClosesAs old finished new → new.entries ≡ old.entries
closed_entries old None new is = ap (λ (p : Planning). p.entries) is
closed_entries old (Some plan) new is = ap (λ (p : Planning). p.entries) is.0

opened_by : (old : Planning) (file : FileName) (current : Option Planned) (mid : Planning) (plan : Planned) → OpensBy old file current mid plan → mid.entries ≡ old.entries
opened_by old file None mid plan by = ap (λ (p : Planning). p.entries) by.0
opened_by old file (Some c) mid plan (inl here) = ap (λ (p : Planning). p.entries) here.2
opened_by old file (Some c) mid plan (inr next) = closed_entries (without_current old) next.2.0 mid next.2.3

pub opened_entries : (old : Planning) (file : FileName) (mid : Planning) (plan : Planned) → OpensPlan old file mid plan → mid.entries ≡ old.entries
opened_entries old file mid plan opens = opened_by old file old.current mid plan opens

-- An entry that was moved was kept.
pub moved_kept : (stored : StoredEntry) (seen : Seen) → (at : ℕ) × (commit : ObjectId) × IsMoved stored.seen at commit seen → KeptOf stored (kept_anew stored seen)
moved_kept stored seen moved =
    let is = moved.2 in
    record { number = refl; epoch = refl; kind = is.kind; size = is.size; blob = is.blob; moment = is.moment; id = is.id; content = is.content }

pub kept_made : (old : Planning) (file : FileName) (stored : StoredEntry) (content : Option Content) (mid new : Planning) (plan : Planned) → OpensPlan old file mid plan → PlansEntry mid plan stored content new → (made : StoredEntry) × KeptOf stored made × (new.entries ≡ old.entries ++ made ∷ [])
kept_made old file stored content mid new plan opens keeps = (
  kept_anew stored keeps.seen,
  moved_kept stored keeps.seen keeps.moved,
  ap (λ (p : Planning). p.entries) keeps.new_is ∙ ap (λ (l : List StoredEntry). l ++ kept_anew stored keeps.seen ∷ []) (opened_entries old file mid plan opens),
)

pub left_same : (old : Planning) (file : FileName) (stored : StoredEntry) (mid new : Planning) (plan : Planned) → OpensPlan old file mid plan → LeavesOut mid plan stored new → new.entries ≡ old.entries
left_same old file stored mid new plan opens left = ap (λ (p : Planning). p.entries) left.3 ∙ opened_entries old file mid plan opens

-- Opening the plan of a file leaves the numbers of messages that are gone.
pub closed_gone : (old : Planning) (finished : Option Plan) (new : Planning) → ClosesAs old finished new → new.gone ≡ old.gone
closed_gone old None new is = ap (λ (p : Planning). p.gone) is
closed_gone old (Some plan) new is = ap (λ (p : Planning). p.gone) is.0

gone_by : (old : Planning) (file : FileName) (current : Option Planned) (mid : Planning) (plan : Planned) → OpensBy old file current mid plan → mid.gone ≡ old.gone
gone_by old file None mid plan by = ap (λ (p : Planning). p.gone) by.0
gone_by old file (Some c) mid plan (inl here) = ap (λ (p : Planning). p.gone) here.2
gone_by old file (Some c) mid plan (inr next) = closed_gone (without_current old) next.2.0 mid next.2.3

pub kept_gone : (old : Planning) (file : FileName) (stored : StoredEntry) (content : Option Content) (mid new : Planning) (plan : Planned) → OpensPlan old file mid plan → PlansEntry mid plan stored content new → new.gone ≡ old.gone
kept_gone old file stored content mid new plan opens keeps = ap (λ (p : Planning). p.gone) keeps.new_is ∙ gone_by old file old.current mid plan opens

pub left_gone : (old : Planning) (file : FileName) (stored : StoredEntry) (mid new : Planning) (plan : Planned) → OpensPlan old file mid plan → LeavesOut mid plan stored new → new.gone ≡ gone_with stored.seen.kind old.gone stored.number
left_gone old file stored mid new plan opens left = ap (λ (p : Planning). p.gone) left.3 ∙ ap (λ (l : List ℕ). gone_with stored.seen.kind l stored.number) (gone_by old file old.current mid plan opens)

-- An entry that stays unless a test holds, and the same of the epochs to be written anew.
pub keeps_step : (t : Bool) (old new : List StoredEntry) (stored : StoredEntry) → t ≡ false → (made : StoredEntry) × KeptOf stored made × (new ≡ old ++ made ∷ []) → KeepsBut t old stored new
keeps_step false old new stored is more = more
keeps_step true old new stored is more = absurd (let wrong : true ≡ false = is in cc)

pub drops_step : (t : Bool) (old new : List StoredEntry) (stored : StoredEntry) → t ≡ true → new ≡ old → KeepsBut t old stored new
drops_step true old new stored is same = same
drops_step false old new stored is same = absurd (let wrong : false ≡ true = is in cc)

-- An entry has the text exactly if it has the blob id.
abbrev Picks : Form → ObjectId → List ℕ → Entry → Type 0
Picks form blob text e = id_eq blob (blob_id_of form e.text) ≡ bytes_eq text e.text

-- By the blob id that picks a text, the next entry has the text or another one.
picks_next : (stored : StoredEntry) (blob : ObjectId) (a : Archive) (es rest : List Entry) (e : Entry) (text : List ℕ) → a.entries ≡ es ++ e ∷ rest → stored ≡ stored_at a.config.form es e → PicksText a blob text → bytes_eq text e.text ≡ id_eq blob stored.seen.blob
picks_next stored blob a es rest e text is stored_is picks =
    sym (one_of_all (Picks a.config.form blob text) es e rest (subst (AllByRecursion (Picks a.config.form blob text)) is picks)) ∙ sym (ap (λ (s : StoredEntry). id_eq blob s.seen.blob) stored_is)

pub next_left : (old : Planning) (file : FileName) (stored : StoredEntry) (blob : ObjectId) (content : Option Content) (new : Planning) → id_eq blob stored.seen.blob ≡ true → DropsStored old file stored new → new.gone ≡ gone_with stored.seen.kind old.gone stored.number → PlansNext old file stored blob content new (Ok tt)
next_left old file stored blob None new test drops gone = tt
next_left old file stored blob (Some k) new test drops gone = λ v cache a es rest e text own is stored_is file_is picks up.
    let this = picks_next stored blob a es rest e text is stored_is picks ∙ test in (
      subst (λ (l : List Entry). IsKeptUpTo (texts_in k) v.root a (es ++ e ∷ []) l new) (sym (without_left es e text this))
          (drops k v cache a es rest (without_text es text) e (record { own = own; is = is; stored_is = stored_is; file_is = file_is; up = up.0 })),
      gone
          ∙ (ap (λ (l : List ℕ). gone_with stored.seen.kind l stored.number) up.1
          ∙ (ap (λ (s : StoredEntry). gone_with s.seen.kind (gone_of es text) s.number) stored_is ∙ sym (gone_left es e text this))),
    )

-- What keeping an entry says of the entries without a text.
gives_next : (texts : Texts) (root : Root) (a : Archive) (es : List Entry) (e : Entry) (text : List ℕ) (new : Planning) (result : Result Unit StoreRefusal) → bytes_eq text e.text ≡ false → OnOk result (new.gone ≡ gone_of es text) → StaysPlanned texts root a es (without_text es text) e new result → GivesNext texts root a es e text new result
gives_next texts root a es e text new (Ok done) other gone gives = (
  subst (λ (l : List Entry). IsKeptUpTo texts root a (es ++ e ∷ []) l new) (sym (without_kept es e text other)) gives,
  gone ∙ sym (gone_kept es e text other),
)
gives_next texts root a es e text new (Err store.DiskFault) other gone gives = tt
gives_next texts root a es e text new (Err store.NoMemory) other gone gives = tt
gives_next texts root a es e text new (Err (store.Damaged file at)) other gone gives = gives

pub next_kept : (old : Planning) (file : FileName) (stored : StoredEntry) (blob : ObjectId) (content : Option Content) (new : Planning) (result : Result Unit StoreRefusal) → id_eq blob stored.seen.blob ≡ false → KeepsStored old file stored content new result → OnOk result (new.gone ≡ old.gone) → PlansNext old file stored blob content new result
next_kept old file stored blob None new result test keeps gone = tt
next_kept old file stored blob (Some k) new result test keeps gone = λ v cache a es rest e text own is stored_is file_is picks up.
    gives_next (texts_in k) v.root a es e text new result (picks_next stored blob a es rest e text is stored_is picks ∙ test) (on_ok_weaker result (λ same. same ∙ up.1) gone)
    (keeps v cache a es rest (without_text es text) e (record { own = own; is = is; stored_is = stored_is; file_is = file_is; up = up.0 }))

-- All plans stay those of a root.
plan_in : (root : Root) (c : Planned) (plan : Plan) → IsFileIn root (Some c) → IsOfEpoch c.file (Some plan) → IsPlanIn root plan
plan_in root c plan in_ of =
    let number_is : plan.number ≡ in_.0 = of.number ∙ ap (λ (f : FileName). f.number) in_.2 in
    record {
      small = (let low = in_.1 in omega (arith, low, number_is));
      of = subst (λ (f : FileName). IsOfEpoch f (Some plan)) (in_.2 ∙ ap (epoch_file_of root) (sym number_is)) of;
    }

pub closed_in : (root : Root) (old : Planning) (c : Planned) (finished : Option Plan) (new : Planning) → ((i : ℕ) (p : Plan) → slice_get old.plans i ≡ Some p → IsPlanIn root p) → IsFileIn root (Some c) → IsOfEpoch c.file finished → ClosesAs old finished new → (i : ℕ) (p : Plan) → slice_get new.plans i ≡ Some p → IsPlanIn root p
closed_in root old c None new each in_ of is = λ i p here. each i p (ap (λ (q : Planning). slice_get q.plans i) (sym is) ∙ here)
closed_in root old c (Some plan) new each in_ of is = λ i p here. each_plan (IsPlanIn root) old.plans plan each (plan_in root c plan in_ of) i p (ap (λ (q : Planning). slice_get q.plans i) (sym is.0) ∙ here)

opened_in : (root : Root) (old : Planning) (file : FileName) (current : Option Planned) (mid : Planning) (plan : Planned) → ((i : ℕ) (p : Plan) → slice_get old.plans i ≡ Some p → IsPlanIn root p) → IsFileIn root current → OpensBy old file current mid plan
    → ((i : ℕ) (p : Plan) → slice_get mid.plans i ≡ Some p → IsPlanIn root p) × (plan.file ≡ file)
opened_in root old file None mid plan each in_ by = (λ i p here. each i p (ap (λ (q : Planning). slice_get q.plans i) (sym by.0) ∙ here), ap (λ (c : Planned). c.file) by.1)
opened_in root old file (Some c) mid plan each in_ (inl here) = (λ i p is. each i p (ap (λ (q : Planning). slice_get q.plans i) (sym here.2) ∙ is), ap (λ (d : Planned). d.file) here.1 ∙ here.0)
opened_in root old file (Some c) mid plan each in_ (inr next) = (closed_in root (without_current old) c next.2.0 mid each in_ next.2.2 next.2.3, ap (λ (d : Planned). d.file) next.1)

taken_in : (root : Root) (old : Planning) (file : FileName) (mid : Planning) (plan after : Planned) (n : ℕ) (entries : List StoredEntry) (gone : List ℕ) → ArePlansIn root old → OpensPlan old file mid plan → file ≡ epoch_file_of root n → n ≤ 63 → after.file ≡ plan.file → ArePlansIn root (with_entries mid entries gone after)
taken_in root old file mid plan after n entries gone are opens file_is low same =
    let so = opened_in root old file old.current mid plan are.each are.current opens in
    record { each = so.0; current = (n, low, same ∙ (so.1 ∙ file_is)); form = opened_form old file mid plan opens ∙ are.form }

pub kept_in : (root : Root) (old : Planning) (file : FileName) (stored : StoredEntry) (content : Option Content) (mid new : Planning) (plan : Planned) → ArePlansIn root old → OpensPlan old file mid plan → file ≡ epoch_file_of root stored.epoch → stored.epoch ≤ 63 → PlansEntry mid plan stored content new → ArePlansIn root new
kept_in root old file stored content mid new plan are opens file_is low keeps =
    subst (ArePlansIn root) (sym keeps.new_is) (taken_in root old file mid plan keeps.after stored.epoch (mid.entries ++ kept_anew stored keeps.seen ∷ []) mid.gone are opens file_is low keeps.file)

pub left_in : (root : Root) (old : Planning) (file : FileName) (stored : StoredEntry) (mid new : Planning) (plan : Planned) → ArePlansIn root old → OpensPlan old file mid plan → file ≡ epoch_file_of root stored.epoch → stored.epoch ≤ 63 → LeavesOut mid plan stored new → ArePlansIn root new
left_in root old file stored mid new plan are opens file_is low left =
    subst (ArePlansIn root) (sym left.3) (taken_in root old file mid plan left.0 stored.epoch mid.entries (gone_with stored.seen.kind mid.gone stored.number) are opens file_is low left.2)
