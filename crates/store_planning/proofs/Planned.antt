-- What is planned of an archive's entries, with one more.
use Rattle.std.specs.Prelude.{◌≡◌, ◌≢◌, ◌+◌, ◌<◌, ◌≤◌, ◌==◌, nat_lt, not, ℕ, zero, suc, Bool, true, false, ◌&&◌, if◌then◌else◌, List, [], ◌∷◌, ◌++◌, length, get_or, slice_get, Option, Some, None, refl}
use Rattle.std.specs.List.{AllByRecursion}
use Rattle.std.specs.Str.{bytes_eq}
use Rattle.std.proofs.Common.{◌∙◌, sym, ap, subst, inl, inr, arith, append_assoc, length-append}
use Rattle.std.proofs.lemmas.Bool.{cases_lt}
use Rattle.std.proofs.lemmas.Bool.Decides.{nat_tests}
use Rattle.std.proofs.lemmas.List.{append-nil}
use Rattle.std.proofs.lemmas.List.Elements.{filter-append}
use Rattle.std.proofs.lemmas.Option.{same_Some}
use Rattle.arch_base.specs.declared.ids.ObjectId.{ObjectId}
use Rattle.arch_base.specs.declared.ids.Form.{Form}
use Rattle.disk_model.specs.declared.name.FileKind.{FileKind}
use Rattle.disk_model.specs.declared.name.FileKind.TheVariants as kind
use Rattle.disk_model.specs.declared.name.FileName.{FileName}
use Rattle.disk_model.specs.Name.{kind_index}
use Rattle.disk_model.specs.Disk.{Content}
use Rattle.root_slots.specs.declared.root.Root.{Root}
use Rattle.root_slots.specs.Valid.{no_place}
use Rattle.root_change.specs.declared.plan.Target.{Target}
use Rattle.root_change.specs.Rewriting.{Plan, IsPlanWhole, bytes_by, plan_of, planned, written_by}
use Rattle.root_change.specs.Texts.{Texts}
use Rattle.root_change.proofs.Changes.{text_named}
use Rattle.root_change.proofs.Grown.{epoch_isnt_root, epoch_is_named}
use Rattle.root_change.proofs.PlanParts.{is_of, is_of_own, of_more, of_others, other_part}
use Rattle.root_change.proofs.Roots.{equal_or_not, other_test}
use Rattle.git_objects.specs.declared.entry_kind.EntryKind.{EntryKind}
use Rattle.git_objects.specs.declared.entry_kind.EntryKind.TheVariants.{Message, Deletion}
use Rattle.mail_commits.specs.Entries.{commit_id, entry_bytes, magic}
use Rattle.arch_model.specs.Archives.{Entry, Archive, in_epoch, is_message, without_text}
use Rattle.arch_model.specs.Delivery.{greater, last_epoch}
use Rattle.arch_model.specs.Epochs.{entries_bytes, epoch_bytes, last_commit}
use Rattle.arch_model.specs.Validity.{IsEntry, Rise, number_after}
use Rattle.arch_model.proofs.ValidArchives.{all_weaker, none_later}
use Rattle.epoch_file.specs.Entries.{EpochEntry, bytes_after, chain, commit_after, epoch_of, last_of}
use Rattle.epoch_file.specs.Planning.{FinishesPlan, HasNext, IsFinished, IsOfEpoch, IsPlanned, Planned, file_of, seen_after, texts_in}
use Rattle.epoch_file.specs.Walking.{seen_at}
use Rattle.store_finding.specs.declared.entries.StoredEntry.{StoredEntry}
use Rattle.store_finding.specs.Files.{epoch_file_of}
use Rattle.store_planning.specs.Planning.{ClosesAs, IsCurrent, IsKeptUpTo, OpensBy, Planning, epoch_start, gone_of, gone_with, in_files, without_current}
use Rattle.store_finding.specs.Recovery.{bytes_in, parts_of}
use Rattle.store_finding.specs.Kept.{StoreState, IsDiskWith, in_file, stored_after, stored_at}
use Rattle.store_finding.proofs.Growing.{in_epoch-here, stored_more}
use Rattle.store_finding.proofs.Magics.{magic_length}
use Rattle.store_finding.proofs.TextBytes.{in_epoch_split, one_of_all}

-- An epoch that no entry is in.
pub in_epoch_none : (es : List Entry) (x : ℕ) → AllByRecursion (λ (e : Entry). e.epoch ≢ x) es → in_epoch es x ≡ []
in_epoch_none [] x all = refl
in_epoch_none (e ∷ es) x all = rw (other_test e.epoch x all.0) (in_epoch_none es x all.1)

-- An epoch that no later entry is in.
in_epoch_front : (es more : List Entry) (x : ℕ) → AllByRecursion (λ (e : Entry). e.epoch ≢ x) more → in_epoch (es ++ more) x ≡ in_epoch es x
in_epoch_front es more x all = filter-append (λ (e : Entry). e.epoch == x) es more ∙ (ap (λ (l : List Entry). in_epoch es x ++ l) (in_epoch_none more x all) ∙ append-nil (in_epoch es x))

-- Entries with one more that stays, or that doesn't.
kept_step : (t : Bool) (e : Entry) (es : List Entry) → t ≡ true → (if t then e ∷ es else es) ≡ e ∷ es
kept_step true e es is = refl
kept_step false e es is = absurd (let wrong : false ≡ true = is in cc)

left_step : (t : Bool) (e : Entry) (es : List Entry) → t ≡ false → (if t then e ∷ es else es) ≡ es
left_step false e es is = refl
left_step true e es is = absurd (let wrong : true ≡ false = is in cc)

without_append : (es more : List Entry) (text : List ℕ) → without_text (es ++ more) text ≡ without_text es text ++ without_text more text
without_append es more text = filter-append (λ (e : Entry). not (bytes_eq text e.text)) es more

pub without_kept : (es : List Entry) (e : Entry) (text : List ℕ) → bytes_eq text e.text ≡ false → without_text (es ++ e ∷ []) text ≡ without_text es text ++ e ∷ []
without_kept es e text other = without_append es (e ∷ []) text ∙ ap (λ (l : List Entry). without_text es text ++ l) (kept_step (not (bytes_eq text e.text)) e [] (ap not other))

pub without_left : (es : List Entry) (e : Entry) (text : List ℕ) → bytes_eq text e.text ≡ true → without_text (es ++ e ∷ []) text ≡ without_text es text
without_left es e text same = without_append es (e ∷ []) text ∙ (ap (λ (l : List Entry). without_text es text ++ l) (left_step (not (bytes_eq text e.text)) e [] (ap not same)) ∙ append-nil (without_text es text))

-- Epochs never fall.
rises : (number epoch : ℕ) (es : List Entry) → Rise number epoch es → AllByRecursion (λ (f : Entry). epoch ≤ f.epoch) es
rises number epoch [] rise = tt
rises number epoch (e ∷ es) rise =
    let first : epoch ≤ e.epoch = rise.1 in
    (first, all_weaker (λ (f : Entry). e.epoch ≤ f.epoch) (λ (f : Entry). epoch ≤ f.epoch) es (λ f less. omega (arith, first, less)) (rises (number_after e.kind number e.number) e.epoch es rise.2))

later_ones : (number epoch : ℕ) (es : List Entry) (e : Entry) (rest : List Entry) → Rise number epoch (es ++ e ∷ rest) → AllByRecursion (λ (f : Entry). e.epoch ≤ f.epoch) (e ∷ rest)
later_ones number epoch [] e rest rise = (omega arith, rises (number_after e.kind number e.number) e.epoch rest rise.2)
later_ones number epoch (x ∷ es) e rest rise = later_ones (number_after x.kind number x.number) x.epoch es e rest rise.2

earlier_ones : (number epoch : ℕ) (es : List Entry) (e : Entry) (rest : List Entry) → Rise number epoch (es ++ e ∷ rest) → AllByRecursion (λ (f : Entry). f.epoch ≤ e.epoch) es
earlier_ones number epoch [] e rest rise = tt
earlier_ones number epoch (x ∷ es) e rest rise = (
  one_of_all (λ (f : Entry). x.epoch ≤ f.epoch) es e rest (rises (number_after x.kind number x.number) x.epoch (es ++ e ∷ rest) rise.2),
  earlier_ones (number_after x.kind number x.number) x.epoch es e rest rise.2,
)

-- The last epoch.
greater_most : (m n top : ℕ) → m ≤ top → n ≤ top → greater m n ≤ top
greater_most m n top one two = by (nat_lt m n) where
  by : (t : Bool) → (if t then n else m) ≤ top
  by true = two
  by false = one

pub last_at_most : (es : List Entry) (top : ℕ) → AllByRecursion (λ (f : Entry). f.epoch ≤ top) es → last_epoch es ≤ top
last_at_most [] top all = omega arith
last_at_most (e ∷ es) top all = greater_most e.epoch (last_epoch es) top all.0 (last_at_most es top all.1)

greater_is : (m n : ℕ) → m ≤ n → greater m n ≡ n
greater_is m n less = by (nat_lt m n) refl where
  by : (t : Bool) → nat_lt m n ≡ t → (if t then n else m) ≡ n
  by true is = refl
  by false is = grind (arith, nat_tests)

pub last_more : (es : List Entry) (e : Entry) → AllByRecursion (λ (f : Entry). f.epoch ≤ e.epoch) es → last_epoch (es ++ e ∷ []) ≡ e.epoch
last_more [] e all = by (nat_lt e.epoch 0) refl where
  by : (t : Bool) → nat_lt e.epoch 0 ≡ t → (if t then 0 else e.epoch) ≡ e.epoch
  by true is = grind (arith, nat_tests)
  by false is = refl
last_more (x ∷ es) e all =
    let rest = last_more es e all.1 in
    ap (greater x.epoch) rest ∙ greater_is x.epoch e.epoch all.0

-- The bytes of entries as those of the entries of a file.
chain_is : (form : Form) (parent : Option ObjectId) (es : List Entry) → entries_bytes form parent es ≡ chain form parent (in_files es)
chain_is form parent [] = refl
chain_is form parent (e ∷ es) = ap (λ (b : List ℕ). entry_bytes form e.kind e.text e.moment parent ++ b) (chain_is form (Some (commit_id form e.kind e.text e.moment parent)) es)

pub commit_is : (form : Form) (parent : Option ObjectId) (es : List Entry) → last_commit form parent es ≡ last_of form parent (in_files es)
commit_is form parent [] = refl
commit_is form parent (e ∷ es) = commit_is form (Some (commit_id form e.kind e.text e.moment parent)) es

pub file_is : (form : Form) (es : List Entry) → epoch_bytes form es ≡ file_of form (in_files es)
file_is form [] = refl
file_is form (e ∷ es) = ap (λ (b : List ℕ). magic form ++ b) (chain_is form None (e ∷ es))

files_more : (es : List Entry) (e : Entry) → in_files (es ++ e ∷ []) ≡ in_files es ++ in_file e ∷ []
files_more [] e = refl
files_more (x ∷ es) e = ap (λ (l : List EpochEntry). in_file x ∷ l) (files_more es e)

-- With one among them.
chain_split : (form : Form) (parent : Option ObjectId) (xs : List Entry) (e : Entry) (ys : List Entry)
    → chain form parent (in_files (xs ++ e ∷ ys)) ≡ chain form parent (in_files xs ++ in_file e ∷ []) ++ chain form (Some (commit_after form (last_of form parent (in_files xs)) (in_file e))) (in_files ys)
chain_split form parent [] e ys = ap (λ (b : List ℕ). b ++ chain form (Some (commit_after form parent (in_file e))) (in_files ys)) (sym (append-nil (bytes_after form parent (in_file e))))
chain_split form parent (x ∷ xs) e ys =
    let next : Option ObjectId = Some (commit_after form parent (in_file x)) in
    ap (λ (b : List ℕ). bytes_after form parent (in_file x) ++ b) (chain_split form next xs e ys)
    ∙ sym (append_assoc (bytes_after form parent (in_file x)) (chain form next (in_files xs ++ in_file e ∷ [])) (chain form (Some (commit_after form (last_of form next (in_files xs)) (in_file e))) (in_files ys)))

whole_is : (form : Form) (xs : List Entry) (e : Entry) (ys : List Entry) → epoch_bytes form (xs ++ e ∷ ys) ≡ magic form ++ chain form None (in_files (xs ++ e ∷ ys))
whole_is form [] e ys = ap (λ (b : List ℕ). magic form ++ b) (chain_is form None (e ∷ ys))
whole_is form (x ∷ xs) e ys = ap (λ (b : List ℕ). magic form ++ b) (chain_is form None ((x ∷ xs) ++ e ∷ ys))

-- What is kept of an entry is what is recorded of it in its file.
pub seen_is : (form : Form) (es : List Entry) (e : Entry) → (stored_at form es e).seen ≡ seen_after form (in_files (in_epoch es e.epoch)) (in_file e)
seen_is form es e = λ i. seen_at form (at i) (commit_is form None (in_epoch es e.epoch) i) (in_file e) where
  at : 8 + length (entries_bytes form None (in_epoch es e.epoch)) ≡ length (epoch_of form (in_files (in_epoch es e.epoch)))
  at =
      ap (λ (b : List ℕ). 8 + length b) (chain_is form None (in_epoch es e.epoch))
      ∙ (ap (λ (n : ℕ). n + length (chain form None (in_files (in_epoch es e.epoch)))) (sym (magic_length form)) ∙ sym (length-append (magic form) (chain form None (in_files (in_epoch es e.epoch)))))

-- The numbers of messages with a text, with one more entry.
gone_step : (t : Bool) (n : ℕ) (ns more : List ℕ) → (if t then n ∷ (ns ++ more) else (ns ++ more)) ≡ (if t then n ∷ ns else ns) ++ more
gone_step true n ns more = refl
gone_step false n ns more = refl

gone_append : (es : List Entry) (e : Entry) (text : List ℕ) → gone_of (es ++ e ∷ []) text ≡ gone_of es text ++ gone_of (e ∷ []) text
gone_append [] e text = refl
gone_append (x ∷ es) e text =
    ap (λ (l : List ℕ). if is_message x.kind && bytes_eq text x.text then x.number ∷ l else l) (gone_append es e text)
    ∙ gone_step (is_message x.kind && bytes_eq text x.text) x.number (gone_of es text) (gone_of (e ∷ []) text)

no_both : (s t : Bool) (n : ℕ) → t ≡ false → (if s && t then n ∷ [] else []) ≡ []
no_both true t n is = ap (λ (b : Bool). if b then n ∷ [] else []) is
no_both false t n is = refl

pub gone_kept : (es : List Entry) (e : Entry) (text : List ℕ) → bytes_eq text e.text ≡ false → gone_of (es ++ e ∷ []) text ≡ gone_of es text
gone_kept es e text other = gone_append es e text ∙ (ap (λ (l : List ℕ). gone_of es text ++ l) (no_both (is_message e.kind) (bytes_eq text e.text) e.number other) ∙ append-nil (gone_of es text))

gone_kind : (k : EntryKind) (t : Bool) (ns : List ℕ) (n : ℕ) → t ≡ true → ns ++ (if is_message k && t then n ∷ [] else []) ≡ gone_with k ns n
gone_kind Message t ns n is = ap (λ (b : Bool). ns ++ (if b then n ∷ [] else [])) is
gone_kind Deletion t ns n is = append-nil ns

pub gone_left : (es : List Entry) (e : Entry) (text : List ℕ) → bytes_eq text e.text ≡ true → gone_of (es ++ e ∷ []) text ≡ gone_with e.kind (gone_of es text) e.number
gone_left es e text this = gone_append es e text ∙ gone_kind e.kind (bytes_eq text e.text) (gone_of es text) e.number this

-- The first plan, if it is that of the part, and the others, if it isn't.
pub of_first : (p : Plan) (ps : List Plan) (k : FileKind) (n : ℕ) → is_of p k n ≡ true → plan_of (p ∷ ps) k n ≡ Some p
of_first p ps k n is = ap (λ (b : Bool). if b then Some p else plan_of ps k n) is

pub of_rest : (p : Plan) (ps : List Plan) (k : FileKind) (n : ℕ) → is_of p k n ≡ false → plan_of (p ∷ ps) k n ≡ plan_of ps k n
of_rest p ps k n isnt = ap (λ (b : Bool). if b then Some p else plan_of ps k n) isnt

-- What holds of each plan, and of one more.
pub each_plan : (P : Plan → Type 0) (plans : List Plan) (last : Plan) → ((i : ℕ) (p : Plan) → slice_get plans i ≡ Some p → P p) → P last → (i : ℕ) (p : Plan) → slice_get (plans ++ last ∷ []) i ≡ Some p → P p
each_plan P [] last each one zero p is = subst P (same_Some last p is) one
each_plan P [] last each one (suc i) p is = absurd (let wrong : None ≡ Some p = is in cc)
each_plan P (x ∷ xs) last each one zero p is = each zero p is
each_plan P (x ∷ xs) last each one (suc i) p is = each_plan P xs last (λ j q here. each (suc j) q here) one i p is

-- A plan is ready for the next entry: epochs before its own are planned whole, and none from it on.
pub record IsOpened (texts : Texts) (root : Root) (a : Archive) (es kept : List Entry) (n : ℕ) (mid : Planning) (plan : Planned) : Type 0 where
  pub entries : mid.entries ≡ stored_after a.config.form [] kept
  pub before : (x : ℕ) → x < n → planned texts (plan_of mid.plans kind.Epoch x) (bytes_in a x) ≡ epoch_bytes a.config.form (in_epoch kept x)
  pub after : (x : ℕ) → n ≤ x → plan_of mid.plans kind.Epoch x ≡ None
  pub map : (x : ℕ) → plan_of mid.plans kind.Map x ≡ None
  pub whole : (i : ℕ) (p : Plan) → slice_get mid.plans i ≡ Some p → IsPlanWhole texts p
  pub file : plan.file ≡ epoch_file_of root n
  pub form_is : plan.form ≡ a.config.form
  pub own_form : mid.form ≡ a.config.form
  pub is : IsPlanned texts (in_files (in_epoch es n)) (in_files (in_epoch kept n)) plan

-- The bytes of an epoch by its plan, if it has one.
pub planned_none : (texts : Texts) (p : Option Plan) (before : List ℕ) → p ≡ None → planned texts p before ≡ before
planned_none texts p before is = ap (λ (o : Option Plan). planned texts o before) is

pub epochs_same : (form : Form) (es fs : List Entry) → in_files fs ≡ in_files es → epoch_bytes form es ≡ epoch_bytes form fs
epochs_same form es fs is = file_is form es ∙ (ap (file_of form) (sym is) ∙ sym (file_is form fs))

-- The current epoch was closed: epochs up to it are planned whole, and none after it.
pub record IsShut (texts : Texts) (a : Archive) (es kept : List Entry) (mid : Planning) : Type 0 where
  pub entries : mid.entries ≡ stored_after a.config.form [] kept
  pub before : (x : ℕ) → x ≤ last_epoch es → planned texts (plan_of mid.plans kind.Epoch x) (bytes_in a x) ≡ epoch_bytes a.config.form (in_epoch kept x)
  pub after : (x : ℕ) → last_epoch es < x → plan_of mid.plans kind.Epoch x ≡ None
  pub map : (x : ℕ) → plan_of mid.plans kind.Map x ≡ None
  pub whole : (i : ℕ) (p : Plan) → slice_get mid.plans i ≡ Some p → IsPlanWhole texts p
  pub own_form : mid.form ≡ a.config.form

module _ (texts : Texts) (root : Root) (a : Archive) (es kept : List Entry) (old : Planning) (up : IsKeptUpTo texts root a es kept old) (c : Planned) (current : IsCurrent a.config.form texts root es kept (Some c))
    (reads : (x : ℕ) → x ≤ last_epoch es → bytes_in a x ≡ epoch_bytes a.config.form (in_epoch es x)) where
  pub shut : (finished : Option Plan) → FinishesPlan c finished → IsOfEpoch c.file finished → (mid : Planning) → ClosesAs (without_current old) finished mid → IsShut texts a es kept mid
  shut None finishes of mid stays = subst (IsShut texts a es kept) (sym stays) (record {
    entries = up.entries;
    before = λ x most. elim (cases_lt x (last_epoch es)) [
      | inl low ↦ up.before x low
      | inr high ↦
          let x_is : last_epoch es ≡ x = omega (arith, high, most) in
          let unchanged : in_files (in_epoch kept (last_epoch es)) ≡ in_files (in_epoch es (last_epoch es)) = finishes texts (in_files (in_epoch es (last_epoch es))) (in_files (in_epoch kept (last_epoch es))) current.1 in
          let so : epoch_bytes a.config.form (in_epoch es x) ≡ epoch_bytes a.config.form (in_epoch kept x) = subst (λ (n : ℕ). epoch_bytes a.config.form (in_epoch es n) ≡ epoch_bytes a.config.form (in_epoch kept n)) x_is (epochs_same a.config.form (in_epoch es (last_epoch es)) (in_epoch kept (last_epoch es)) unchanged) in
          planned_none texts (plan_of old.plans kind.Epoch x) (bytes_in a x) (up.after x high) ∙ (reads x most ∙ so)
    ];
    after = λ x high. up.after x (omega (arith, high));
    map = up.map;
    whole = up.whole;
    own_form = up.form;
  })
  shut (Some plan) finishes of mid pushed = subst (IsShut texts a es kept) (sym pushed.0) (record {
    entries = up.entries;
    before = λ x most. elim (equal_or_not x (last_epoch es)) [
      | inl x_is ↦
          let here : plan_of (old.plans ++ plan ∷ []) kind.Epoch x ≡ Some plan = of_more old.plans (plan ∷ []) kind.Epoch x (up.after x (omega (arith, x_is))) ∙ of_first plan [] kind.Epoch x (is_of_own plan kind.Epoch x of.kind (number_is ∙ sym x_is)) in
          let written : written_by texts plan ≡ file_of a.config.form (in_files (in_epoch kept x)) = subst (λ (n : ℕ). written_by texts plan ≡ file_of a.config.form (in_files (in_epoch kept n))) (sym x_is) whole_so.2 in
          ap (λ (o : Option Plan). planned texts o (bytes_in a x)) here
          ∙ (ap (λ (t : Target). bytes_by t (bytes_in a x) (written_by texts plan)) of.target ∙ (written ∙ sym (file_is a.config.form (in_epoch kept x))))
      | inr other ↦
          let stays : plan_of (old.plans ++ plan ∷ []) kind.Epoch x ≡ plan_of old.plans kind.Epoch x = of_others old.plans plan kind.Epoch x (other_part plan kind.Epoch x (λ k_is n_is. other (sym n_is ∙ number_is))) in
          ap (λ (o : Option Plan). planned texts o (bytes_in a x)) stays ∙ up.before x (omega (arith, most, other))
    ];
    after = λ x high. of_others old.plans plan kind.Epoch x (other_part plan kind.Epoch x (λ k_is n_is. (let n = number_is in absurd (omega (arith, n_is, n, high))))) ∙ up.after x (omega (arith, high));
    map = λ x. of_others old.plans plan kind.Map x (other_part plan kind.Map x (λ k_is n_is. absurd (let wrong : kind_index kind.Epoch ≡ kind_index kind.Map = ap kind_index (sym of.kind ∙ k_is) in omega (arith, wrong)))) ∙ up.map x;
    whole = each_plan (IsPlanWhole texts) old.plans plan up.whole whole_so.1;
    own_form = up.form;
  }) where
    number_is : plan.number ≡ last_epoch es
    number_is = of.number ∙ ap (λ (f : FileName). f.number) current.0

    whole_so : IsFinished a.config.form texts (in_files (in_epoch es (last_epoch es))) (in_files (in_epoch kept (last_epoch es))) (Some plan)
    whole_so =
        subst (λ (g : Form). IsFinished g texts (in_files (in_epoch es (last_epoch es))) (in_files (in_epoch kept (last_epoch es))) (Some plan)) current.2
        (finishes texts (in_files (in_epoch es (last_epoch es))) (in_files (in_epoch kept (last_epoch es))) current.1)

-- The next entry of an archive on its disk.
module _ (k : Content) (v : StoreState) (cache : List ℕ) (a : Archive) (own : IsDiskWith v cache a k) (es rest : List Entry) (e : Entry) (is : a.entries ≡ es ++ e ∷ rest) where
  rise : Rise 1 0 (es ++ e ∷ rest)
  rise = subst (Rise 1 0) is own.keeps.valid.order

  pub earlier : AllByRecursion (λ (f : Entry). f.epoch ≤ e.epoch) es
  earlier = earlier_ones 1 0 es e rest rise

  later : AllByRecursion (λ (f : Entry). e.epoch ≤ f.epoch) (e ∷ rest)
  later = later_ones 1 0 es e rest rise

  apart_later : (x : ℕ) → x < e.epoch → AllByRecursion (λ (f : Entry). f.epoch ≢ x) (e ∷ rest)
  apart_later x less = all_weaker (λ (f : Entry). e.epoch ≤ f.epoch) (λ (f : Entry). f.epoch ≢ x) (e ∷ rest) (λ f at same. absurd (omega (arith, at, same, less))) later

  -- The bytes of epochs before its own.
  bytes_before : (x : ℕ) → x < e.epoch → bytes_in a x ≡ epoch_bytes a.config.form (in_epoch es x)
  bytes_before x less = ap (λ (l : List Entry). epoch_bytes a.config.form (in_epoch l x)) is ∙ ap (epoch_bytes a.config.form) (in_epoch_front es (e ∷ rest) x (apart_later x less))

  -- No entry so far is in an epoch after the last one.
  none_so_far : (x : ℕ) → last_epoch es < x → AllByRecursion (λ (f : Entry). f.epoch ≢ x) es
  none_so_far x less = all_weaker (λ (f : Entry). f.epoch ≤ last_epoch es) (λ (f : Entry). f.epoch ≢ x) es (λ f low same. absurd (omega (arith, low, same, less))) (none_later es)

  entry : IsEntry e
  entry = one_of_all IsEntry es e rest (subst (AllByRecursion IsEntry) is own.keeps.valid.entries)

  bytes_are : bytes_in a e.epoch ≡ magic a.config.form ++ chain a.config.form None (in_files (in_epoch es e.epoch ++ e ∷ in_epoch rest e.epoch))
  bytes_are =
      ap (λ (l : List Entry). epoch_bytes a.config.form (in_epoch l e.epoch)) is
      ∙ (ap (epoch_bytes a.config.form) (in_epoch_split es e rest) ∙ whole_is a.config.form (in_epoch es e.epoch) e (in_epoch rest e.epoch))

  file_reads : texts_in k (epoch_file_of v.root e.epoch) ≡ bytes_in a e.epoch
  file_reads =
      let name = epoch_file_of v.root e.epoch in
      let generation = (get_or v.root.epochs e.epoch no_place).generation in
      let low = entry.epoch in
      let eight = magic_length a.config.form in
      let size = ap length bytes_are in
      let parts = length-append (magic a.config.form) (chain a.config.form None (in_files (in_epoch es e.epoch ++ e ∷ in_epoch rest e.epoch))) in
      let long = own.keeps.names.epochs e.epoch (omega (arith, low)) in
      let some : 0 < (get_or v.root.epochs e.epoch no_place).length = omega (arith, size, parts, eight, long) in
      own.on.exact.ends name (epoch_isnt_root e.epoch generation) ∙ text_named v.root (parts_of a cache) name (epoch_is_named v.root e.epoch generation (omega (arith, low)) some refl)

  -- Its file has it after those before.
  pub has_next : HasNext a.config.form (texts_in k) (epoch_file_of v.root e.epoch) (in_files (in_epoch es e.epoch)) (in_file e)
  has_next =
      let xs = in_epoch es e.epoch in
      let ys = in_epoch rest e.epoch in
      let more = chain a.config.form (Some (commit_after a.config.form (last_of a.config.form None (in_files xs)) (in_file e))) (in_files ys) in
      record {
        valid = record { text = entry.text; moment = entry.moment };
        rest = more;
        is = file_reads ∙ (bytes_are ∙ (ap (λ (b : List ℕ). magic a.config.form ++ b) (chain_split a.config.form None xs e ys) ∙ sym (append_assoc (magic a.config.form) (chain a.config.form None (in_files xs ++ in_file e ∷ [])) more)));
      }

  module _ (kept : List Entry) (old : Planning) (up : IsKeptUpTo (texts_in k) v.root a es kept old) (file : FileName) (file_by : file ≡ epoch_file_of v.root e.epoch) where
    abbrev top : ℕ
    top = last_epoch es

    top_low : top ≤ e.epoch
    top_low = last_at_most es e.epoch earlier

    -- An epoch that no entry is in so far.
    gap : (plans : List Plan) (x : ℕ) → x < e.epoch → plan_of plans kind.Epoch x ≡ None → AllByRecursion (λ (f : Entry). f.epoch ≢ x) es → planned (texts_in k) (plan_of plans kind.Epoch x) (bytes_in a x) ≡ epoch_bytes a.config.form (in_epoch kept x)
    gap plans x less none all =
        planned_none (texts_in k) (plan_of plans kind.Epoch x) (bytes_in a x) none
        ∙ (bytes_before x less ∙ (ap (epoch_bytes a.config.form) (in_epoch_none es x all) ∙ ap (epoch_bytes a.config.form) (sym (up.among x (in_epoch_none es x all)))))

    -- The plan of a file before its first entry.
    starts : AllByRecursion (λ (f : Entry). f.epoch ≢ e.epoch) es → IsPlanned (texts_in k) (in_files (in_epoch es e.epoch)) (in_files (in_epoch kept e.epoch)) (epoch_start old.form file)
    starts all =
        let here = in_epoch_none es e.epoch all in
        let none = up.among e.epoch here in
        record { plan = ap in_files (none ∙ sym here); parent = ap (λ (l : List Entry). last_of old.form None (in_files l)) (sym none) }

    first : es ≡ [] → IsOpened (texts_in k) v.root a es kept e.epoch (without_current old) (epoch_start old.form file)
    first none =
        let no : (x : ℕ) → AllByRecursion (λ (f : Entry). f.epoch ≢ x) es = λ x. subst (AllByRecursion (λ (f : Entry). f.epoch ≢ x)) (sym none) tt in
        let zero_is : top ≡ 0 = ap last_epoch none in
        record {
          entries = up.entries;
          before = λ x less. gap old.plans x less (up.after x (omega (arith, zero_is))) (no x);
          after = λ x high. up.after x (omega (arith, zero_is));
          map = up.map;
          whole = up.whole;
          file = file_by;
          form_is = up.form;
          own_form = up.form;
          is = starts (no e.epoch);
        }

    same : (c : Planned) → IsCurrent a.config.form (texts_in k) v.root es kept (Some c) → c.file ≡ file → IsOpened (texts_in k) v.root a es kept e.epoch (without_current old) c
    same c current here =
        let epoch_is : top ≡ e.epoch = ap (λ (f : FileName). f.number) (sym current.0 ∙ (here ∙ file_by)) in
        record {
          entries = up.entries;
          before = λ x less. up.before x (omega (arith, less, epoch_is));
          after = λ x high. up.after x (omega (arith, high, epoch_is));
          map = up.map;
          whole = up.whole;
          file = here ∙ file_by;
          form_is = current.2;
          own_form = up.form;
          is = subst (λ (n : ℕ). IsPlanned (texts_in k) (in_files (in_epoch es n)) (in_files (in_epoch kept n)) c) epoch_is current.1;
        }

    -- The current epoch is before this one, and was closed.
    module _ (c : Planned) (current : IsCurrent a.config.form (texts_in k) v.root es kept (Some c)) (apart : c.file ≢ file) where
      below : top < e.epoch
      below = elim (cases_lt top e.epoch) [
        | inl less ↦ less
        | inr high ↦ absurd (let low = top_low in let epoch_is : top ≡ e.epoch = omega (arith, low, high) in apart (current.0 ∙ (ap (epoch_file_of v.root) epoch_is ∙ sym file_by)))
      ]

      no_more : (x : ℕ) → top < x → AllByRecursion (λ (f : Entry). f.epoch ≢ x) es
      no_more x less = none_so_far x less

      closed : (finished : Option Plan) → FinishesPlan c finished → IsOfEpoch c.file finished → (mid : Planning) → ClosesAs (without_current old) finished mid → IsOpened (texts_in k) v.root a es kept e.epoch mid (epoch_start old.form file)
      closed finished finishes of mid closes =
          let less = below in
          let shut_so = shut (texts_in k) v.root a es kept old up c current (λ x low. bytes_before x (omega (arith, low, less))) finished finishes of mid closes in
          record {
            entries = shut_so.entries;
            before = λ x low. elim (cases_lt top x) [
              | inl above ↦ gap mid.plans x low (shut_so.after x above) (no_more x above)
              | inr most ↦ shut_so.before x (omega (arith, most))
            ];
            after = λ x high. shut_so.after x (omega (arith, high, less));
            map = shut_so.map;
            whole = shut_so.whole;
            file = file_by;
            form_is = up.form;
            own_form = shut_so.own_form;
            is = starts (no_more e.epoch less);
          }

    -- The plan of the entry's file, whatever was current.
    pub opened : (current : Option Planned) → IsCurrent a.config.form (texts_in k) v.root es kept current → (mid : Planning) (plan : Planned) → OpensBy old file current mid plan → IsOpened (texts_in k) v.root a es kept e.epoch mid plan
    opened None none mid plan by =
        subst (λ (p : Planning). IsOpened (texts_in k) v.root a es kept e.epoch p plan) (sym by.0) (subst (IsOpened (texts_in k) v.root a es kept e.epoch (without_current old)) (sym by.1) (first none))
    opened (Some c) current mid plan (inl here) =
        subst (λ (p : Planning). IsOpened (texts_in k) v.root a es kept e.epoch p plan) (sym here.2) (subst (IsOpened (texts_in k) v.root a es kept e.epoch (without_current old)) (sym here.1) (same c current here.0))
    opened (Some c) current mid plan (inr next) =
        subst (IsOpened (texts_in k) v.root a es kept e.epoch mid) (sym next.1) (closed c current next.0 next.2.0 next.2.1 next.2.2 mid next.2.3)

  -- One more entry was planned.
  module _ (kept : List Entry) (mid : Planning) (plan : Planned) (among : (x : ℕ) → in_epoch es x ≡ [] → in_epoch kept x ≡ []) (open_ : IsOpened (texts_in k) v.root a es kept e.epoch mid plan) (after : Planned) (after_file : after.file ≡ plan.file) (after_form : after.form ≡ plan.form) where
    here_more : in_files (in_epoch (es ++ e ∷ []) e.epoch) ≡ in_files (in_epoch es e.epoch) ++ in_file e ∷ []
    here_more = ap in_files (in_epoch-here es e e.epoch refl) ∙ files_more (in_epoch es e.epoch) e

    -- The planner then.
    abbrev pub with_plan : List StoredEntry → List ℕ → Planning
    with_plan entries gone = record { plans = mid.plans; entries = entries; gone = gone; current = Some after; form = mid.form }

    -- An epoch that still has no entry isn't the entry's own, and had none before.
    still_none : (x : ℕ) → in_epoch (es ++ e ∷ []) x ≡ [] → (e.epoch ≢ x) × (in_epoch es x ≡ [])
    still_none x none = elim (equal_or_not e.epoch x) [
      | inl same ↦ absurd (no_more (in_epoch es x) e (sym (in_epoch-here es e x same) ∙ none))
      | inr apart ↦ (apart, sym (in_epoch_front es (e ∷ []) x (apart, tt)) ∙ none)
    ] where
      no_more : (fs : List Entry) (f : Entry) → fs ++ f ∷ [] ≡ [] → ⊥
      no_more fs f is = let size : length (fs ++ f ∷ []) ≡ 0 = ap length is in let parts = length-append fs (f ∷ []) in absurd (omega (arith, size, parts))

    up_more : (stays : List Entry) (entries : List StoredEntry) (gone : List ℕ) → entries ≡ stored_after a.config.form [] stays → ((x : ℕ) → e.epoch ≢ x → in_epoch stays x ≡ in_epoch kept x)
        → IsPlanned (texts_in k) (in_files (in_epoch es e.epoch) ++ in_file e ∷ []) (in_files (in_epoch stays e.epoch)) after → IsKeptUpTo (texts_in k) v.root a (es ++ e ∷ []) stays (with_plan entries gone)
    up_more stays entries gone entries_are others planned_so =
        let n = last_more es e earlier in
        record {
          entries = entries_are;
          among = λ x none. (let so = still_none x none in others x so.0 ∙ among x so.1);
          before = λ x less. (let low : x < e.epoch = omega (arith, less, n) in open_.before x low ∙ ap (epoch_bytes a.config.form) (sym (others x (λ same. absurd (omega (arith, same, low))))));
          after = λ x high. open_.after x (omega (arith, high, n));
          map = open_.map;
          whole = open_.whole;
          current = subst (λ (m : ℕ). (after.file ≡ epoch_file_of v.root m) × IsPlanned (texts_in k) (in_files (in_epoch (es ++ e ∷ []) m)) (in_files (in_epoch stays m)) after × (after.form ≡ a.config.form)) (sym n) (
            after_file ∙ open_.file,
            subst (λ (l : List EpochEntry). IsPlanned (texts_in k) l (in_files (in_epoch stays e.epoch)) after) (sym here_more) planned_so,
            after_form ∙ open_.form_is,
          );
          form = open_.own_form;
        }

    pub up_kept : (made : StoredEntry) → made ≡ stored_at a.config.form kept e
        → IsPlanned (texts_in k) (in_files (in_epoch es e.epoch) ++ in_file e ∷ []) (in_files (in_epoch kept e.epoch) ++ in_file e ∷ []) after → IsKeptUpTo (texts_in k) v.root a (es ++ e ∷ []) (kept ++ e ∷ []) (with_plan (mid.entries ++ made ∷ []) mid.gone)
    up_kept made made_is planned_so =
        up_more (kept ++ e ∷ []) (mid.entries ++ made ∷ []) mid.gone
        (ap (λ (l : List StoredEntry). l ++ made ∷ []) open_.entries ∙ (ap (λ (s : StoredEntry). stored_after a.config.form [] kept ++ s ∷ []) made_is ∙ sym (stored_more a.config.form [] kept e)))
        (λ x apart. in_epoch_front kept (e ∷ []) x (apart, tt))
        (subst (λ (l : List EpochEntry). IsPlanned (texts_in k) (in_files (in_epoch es e.epoch) ++ in_file e ∷ []) l after)
        (sym (ap in_files (in_epoch-here kept e e.epoch refl) ∙ files_more (in_epoch kept e.epoch) e)) planned_so)

    pub up_left : (gone : List ℕ) → IsPlanned (texts_in k) (in_files (in_epoch es e.epoch) ++ in_file e ∷ []) (in_files (in_epoch kept e.epoch)) after → IsKeptUpTo (texts_in k) v.root a (es ++ e ∷ []) kept (with_plan mid.entries gone)
    up_left gone planned_so = up_more kept mid.entries gone open_.entries (λ x apart. refl) planned_so
