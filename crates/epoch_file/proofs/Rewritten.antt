-- An epoch's file that is written anew.
use Rattle.std.specs.Prelude.{◌≡◌, ◌+◌, ◌<◌, ◌≤◌, ℕ, zero, suc, Bool, true, false, List, [], ◌∷◌, ◌++◌, length, take, drop, get_or, Option, Some, None, Ok, Err, refl, if◌then◌else◌}
use Rattle.std.proofs.Common.{◌∙◌, sym, ap, subst, arith, append_assoc, length-append, length-take, take_all}
use Rattle.std.proofs.lemmas.List.{nil_from_length, take-append-drop, take_more}
use Rattle.arch_base.specs.declared.ids.Form.{Form}
use Rattle.arch_base.specs.declared.ids.ObjectId.{ObjectId}
use Rattle.disk_model.specs.declared.name.FileName.{FileName}
use Rattle.disk_model.specs.declared.name.FileKind.TheVariants.{Epoch}
use Rattle.disk_model.specs.declared.refusal.WalkRefusal.{WalkRefusal}
use Rattle.disk_model.specs.declared.refusal.WalkRefusal.TheVariants.{DiskFault, NoMemory, Damaged}
use Rattle.disk_model.specs.Disk.{Files, Content, Image, BothTold, WhereTold, Unchanged, bytes_of}
use Rattle.mail_commits.specs.Entries.{magic}
use Rattle.root_change.specs.Copying.{OtherFilesStay}
use Rattle.root_change.specs.declared.plan.Target.TheVariants.{Anew}
use Rattle.root_change.specs.Gathering.{HasSources, PutSources, gathered}
use Rattle.root_change.specs.Rewriting.{Plan, no_plan, plan_count, with_range}
use Rattle.root_change.proofs.Drops.{not_both}
use Rattle.root_change.proofs.Plans.{written_long, written_with_range}
use Rattle.root_change.proofs.Pushes.{plan_put, sources_there, whole_with_range}
use Rattle.epoch_file.specs.declared.entry.Seen.{Seen}
use Rattle.epoch_file.specs.Entries.{EpochEntry, IsEpochEntry, AreEpochEntries, bytes_after, chain, commit_after, epoch_of, last_of}
use Rattle.epoch_file.specs.Planning.{FinishesPlan, HasNext, IsFinished, IsPlanned, KeepsNext, LeavesNext, Planned, PlansFile, PlansWhole, RewritesEpoch, TakesNext, file_of, is_among, kept_from, staying_with, seen_after, texts_in}
use Rattle.epoch_file.specs.Walking.{IsEpoch, WalksEpoch, seen_at, seen_from}
use Rattle.epoch_file.proofs.Chains.{length-magic, length-seen}
use Rattle.epoch_file.proofs.Planned.{none_there}

-- Entries after others.
chain-append : (form : Form) (parent : Option ObjectId) (xs ys : List EpochEntry) → chain form parent (xs ++ ys) ≡ chain form parent xs ++ chain form (last_of form parent xs) ys
chain-append form parent [] ys = refl
chain-append form parent (x ∷ xs) ys =
    let next = Some (commit_after form parent x) in
    ap (λ (l : List ℕ). bytes_after form parent x ++ l) (chain-append form next xs ys) ∙ sym (append_assoc (bytes_after form parent x) (chain form next xs) (chain form (last_of form next xs) ys))

-- Each entry of a file may be there.
valid_at : (es : List EpochEntry) (i : ℕ) (d : EpochEntry) → AreEpochEntries es → i < length es → IsEpochEntry (get_or es i d)
valid_at [] i d valid below = absurd (omega (arith, below))
valid_at (e ∷ es) zero d valid below = valid.0
valid_at (e ∷ es) (suc i) d valid below = valid_at es i d valid.1 (omega (arith, below))

-- What is recorded of an entry among others.
seen_index : (form : Form) (offset : ℕ) (parent : Option ObjectId) (es : List EpochEntry) (i : ℕ) (s : Seen) (d : EpochEntry) → i < length es → get_or (seen_from form offset parent es) i s ≡ seen_at form (offset + length (chain form parent (take i es))) (last_of form parent (take i es)) (get_or es i d)
seen_index form offset parent [] i s d below = absurd (omega (arith, below))
seen_index form offset parent (e ∷ es) zero s d below = ap (λ (n : ℕ). seen_at form n parent e) (omega arith)
seen_index form offset parent (e ∷ es) (suc i) s d below =
    let next = Some (commit_after form parent e) in
    let size = length (bytes_after form parent e) in
    let at : offset + size + length (chain form next (take i es)) ≡ offset + length (bytes_after form parent e ++ chain form next (take i es)) = omega (arith, length-append (bytes_after form parent e) (chain form next (take i es))) in
    seen_index form (offset + size) next es i s d (omega (arith, below)) ∙ ap (λ (n : ℕ). seen_at form n (last_of form next (take i es)) (get_or es i d)) at

-- One entry more stays, or is left out.
kept_choice : (a b : Bool) (x e : EpochEntry) (k : List EpochEntry) → (if a then staying_with b k e else x ∷ staying_with b k e) ≡ staying_with b (if a then k else x ∷ k) e
kept_choice true b x e k = refl
kept_choice false true x e k = refl
kept_choice false false x e k = refl

kept_more : (gone : List ℕ) (n : ℕ) (xs : List EpochEntry) (e : EpochEntry) → kept_from gone n (xs ++ e ∷ []) ≡ staying_with (is_among gone (n + length xs)) (kept_from gone n xs) e
kept_more gone n [] e = ap (λ (m : ℕ). if is_among gone m then [] else e ∷ []) (omega arith)
kept_more gone n (x ∷ xs) e =
    let at : n + 1 + length xs ≡ n + length (x ∷ xs) = omega arith in
    let rest = kept_more gone (n + 1) xs e ∙ ap (λ (m : ℕ). staying_with (is_among gone m) (kept_from gone (n + 1) xs) e) at in
    ap (λ (l : List EpochEntry). if is_among gone n then l else x ∷ l) rest ∙ kept_choice (is_among gone n) (is_among gone (n + length (x ∷ xs))) x e (kept_from gone (n + 1) xs)

-- An entry that is left out, or stays, is taken.
pub taken_left : (old new : Planned) (seen : Seen) (leaves : Bool) (k : Option Content) → leaves ≡ true → LeavesNext old seen new → WhereTold (TakesNext old seen leaves new (Ok tt)) k
taken_left old new seen leaves None is left = tt
taken_left old new seen leaves (Some c) is left = λ es kept e planned next seen_is.
    subst (λ (b : Bool). IsPlanned (texts_in c) (es ++ e ∷ []) (staying_with b kept e) new) (sym is) (left (texts_in c) es kept e planned next seen_is)

pub taken_kept : (old new : Planned) (seen made : Seen) (leaves : Bool) (k : Option Content) → leaves ≡ false → WhereTold (KeepsNext old seen new (Ok made)) k → WhereTold (TakesNext old seen leaves new (Ok tt)) k
taken_kept old new seen made leaves None is keeps = tt
taken_kept old new seen made leaves (Some c) is keeps = λ es kept e planned next seen_is.
    subst (λ (b : Bool). IsPlanned (texts_in c) (es ++ e ∷ []) (staying_with b kept e) new) (sym is) (keeps es kept e planned next seen_is).1

pub taken_refused : (old new : Planned) (seen : Seen) (leaves : Bool) (refusal : WalkRefusal) (k : Option Content) → WhereTold (KeepsNext old seen new (Err refusal)) k → WhereTold (TakesNext old seen leaves new (Err refusal)) k
taken_refused old new seen leaves refusal None keeps = tt
taken_refused old new seen leaves DiskFault (Some c) keeps = λ es kept e planned next seen_is. tt
taken_refused old new seen leaves NoMemory (Some c) keeps = λ es kept e planned next seen_is. tt
taken_refused old new seen leaves (Damaged at) (Some c) keeps = keeps

-- The first entries of a file are planned.
abbrev pub PlannedTo : Form → FileName → List Seen → List ℕ → ℕ → Planned → Content → Type 0
PlannedTo form file seen gone i plan k = (n : ℕ) (is : IsEpoch form n (bytes_of (k file).seen) seen)
    → IsPlanned (texts_in k) (take i is.entries) (kept_from gone 0 (take i is.entries)) plan

-- The next entry of a file.
record IsNext (form : Form) (file : FileName) (seen : Seen) (i : ℕ) (es : List EpochEntry) (k : Content) : Type 0 where
  entry : EpochEntry
  next : HasNext form (texts_in k) file (take i es) entry
  is : seen ≡ seen_after form (take i es) entry
  more : take (i + 1) es ≡ take i es ++ entry ∷ []

next_of : (form : Form) (file : FileName) (seen : List Seen) (i n : ℕ) (s : Seen) (d : EpochEntry) (k : Content) → i < length seen → (epoch : IsEpoch form n (bytes_of (k file).seen) seen) → IsNext form file (get_or seen i s) i epoch.entries k
next_of form file seen i n s d k below epoch =
    let es = epoch.entries in
    let bytes = bytes_of (k file).seen in
    let within : i < length es = omega (arith, below, ap (λ (l : List Seen). length l) epoch.is, length-seen form 8 None es) in
    let e = get_or es i d in
    let front = take i es in
    let more : take (i + 1) es ≡ front ++ e ∷ [] = take_more es i d within in
    let last = front ++ e ∷ [] in
    let others = drop (i + 1) es in
    let parts : last ++ others ≡ es = ap (λ (l : List EpochEntry). l ++ others) (sym more) ∙ take-append-drop (i + 1) es in
    let rest = chain form (last_of form None last) others in
    let whole : epoch_of form es ≡ epoch_of form last ++ rest =
    ap (epoch_of form) (sym parts) ∙ (ap (λ (l : List ℕ). magic form ++ l) (chain-append form None last others) ∙ sym (append_assoc (magic form) (chain form None last) rest)) in
    let file_is : bytes ≡ epoch_of form last ++ (rest ++ drop n bytes) =
    sym (take-append-drop n bytes) ∙ (ap (λ (l : List ℕ). l ++ drop n bytes) (epoch.spelled ∙ whole) ∙ append_assoc (epoch_of form last) rest (drop n bytes)) in
    let at : 8 + length (chain form None front) ≡ length (epoch_of form front) = omega (arith, length-magic form, length-append (magic form) (chain form None front)) in
    record {
      entry = e;
      next = record { valid = valid_at es i d epoch.valid within; rest = rest ++ drop n bytes; is = file_is };
      is = ap (λ (l : List Seen). get_or l i s) epoch.is ∙ (seen_index form 8 None es i s d within ∙ ap (λ (m : ℕ). seen_at form m (last_of form None front) e) at);
      more = more;
    }

-- Any entry.
some_entry : (es : List EpochEntry) → 0 < length es → EpochEntry
some_entry [] some = absurd (omega (arith, some))
some_entry (e ∷ es) some = e

-- One entry more is planned.
planned_now : (form : Form) (file : FileName) (seen : List Seen) (gone : List ℕ) (i : ℕ) (s : Seen) (old new : Planned) (k : Content) → i < length seen → old.file ≡ file → old.form ≡ form → TakesNext old (get_or seen i s) (is_among gone i) new (Ok tt) k → PlannedTo form file seen gone i old k → PlannedTo form file seen gone (i + 1) new k
planned_now form file seen gone i s old new k below file_is form_is takes planned = λ n epoch.
    let es = epoch.entries in
    let next = subst (λ (f : Form). IsNext f file (get_or seen i s) i es k) (sym form_is) (next_of form file seen i n s (some_entry es epoch.some) k below epoch) in
    let there = subst (λ (f : FileName). HasNext old.form (texts_in k) f (take i es) next.entry) (sym file_is) next.next in
    let taken = takes (take i es) (kept_from gone 0 (take i es)) next.entry (planned n epoch) there next.is in
    let within : i < length es = omega (arith, below, ap (λ (l : List Seen). length l) epoch.is, length-seen form 8 None es) in
    let size : 0 + length (take i es) ≡ i = omega (arith, within, length-take i es) in
    let kept : staying_with (is_among gone i) (kept_from gone 0 (take i es)) next.entry ≡ kept_from gone 0 (take (i + 1) es) =
    ap (λ (m : ℕ). staying_with (is_among gone m) (kept_from gone 0 (take i es)) next.entry) (sym size) ∙ (sym (kept_more gone 0 (take i es) next.entry) ∙ ap (kept_from gone 0) (sym next.more)) in
    subst (λ (l : List EpochEntry). IsPlanned (texts_in k) (take (i + 1) es) l new) kept
    (subst (λ (l : List EpochEntry). IsPlanned (texts_in k) l (staying_with (is_among gone i) (kept_from gone 0 (take i es)) next.entry) new) (sym next.more) taken)

-- A disk that tells the same content.
content_same : (k m : Content) → Unchanged k m → m ≡ k
content_same k m same = λ i (name : FileName). same name i

pub told_on : (P : Content → Type 0) (k m : Option Content) → BothTold Unchanged k m → WhereTold P k → WhereTold P m
told_on P None None same told = tt
told_on P None (Some d) same told = absurd same
told_on P (Some c) None same told = absurd same
told_on P (Some c) (Some d) same told = subst P (sym (content_same c d same)) told

pub told_back : (P : Content → Type 0) (k m : Option Content) → BothTold Unchanged k m → WhereTold P m → WhereTold P k
told_back P None None same told = tt
told_back P None (Some d) same told = absurd same
told_back P (Some c) None same told = absurd same
told_back P (Some c) (Some d) same told = subst P (content_same c d same) told

pub image_back : (k m : Option Content) → BothTold Unchanged k m → (image : Files) → Image m image → Image k image
image_back None None same image left = tt
image_back None (Some d) same image left = absurd same
image_back (Some c) None same image left = absurd same
image_back (Some c) (Some d) same image left = subst (λ (l : Content). Image (Some l) image) (content_same c d same) left

pub unchanged_then : (k m o : Option Content) → BothTold Unchanged k m → BothTold Unchanged m o → BothTold Unchanged k o
unchanged_then None None None first second = tt
unchanged_then None None (Some e) first second = absurd second
unchanged_then None (Some d) o first second = absurd first
unchanged_then (Some c) None o first second = absurd first
unchanged_then (Some c) (Some d) None first second = absurd second
unchanged_then (Some c) (Some d) (Some e) first second = λ name. second name ∙ first name

pub planned_more : (form : Form) (file : FileName) (seen : List Seen) (gone : List ℕ) (i : ℕ) (s : Seen) (old new : Planned) (k m : Option Content) → i < length seen → old.file ≡ file → old.form ≡ form → BothTold Unchanged k m → WhereTold (TakesNext old (get_or seen i s) (is_among gone i) new (Ok tt)) k → WhereTold (PlannedTo form file seen gone i old) k
    → WhereTold (PlannedTo form file seen gone (i + 1) new) m
planned_more form file seen gone i s old new None None below file_is form_is same takes planned = tt
planned_more form file seen gone i s old new None (Some d) below file_is form_is same takes planned = absurd same
planned_more form file seen gone i s old new (Some c) None below file_is form_is same takes planned = absurd same
planned_more form file seen gone i s old new (Some c) (Some d) below file_is form_is same takes planned =
    told_on (PlannedTo form file seen gone (i + 1) new) (Some c) (Some d) same (planned_now form file seen gone i s old new c below file_is form_is takes planned)

-- An entry that is there isn't damaged.
refused_at : (form : Form) (file : FileName) (seen : List Seen) (gone : List ℕ) (i : ℕ) (s : Seen) (old new : Planned) (refusal : WalkRefusal) (k : Content) → i < length seen → old.file ≡ file → old.form ≡ form → TakesNext old (get_or seen i s) (is_among gone i) new (Err refusal) k → PlannedTo form file seen gone i old k → PlansWhole form file seen gone (Err refusal) k
refused_at form file seen gone i s old new DiskFault k below file_is form_is takes planned = λ n epoch. tt
refused_at form file seen gone i s old new NoMemory k below file_is form_is takes planned = λ n epoch. tt
refused_at form file seen gone i s old new (Damaged at) k below file_is form_is takes planned = λ n epoch.
    let es = epoch.entries in
    let next = subst (λ (f : Form). IsNext f file (get_or seen i s) i es k) (sym form_is) (next_of form file seen i n s (some_entry es epoch.some) k below epoch) in
    let there = subst (λ (f : FileName). HasNext old.form (texts_in k) f (take i es) next.entry) (sym file_is) next.next in
    takes (take i es) (kept_from gone 0 (take i es)) next.entry (planned n epoch) there next.is

pub entries_refused : (form : Form) (file : FileName) (seen : List Seen) (gone : List ℕ) (i : ℕ) (s : Seen) (old new : Planned) (refusal : WalkRefusal) (k m : Option Content) → i < length seen → old.file ≡ file → old.form ≡ form → BothTold Unchanged k m → WhereTold (TakesNext old (get_or seen i s) (is_among gone i) new (Err refusal)) m → WhereTold (PlannedTo form file seen gone i old) m
    → WhereTold (PlansWhole form file seen gone (Err refusal)) k
entries_refused form file seen gone i s old new refusal None m below file_is form_is same takes planned = tt
entries_refused form file seen gone i s old new refusal (Some c) None below file_is form_is same takes planned = absurd same
entries_refused form file seen gone i s old new refusal (Some c) (Some d) below file_is form_is same takes planned =
    told_back (PlansWhole form file seen gone (Err refusal)) (Some c) (Some d) same (refused_at form file seen gone i s old new refusal d below file_is form_is takes planned)

-- All entries are planned.
whole_now : (form : Form) (file : FileName) (seen : List Seen) (gone : List ℕ) (i : ℕ) (plan : Planned) (result : Option Plan) (k : Content) → length seen ≤ i → plan.form ≡ form → FinishesPlan plan result → PlannedTo form file seen gone i plan k → PlansWhole form file seen gone (Ok result) k
whole_now form file seen gone i plan result k most form_is finishes planned = λ n epoch.
    let es = epoch.entries in
    let all : take i es ≡ es = take_all i es (omega (arith, most, ap (λ (l : List Seen). length l) epoch.is, length-seen form 8 None es)) in
    subst (λ (f : Form). IsFinished f (texts_in k) es (kept_from gone 0 es) result) form_is
    (finishes (texts_in k) es (kept_from gone 0 es) (subst (λ (l : List EpochEntry). IsPlanned (texts_in k) l (kept_from gone 0 l) plan) all (planned n epoch)))

pub entries_whole : (form : Form) (file : FileName) (seen : List Seen) (gone : List ℕ) (i : ℕ) (plan : Planned) (result : Option Plan) (k m : Option Content) → length seen ≤ i → plan.form ≡ form → FinishesPlan plan result → BothTold Unchanged k m → WhereTold (PlannedTo form file seen gone i plan) m → WhereTold (PlansWhole form file seen gone (Ok result)) k
entries_whole form file seen gone i plan result None m most form_is finishes same planned = tt
entries_whole form file seen gone i plan result (Some c) None most form_is finishes same planned = absurd same
entries_whole form file seen gone i plan result (Some c) (Some d) most form_is finishes same planned =
    told_back (PlansWhole form file seen gone (Ok result)) (Some c) (Some d) same (whole_now form file seen gone i plan result d most form_is finishes planned)

-- The plan of the file, without or with a change.
pub file_changed : (form : Form) (file : FileName) (n : ℕ) (seen : List Seen) (gone : List ℕ) (plan : Plan) (k : Option Content) → WhereTold (PlansWhole form file seen gone (Ok (Some plan))) k → WhereTold (PlansFile form file n seen gone (Ok plan)) k
file_changed form file n seen gone plan None whole = tt
file_changed form file n seen gone plan (Some c) whole = λ epoch. (let all = whole n epoch in (all.1, all.2))

some_file : (form : Form) (es : List EpochEntry) → 0 < length es → epoch_of form es ≡ file_of form es
some_file form [] some = absurd (omega (arith, some))
some_file form (e ∷ es) some = refl

copy_now : (form : Form) (file : FileName) (n : ℕ) (seen : List Seen) (gone : List ℕ) (k : Content) → PlansWhole form file seen gone (Ok None) k → PlansFile form file n seen gone (Ok (with_range (no_plan Epoch file.number Anew) file 0 n)) k
copy_now form file n seen gone k whole = λ epoch.
    let es = epoch.entries in
    let bytes = bytes_of (k file).seen in
    let empty = no_plan Epoch file.number Anew in
    let long : 0 + n ≤ length bytes = omega (arith, epoch.whole, ap (λ (l : List ℕ). length l) epoch.spelled, length-take n bytes) in (
      whole_with_range (texts_in k) empty file 0 n (λ i s wrong. absurd (none_there i s wrong)) long,
      written_with_range (texts_in k) empty file 0 n ∙ (epoch.spelled ∙ (some_file form es epoch.some ∙ ap (file_of form) (sym (whole n epoch)))),
    )

pub file_same : (form : Form) (file : FileName) (n : ℕ) (seen : List Seen) (gone : List ℕ) (plan : Plan) (k : Option Content) → plan ≡ with_range (no_plan Epoch file.number Anew) file 0 n → WhereTold (PlansWhole form file seen gone (Ok None)) k → WhereTold (PlansFile form file n seen gone (Ok plan)) k
file_same form file n seen gone plan None is whole = tt
file_same form file n seen gone plan (Some c) is whole = subst (λ (p : Plan). PlansFile form file n seen gone (Ok p) c) (sym is) (copy_now form file n seen gone c whole)

pub file_refused : (form : Form) (file : FileName) (n : ℕ) (seen : List Seen) (gone : List ℕ) (refusal : WalkRefusal) (k : Option Content) → WhereTold (PlansWhole form file seen gone (Err refusal)) k → WhereTold (PlansFile form file n seen gone (Err refusal)) k
file_refused form file n seen gone refusal None whole = tt
file_refused form file n seen gone DiskFault (Some c) whole = tt
file_refused form file n seen gone NoMemory (Some c) whole = tt
file_refused form file n seen gone (Damaged at) (Some c) whole = λ epoch. whole n epoch

-- The epoch can't be read, or not planned.
walk_now : (form : Form) (from : FileName) (n : ℕ) (to : FileName) (gone : List ℕ) (refusal : WalkRefusal) (k m : Content) → WalksEpoch form n (bytes_of (k from).seen) (Err refusal) → Unchanged k m → RewritesEpoch form from n to gone k m (Err refusal)
walk_now form from n to gone DiskFault k m walks same = tt
walk_now form from n to gone NoMemory k m walks same = same
walk_now form from n to gone (Damaged at) k m walks same = (walks, same)

pub walk_refused : (form : Form) (from : FileName) (n : ℕ) (to : FileName) (gone : List ℕ) (refusal : WalkRefusal) (k m : Option Content) → WhereTold (λ c. WalksEpoch form n (bytes_of (c from).seen) (Err refusal)) k → BothTold Unchanged k m → BothTold (λ c d. RewritesEpoch form from n to gone c d (Err refusal)) k m
walk_refused form from n to gone refusal None None walks same = tt
walk_refused form from n to gone refusal None (Some d) walks same = absurd same
walk_refused form from n to gone refusal (Some c) None walks same = absurd same
walk_refused form from n to gone refusal (Some c) (Some d) walks same = walk_now form from n to gone refusal c d walks same

plan_now : (form : Form) (from : FileName) (n : ℕ) (to : FileName) (seen : List Seen) (gone : List ℕ) (refusal : WalkRefusal) (k m : Content) → IsEpoch form n (bytes_of (k from).seen) seen → PlansFile form from n seen gone (Err refusal) k → Unchanged k m → RewritesEpoch form from n to gone k m (Err refusal)
plan_now form from n to seen gone DiskFault k m epoch plans same = tt
plan_now form from n to seen gone NoMemory k m epoch plans same = same
plan_now form from n to seen gone (Damaged at) k m epoch plans same = absurd (plans epoch)

pub plan_refused : (form : Form) (from : FileName) (n : ℕ) (to : FileName) (seen : List Seen) (gone : List ℕ) (refusal : WalkRefusal) (k m : Option Content) → WhereTold (λ c. WalksEpoch form n (bytes_of (c from).seen) (Ok seen)) k → WhereTold (PlansFile form from n seen gone (Err refusal)) k → BothTold Unchanged k m → BothTold (λ c d. RewritesEpoch form from n to gone c d (Err refusal)) k m
plan_refused form from n to seen gone refusal None None epoch plans same = tt
plan_refused form from n to seen gone refusal None (Some d) epoch plans same = absurd same
plan_refused form from n to seen gone refusal (Some c) None epoch plans same = absurd same
plan_refused form from n to seen gone refusal (Some c) (Some d) epoch plans same = plan_now form from n to seen gone refusal c d epoch plans same

-- The plan was carried out.
written_now : (form : Form) (from : FileName) (n : ℕ) (to : FileName) (seen : List Seen) (gone : List ℕ) (plan : Plan) (long : ℕ) (k m : Content) → IsEpoch form n (bytes_of (k from).seen) seen → PlansFile form from n seen gone (Ok plan) k → long ≡ plan_count plan → PutSources plan.bytes plan.sources to 0 k m → RewritesEpoch form from n to gone k m (Ok long)
written_now form from n to seen gone plan long k m epoch plans count put =
    let all = plans epoch in
    let kept = kept_from gone 0 epoch.entries in
    let whole : plan_count plan ≡ length (file_of form kept) = sym (written_long (texts_in k) plan all.0) ∙ ap (λ (l : List ℕ). length l) all.1 in (
      seen,
      epoch,
      count ∙ whole,
      λ none. plan_put plan to k m put none ∙ all.1,
      λ none. put.added.alone (nil_from_length (gathered plan.bytes k plan.sources) (put.full ∙ (whole ∙ ap (λ (es : List EpochEntry). length (file_of form es)) none))),
    )

pub written_whole : (form : Form) (from : FileName) (n : ℕ) (to : FileName) (seen : List Seen) (gone : List ℕ) (plan : Plan) (long : ℕ) (k m o : Option Content) → WhereTold (λ c. WalksEpoch form n (bytes_of (c from).seen) (Ok seen)) k → WhereTold (PlansFile form from n seen gone (Ok plan)) k → long ≡ plan_count plan → BothTold Unchanged k m → BothTold (PutSources plan.bytes plan.sources to 0) m o
    → BothTold (λ c d. RewritesEpoch form from n to gone c d (Ok long)) k o
written_whole form from n to seen gone plan long None None None epoch plans count same put = tt
written_whole form from n to seen gone plan long None None (Some e) epoch plans count same put = absurd put
written_whole form from n to seen gone plan long None (Some d) o epoch plans count same put = absurd same
written_whole form from n to seen gone plan long (Some c) None o epoch plans count same put = absurd same
written_whole form from n to seen gone plan long (Some c) (Some d) None epoch plans count same put = absurd put
written_whole form from n to seen gone plan long (Some c) (Some d) (Some e) epoch plans count same put =
    written_now form from n to seen gone plan long c e epoch plans count (subst (λ (l : Content). PutSources plan.bytes plan.sources to 0 l e) (content_same c d same) put)

-- The plan is whole where the epoch was read.
pub never_short : (form : Form) (from : FileName) (n : ℕ) (to : FileName) (seen : List Seen) (gone : List ℕ) (at : ℕ) (plan : Plan) (whole : Bool) (k m o : Option Content) → WhereTold (λ c. WalksEpoch form n (bytes_of (c from).seen) (Ok seen)) k → WhereTold (PlansFile form from n seen gone (Ok plan)) k → BothTold Unchanged k m → BothTold (OtherFilesStay to) m o
    → (HasSources plan.bytes m plan.sources → whole ≡ true) → whole ≡ false → BothTold (λ c d. RewritesEpoch form from n to gone c d (Err (Damaged at))) k o
never_short form from n to seen gone at plan whole None None None epoch plans same others all short = tt
never_short form from n to seen gone at plan whole None None (Some e) epoch plans same others all short = absurd others
never_short form from n to seen gone at plan whole None (Some d) o epoch plans same others all short = absurd same
never_short form from n to seen gone at plan whole (Some c) None o epoch plans same others all short = absurd same
never_short form from n to seen gone at plan whole (Some c) (Some d) None epoch plans same others all short = absurd others
never_short form from n to seen gone at plan whole (Some c) (Some d) (Some e) epoch plans same others all short =
    let there = subst (λ (l : Content). HasSources plan.bytes (Some l) plan.sources) (sym (content_same c d same)) (sources_there plan c (plans epoch).0) in
    absurd (not_both whole (all there) short)
