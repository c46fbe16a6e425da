-- Plans of an epoch's file without some of its entries.
use Rattle.std.specs.Prelude.{◌≡◌, ◌+◌, ◌<◌, ◌≤◌, ℕ, List, [], ◌∷◌, ◌++◌, codes, length, drop, take, slice_get, Bool, true, false, Option, Some, None, Result, Ok, Err, is_some, not, refl}
use Rattle.std.proofs.Common.{◌∙◌, sym, ap, subst, arith, length-append, length-drop, length-take}
use Rattle.std.proofs.lemmas.List.{append_assoc, append-nil, drop_all}
use Rattle.arch_base.specs.declared.ids.Form.{Form}
use Rattle.arch_base.specs.declared.ids.ObjectId.{ObjectId}
use Rattle.arch_base.specs.contracts.ids.ObjectIdPartialEq.TheImpl as code
use Rattle.arch_base.proofs.IdOrder.{id_eq-Decides, id_eq-refl, same_ids}
use Rattle.disk_model.specs.BigEndian.{front_is, rest_is}
use Rattle.disk_model.specs.declared.name.FileName.{FileName}
use Rattle.disk_model.specs.declared.name.FileKind.TheVariants.{Epoch}
use Rattle.disk_model.specs.declared.refusal.WalkRefusal.{WalkRefusal}
use Rattle.disk_model.specs.declared.refusal.WalkRefusal.TheVariants.{DiskFault, NoMemory, Damaged}
use Rattle.disk_model.specs.Disk.{Content, HasRead, WhereTold, bytes_of}
use Rattle.git_objects.specs.Objects.{blob_id_of, blob_spelling}
use Rattle.git_objects.specs.Trees.{tree_size}
use Rattle.mail_commits.specs.Entries.{commit_id, commit_text, entry_bytes, tree_of}
use Rattle.root_change.specs.Copying.{file_range, range_of}
use Rattle.root_change.specs.declared.plan.Target.TheVariants.{Anew}
use Rattle.root_change.specs.Rewriting.{Plan, IsPlan, no_plan, plan_count, with_bytes, with_range, written_by}
use Rattle.root_change.specs.Texts.{Texts}
use Rattle.root_change.proofs.Plans.{written_long, written_with_bytes, written_with_range}
use Rattle.root_change.proofs.Pushes.{whole_with_bytes, whole_with_range}
use Rattle.epoch_file.specs.declared.entry.Seen.{Seen}
use Rattle.epoch_file.specs.declared.planning.NewCommit.{NewCommit}
use Rattle.epoch_file.specs.Entries.{EpochEntry, bytes_after, commit_after, epoch_of, last_of}
use Rattle.epoch_file.specs.Planning.{Checks, CommitsAnew, CopiesEntry, FinishesPlan, HasNext, IsAnew, IsMoved, IsPlanOf, IsPlanned, KeepsNext, LacksText, LeavesNext, Planned, TellsLack, file_of, seen_after, texts_in}
use Rattle.epoch_file.specs.Walking.{blob_front, seen_at}
use Rattle.epoch_file.proofs.Chains.{epoch-push, last-push}
use Rattle.epoch_file.proofs.Sizes.{head_first, head_of, length-blob, length-head, length-tree, tree_by_blob}

-- The blob and the tree of an entry.
abbrev pub copied : Form → EpochEntry → List ℕ
copied form e = blob_spelling e.text ++ tree_of form e.kind e.text

-- The commit of an entry after a parent.
abbrev pub commit_bytes : Form → Option ObjectId → EpochEntry → List ℕ
commit_bytes form parent e = commit_text form e.kind e.text e.moment parent

-- An entry is its blob, its tree and its commit.
entry_parts : (form : Form) (parent : Option ObjectId) (e : EpochEntry) → bytes_after form parent e ≡ copied form e ++ commit_bytes form parent e
unfolding entry_bytes
entry_parts form parent e = sym (append_assoc (blob_spelling e.text) (tree_of form e.kind e.text) (commit_bytes form parent e))

length-copied : (form : Form) (e : EpochEntry) → length (copied form e) ≡ blob_front e.text + length e.text + tree_size form
length-copied form e = omega (arith, length-append (blob_spelling e.text) (tree_of form e.kind e.text), length-blob e.text, length-tree form e.kind e.text)

-- The bytes of a file around the next entry's blob and tree.
file_parts : (form : Form) (bytes rest : List ℕ) (es : List EpochEntry) (e : EpochEntry) → bytes ≡ epoch_of form (es ++ e ∷ []) ++ rest → bytes ≡ epoch_of form es ++ (copied form e ++ (commit_bytes form (last_of form None es) e ++ rest))
file_parts form bytes rest es e is =
    let parent = last_of form None es in
    is
    ∙ (ap (λ (l : List ℕ). l ++ rest) (epoch-push form es e)
    ∙ (append_assoc (epoch_of form es) (bytes_after form parent e) rest
    ∙ ap (λ (l : List ℕ). epoch_of form es ++ l) (ap (λ (l : List ℕ). l ++ rest) (entry_parts form parent e) ∙ append_assoc (copied form e) (commit_bytes form parent e) rest)))

-- The blob and the tree are a range of the file.
copied_range : (form : Form) (bytes rest : List ℕ) (es : List EpochEntry) (e : EpochEntry) (n : ℕ) → bytes ≡ epoch_of form (es ++ e ∷ []) ++ rest → n ≡ length (copied form e) → range_of bytes (length (epoch_of form es)) n ≡ copied form e
copied_range form bytes rest es e n is size =
    let after = commit_bytes form (last_of form None es) e ++ rest in
    let at = length (epoch_of form es) in
    ap (λ (m : ℕ). range_of bytes at m) size
    ∙ front_is (length (copied form e)) (drop at bytes) (copied form e) after refl (rest_is at bytes (epoch_of form es) (copied form e ++ after) refl (file_parts form bytes rest es e is))

-- So is the text.
text_range : (form : Form) (bytes rest : List ℕ) (es : List EpochEntry) (e : EpochEntry) → bytes ≡ epoch_of form (es ++ e ∷ []) ++ rest → range_of bytes (length (epoch_of form es) + blob_front e.text) (length e.text) ≡ e.text
text_range form bytes rest es e is =
    let head = head_of (codes "blob ") (length e.text) in
    let after = tree_of form e.kind e.text ++ (commit_bytes form (last_of form None es) e ++ rest) in
    let front = epoch_of form es ++ head in
    let blob : blob_spelling e.text ≡ head ++ e.text = head_first (codes "blob ") e.text (length e.text) in
    let inner : copied form e ++ (commit_bytes form (last_of form None es) e ++ rest) ≡ head ++ (e.text ++ after) =
    append_assoc (blob_spelling e.text) (tree_of form e.kind e.text) (commit_bytes form (last_of form None es) e ++ rest)
    ∙ (ap (λ (l : List ℕ). l ++ after) blob ∙ append_assoc head e.text after) in
    let whole : bytes ≡ front ++ (e.text ++ after) = file_parts form bytes rest es e is ∙ (ap (λ (l : List ℕ). epoch_of form es ++ l) inner ∙ sym (append_assoc (epoch_of form es) head (e.text ++ after))) in
    let at = length (epoch_of form es) + blob_front e.text in
    let size : length front ≡ at = omega (arith, length-append (epoch_of form es) head, length-head (codes "blob ") (length e.text)) in
    front_is (length e.text) (drop at bytes) e.text after refl (rest_is at bytes front (e.text ++ after) size whole)

-- What is recorded of an entry at another place.
moved_is : (form : Form) (offset at : ℕ) (before after : Option ObjectId) (e : EpochEntry) (commit : ObjectId) (made : Seen) → IsMoved (seen_at form offset before e) at commit made → commit ≡ commit_after form after e → made ≡ seen_at form at after e
moved_is form offset at before after e commit made moved is =
    let there = moved.text_at in
    let text : made.text_at ≡ at + blob_front e.text = omega (arith, there) in
    let commit_is : made.commit ≡ commit_after form after e = moved.commit_is ∙ is in
    λ i. record {
      kind = moved.kind i;
      at = moved.at_is i;
      text_at = text i;
      size = moved.size i;
      blob = moved.blob i;
      commit = commit_is i;
      moment = moved.moment i;
      id = moved.id i;
      content = moved.content i;
    }

-- A plan without a change, after an entry that stays.
abbrev pub plan_going : Planned → ObjectId → Planned
plan_going old commit = record { file = old.file; changed = None; end_ = old.end_; parent = Some commit; form = old.form }

same_kept : (texts : Texts) (es kept : List EpochEntry) (old : Planned) → old.changed ≡ None → IsPlanned texts es kept old → kept ≡ es
same_kept texts es kept old none planned = subst (IsPlanOf old.form texts es kept old.end_) none planned.plan

pub keeps_same : (old new : Planned) (seen made : Seen) (k : Content) → old.changed ≡ None → new ≡ plan_going old seen.commit → IsMoved seen seen.at seen.commit made → KeepsNext old seen new (Ok made) k
keeps_same old new seen made k none new_is moved = λ es kept e planned next is.
    let same = same_kept (texts_in k) es kept old none planned in
    let parent = last_of old.form None es in
    let parent_is : last_of old.form None kept ≡ parent = ap (last_of old.form None) same in
    let there = subst (λ (s : Seen). IsMoved s s.at s.commit made) is moved in
    let made_is : made ≡ seen_after old.form es e = moved_is old.form (length (epoch_of old.form es)) (length (epoch_of old.form es)) parent parent e (commit_after old.form parent e) made there refl in
    let commit_is : seen.commit ≡ commit_after old.form parent e = ap (λ (s : Seen). s.commit) is in
    let whole : IsPlanned (texts_in k) (es ++ e ∷ []) (kept ++ e ∷ []) (plan_going old seen.commit) = record {
      plan = ap (λ (l : List EpochEntry). l ++ e ∷ []) same;
      parent = ap (λ (c : ObjectId). Some c) (commit_is ∙ ap (λ (p : Option ObjectId). commit_after old.form p e) (sym parent_is)) ∙ sym (last-push old.form None kept e);
    } in
    (made_is ∙ ap (λ (l : List EpochEntry). seen_after old.form l e) (sym same), subst (IsPlanned (texts_in k) (es ++ e ∷ []) (kept ++ e ∷ [])) (sym new_is) whole)

-- A changed plan after an entry that stays.
abbrev pub plan_copied : Planned → Plan → ObjectId → Planned
plan_copied old plan commit = record { file = old.file; changed = Some plan; end_ = plan_count plan; parent = Some commit; form = old.form }

anew_of : (texts : Texts) (es kept : List EpochEntry) (old : Planned) (plan : Plan) → old.changed ≡ Some plan → IsPlanned texts es kept old → IsAnew old.form texts kept old.end_ plan
anew_of texts es kept old plan is planned = subst (IsPlanOf old.form texts es kept old.end_) is planned.plan

-- A plan with an entry's blob, tree and new commit more.
copied_anew : (form : Form) (texts : Texts) (file : FileName) (es kept : List EpochEntry) (e : EpochEntry) (plan new : Plan) (end_ n : ℕ) → HasNext form texts file es e → IsAnew form texts kept end_ plan → n ≡ length (copied form e) → IsPlan (with_range plan file (length (epoch_of form es)) n)
    → new ≡ with_bytes (with_range plan file (length (epoch_of form es)) n) (commit_bytes form (last_of form None kept) e) → IsAnew form texts (kept ++ e ∷ []) (plan_count new) new
copied_anew form texts file es kept e plan new end_ n next anew size valid is =
    let at = length (epoch_of form es) in
    let parent = last_of form None kept in
    let mid = with_range plan file at n in
    let bytes = commit_bytes form parent e in
    let after = commit_bytes form (last_of form None es) e ++ next.rest in
    let long : at + n ≤ length (texts file) =
    omega (arith, size, ap (λ (l : List ℕ). length l) (file_parts form (texts file) next.rest es e next.is), length-append (epoch_of form es) (copied form e ++ after), length-append (copied form e) after) in
    let whole = whole_with_bytes texts mid bytes (whole_with_range texts plan file at n anew.whole long) in
    let range = copied_range form (texts file) next.rest es e n next.is size in
    let written : written_by texts (with_bytes mid bytes) ≡ epoch_of form (kept ++ e ∷ []) =
    written_with_bytes texts mid bytes valid
    ∙ (ap (λ (l : List ℕ). l ++ bytes) (written_with_range texts plan file at n ∙ (λ i. anew.written i ++ range i))
    ∙ (append_assoc (epoch_of form kept) (copied form e) bytes
    ∙ (ap (λ (l : List ℕ). epoch_of form kept ++ l) (sym (entry_parts form parent e)) ∙ sym (epoch-push form kept e)))) in
    let made : IsAnew form texts (kept ++ e ∷ []) (plan_count (with_bytes mid bytes)) (with_bytes mid bytes) = record {
      target = anew.target;
      whole = whole;
      written = written;
      ends = sym (written_long texts (with_bytes mid bytes) whole) ∙ ap (λ (l : List ℕ). length l) written;
    } in
    subst (λ (p : Plan). IsAnew form texts (kept ++ e ∷ []) (plan_count p) p) (sym is) made

copies_now : (form : Form) (texts : Texts) (file : FileName) (es kept : List EpochEntry) (e : EpochEntry) (plan new : Plan) (end_ : ℕ) (bytes : List ℕ) → HasNext form texts file es e → IsAnew form texts kept end_ plan → bytes ≡ commit_bytes form (last_of form None kept) e → CopiesEntry file (seen_after form es e) bytes plan new
    → IsAnew form texts (kept ++ e ∷ []) (plan_count new) new
copies_now form texts file es kept e plan new end_ bytes next anew bytes_are copies =
    let count = copies.1 in
    let at = length (epoch_of form es) in
    let n : ℕ = copies.0 in
    let size : n ≡ length (copied form e) = omega (arith, count, length-copied form e, tree_by_blob form e.text) in
    copied_anew form texts file es kept e plan new end_ n next anew size copies.2 (copies.3 ∙ ap (λ (b : List ℕ). with_bytes (with_range plan file at n) b) bytes_are)

pub keeps_copied : (old new : Planned) (plan made_plan : Plan) (seen made : Seen) (commit : NewCommit) (k : Content) → old.changed ≡ Some plan → CommitsAnew old.form old.file seen old.parent (Ok commit) k → CopiesEntry old.file seen commit.bytes plan made_plan → new ≡ plan_copied old made_plan commit.id → IsMoved seen old.end_ commit.id made
    → KeepsNext old seen new (Ok made) k
keeps_copied old new plan made_plan seen made commit k some commits copies new_is moved = λ es kept e planned next is.
    let texts = texts_in k in
    let anew = anew_of texts es kept old plan some planned in
    let parent = last_of old.form None kept in
    let at = length (epoch_of old.form es) in
    let gives = subst (λ (s : Seen). CommitsAnew old.form old.file s old.parent (Ok commit) k) is commits in
    let text = text_range old.form (texts old.file) next.rest es e next.is in
    let bytes_are : commit.bytes ≡ commit_bytes old.form parent e = gives.2 ∙ (λ i. commit_text old.form e.kind (text i) e.moment (planned.parent i)) in
    let id_is : commit.id ≡ commit_after old.form parent e = gives.3 ∙ (λ i. commit_id old.form e.kind (text i) e.moment (planned.parent i)) in
    let there = subst (λ (s : Seen). IsMoved s old.end_ commit.id made) is moved in
    let made_is : made ≡ seen_at old.form old.end_ parent e = moved_is old.form at old.end_ (last_of old.form None es) parent e commit.id made there id_is in
    let whole : IsPlanned texts (es ++ e ∷ []) (kept ++ e ∷ []) (plan_copied old made_plan commit.id) = record {
      plan = copies_now old.form texts old.file es kept e plan made_plan old.end_ commit.bytes next anew bytes_are (subst (λ (s : Seen). CopiesEntry old.file s commit.bytes plan made_plan) is copies);
      parent = ap (λ (c : ObjectId). Some c) id_is ∙ sym (last-push old.form None kept e);
    } in
    (made_is ∙ ap (λ (n : ℕ). seen_at old.form n parent e) anew.ends, subst (IsPlanned texts (es ++ e ∷ []) (kept ++ e ∷ [])) (sym new_is) whole)

-- An entry that is there isn't damaged.
refused_now : (refusal : WalkRefusal) (old new : Planned) (seen : Seen) (k : Content) → CommitsAnew old.form old.file seen old.parent (Err refusal) k → KeepsNext old seen new (Err refusal) k
refused_now DiskFault old new seen k commits = λ es kept e planned next is. tt
refused_now NoMemory old new seen k commits = λ es kept e planned next is. tt
refused_now (Damaged at) old new seen k commits = λ es kept e planned next is.
    let gives = subst (λ (s : Seen). CommitsAnew old.form old.file s old.parent (Err (Damaged at)) k) is commits in
    let text = text_range old.form (texts_in k old.file) next.rest es e next.is in
    gives.1 (ap (λ (l : List ℕ). length l) text) (ap (blob_id_of old.form) text)

-- The plan at the first entry that is left out.
abbrev pub first_plan : FileName → ℕ → Plan
first_plan file at = with_range (no_plan Epoch file.number Anew) file 0 at

abbrev pub plan_begun : Planned → ℕ → Planned
plan_begun old at = record { file = old.file; changed = Some (first_plan old.file at); end_ = at; parent = old.parent; form = old.form }

pub not_some : {A : Type 0} (o : Option A) → is_some o ≡ false → o ≡ None
not_some None is = refl
not_some (Some x) is = absurd (let wrong : true ≡ false = is in cc)

pub none_there : {A : Type 0} (i : ℕ) (x : A) → slice_get [] i ≡ Some x → ⊥
none_there i x is = let wrong : None ≡ Some x = is in absurd (cc)

pub leaves_first : (old new : Planned) (seen : Seen) → old.changed ≡ None → new ≡ plan_begun old seen.at → LeavesNext old seen new
leaves_first old new seen none new_is = λ texts es kept e planned next is.
    let same = same_kept texts es kept old none planned in
    let at = length (epoch_of old.form es) in
    let at_is : seen.at ≡ at = ap (λ (s : Seen). s.at) is in
    let after = copied old.form e ++ (commit_bytes old.form (last_of old.form None es) e ++ next.rest) in
    let bytes = texts old.file in
    let parts = file_parts old.form bytes next.rest es e next.is in
    let long : 0 + at ≤ length bytes = omega (arith, ap (λ (l : List ℕ). length l) parts, length-append (epoch_of old.form es) after) in
    let none_yet = no_plan Epoch old.file.number Anew in
    let anew : IsAnew old.form texts kept at (first_plan old.file at) = record {
      target = refl;
      whole = whole_with_range texts none_yet old.file 0 at (λ i s wrong. absurd (none_there i s wrong)) long;
      written = written_with_range texts none_yet old.file 0 at ∙ (front_is at bytes (epoch_of old.form es) after refl parts ∙ ap (epoch_of old.form) (sym same));
      ends = ap (λ (l : List EpochEntry). length (epoch_of old.form l)) (sym same);
    } in
    let whole : IsPlanned texts (es ++ e ∷ []) kept (plan_begun old at) = record { plan = anew; parent = planned.parent } in
    subst (IsPlanned texts (es ++ e ∷ []) kept) (sym (new_is ∙ ap (plan_begun old) at_is)) whole

-- The last commit of some entries is one.
last_some : (form : Form) (parent : ObjectId) (es : List EpochEntry) → last_of form (Some parent) es ≡ None → ⊥
last_some form parent [] is = absurd (cc)
last_some form parent (e ∷ es) is = last_some form (commit_after form (Some parent) e) es is

none_kept : (form : Form) (kept : List EpochEntry) → last_of form None kept ≡ None → kept ≡ []
none_kept form [] is = refl
none_kept form (e ∷ es) is = absurd (last_some form (commit_after form None e) es is)

pub finishes_none : (old : Planned) → old.parent ≡ None → FinishesPlan old (Some (no_plan Epoch old.file.number Anew))
finishes_none old none = λ texts es kept planned. (refl, (λ i s wrong. absurd (none_there i s wrong)), ap (file_of old.form) (sym (none_kept old.form kept (sym planned.parent ∙ none))))

-- What is told of a disk.
where_then : (P Q : Content → Type 0) (k : Option Content) → ((c : Content) → P c → Q c) → WhereTold P k → WhereTold Q k
where_then P Q None step told = tt
where_then P Q (Some c) step told = step c told

pub keep_same : (old new : Planned) (seen made : Seen) (k : Option Content) → old.changed ≡ None → new ≡ plan_going old seen.commit → IsMoved seen seen.at seen.commit made → WhereTold (KeepsNext old seen new (Ok made)) k
keep_same old new seen made None none new_is moved = tt
keep_same old new seen made (Some c) none new_is moved = keeps_same old new seen made c none new_is moved

pub keep_copied : (old new : Planned) (plan made_plan : Plan) (seen made : Seen) (commit : NewCommit) (k : Option Content) → old.changed ≡ Some plan → WhereTold (CommitsAnew old.form old.file seen old.parent (Ok commit)) k → CopiesEntry old.file seen commit.bytes plan made_plan → new ≡ plan_copied old made_plan commit.id
    → IsMoved seen old.end_ commit.id made → WhereTold (KeepsNext old seen new (Ok made)) k
keep_copied old new plan made_plan seen made commit k some commits copies new_is moved =
    where_then (CommitsAnew old.form old.file seen old.parent (Ok commit)) (KeepsNext old seen new (Ok made)) k (λ c told. keeps_copied old new plan made_plan seen made commit c some told copies new_is moved) commits

pub keep_refused : (refusal : WalkRefusal) (old new : Planned) (seen : Seen) (k : Option Content) → WhereTold (CommitsAnew old.form old.file seen old.parent (Err refusal)) k → WhereTold (KeepsNext old seen new (Err refusal)) k
keep_refused refusal old new seen k commits =
    where_then (CommitsAnew old.form old.file seen old.parent (Err refusal)) (KeepsNext old seen new (Err refusal)) k (λ c told. refused_now refusal old new seen c told) commits

-- The text of an entry that is there is read whole.
read_text : (file : FileName) (at size n : ℕ) (before after text : List ℕ) (k : Content) → HasRead file at n before after k → length before ≡ size → file_range k file at size ≡ text → length text ≡ size → (n ≡ size) × (after ≡ text)
read_text file at size n before after text k read room is long =
    let bytes = bytes_of (k file).seen in
    let count = read.count in
    let whole : n ≡ size = omega (arith, count, room, long, ap (λ (l : List ℕ). length l) is, length-take size (drop at bytes), length-drop at bytes) in (
      whole,
      read.bytes
          ∙ (ap (λ (m : ℕ). take m (drop at bytes) ++ drop m before) whole
          ∙ (ap (λ (l : List ℕ). take size (drop at bytes) ++ l) (drop_all size before (omega (arith, room))) ∙ (append-nil (take size (drop at bytes)) ∙ is))),
    )

-- The commit of a text that was read.
pub commits_read : (form : Form) (file : FileName) (seen : Seen) (parent : Option ObjectId) (n : ℕ) (before after : List ℕ) (made : NewCommit) (k : Option Content) → WhereTold (HasRead file seen.text_at n before after) k → length before ≡ seen.size → seen.size ≤ n → blob_id_of form after ≡ seen.blob
    → made.bytes ≡ commit_text form seen.kind after seen.moment parent → made.id ≡ commit_id form seen.kind after seen.moment parent → WhereTold (CommitsAnew form file seen parent (Ok made)) k
commits_read form file seen parent n before after made k read room whole blob bytes id =
    where_then (HasRead file seen.text_at n before after) (CommitsAnew form file seen parent (Ok made)) k (λ c told.
    let text = file_range c file seen.text_at seen.size in
    let there = bytes_of (c file).seen in
    let count = told.count in
    let long : length text ≡ seen.size = omega (arith, count, room, whole, length-take seen.size (drop seen.text_at there), length-drop seen.text_at there) in
    let same = (read_text file seen.text_at seen.size n before after text c told room refl long).1 in
    (long, ap (blob_id_of form) (sym same) ∙ blob, bytes ∙ ap (λ (l : List ℕ). commit_text form seen.kind l seen.moment parent) same, id ∙ ap (λ (l : List ℕ). commit_id form seen.kind l seen.moment parent) same)) read

-- Bytes that end early, or have another blob id, aren't the text.
pub commits_short : (form : Form) (file : FileName) (seen : Seen) (parent : Option ObjectId) (n : ℕ) (before after : List ℕ) (k : Option Content) → WhereTold (HasRead file seen.text_at n before after) k → length before ≡ seen.size → n < seen.size → WhereTold (CommitsAnew form file seen parent (Err (Damaged seen.at))) k
commits_short form file seen parent n before after k read room short =
    where_then (HasRead file seen.text_at n before after) (CommitsAnew form file seen parent (Err (Damaged seen.at))) k (λ c told. (
      refl,
      λ long blob.
          let whole = (read_text file seen.text_at seen.size n before after (file_range c file seen.text_at seen.size) c told room refl long).0 in
          absurd (omega (arith, whole, short)),
    )) read

pub commits_other : (form : Form) (file : FileName) (seen : Seen) (parent : Option ObjectId) (n : ℕ) (before after : List ℕ) (k : Option Content) → WhereTold (HasRead file seen.text_at n before after) k → length before ≡ seen.size → (blob_id_of form after ≡ seen.blob → ⊥) → WhereTold (CommitsAnew form file seen parent (Err (Damaged seen.at))) k
commits_other form file seen parent n before after k read room other =
    where_then (HasRead file seen.text_at n before after) (CommitsAnew form file seen parent (Err (Damaged seen.at))) k (λ c told. (
      refl,
      λ long blob.
          let same = (read_text file seen.text_at seen.size n before after (file_range c file seen.text_at seen.size) c told room refl long).1 in
          other (ap (blob_id_of form) same ∙ blob),
    )) read

-- Two ids differ if the code says so, and otherwise are the same.
pub ids_differ : (a b : ObjectId) (t : Bool) → t ≡ not (code.ghosts.eq a b) → t ≡ true → a ≡ b → ⊥
ids_differ a b t is differ same =
    let equal : code.ghosts.eq a b ≡ true = same_ids a b ∙ id_eq-refl a b same in
    let wrong : false ≡ true = ap not (sym equal) ∙ (sym is ∙ differ) in
    cc

pub ids_same : (a b : ObjectId) (t : Bool) → t ≡ not (code.ghosts.eq a b) → t ≡ false → a ≡ b
ids_same a b t is same = (id_eq-Decides a b).0 (sym (same_ids a b) ∙ not_false (code.ghosts.eq a b) (sym is ∙ same)) where
  not_false : (d : Bool) → not d ≡ false → d ≡ true
  not_false true e = refl
  not_false false e = absurd (let wrong : true ≡ false = e in cc)

-- What is copied was checked.
pub checks_same : (old : Planned) (seen : Seen) (result : Result Seen WalkRefusal) (k : Option Content) → old.changed ≡ None → WhereTold (Checks old seen result) k
checks_same old seen result None none = tt
checks_same old seen result (Some c) none = λ some. absurd (let wrong : false ≡ true = sym (ap (λ (o : Option Plan). is_some o) none) ∙ some in cc)

pub checks_copied : (old : Planned) (seen made : Seen) (commit : NewCommit) (k : Option Content) → WhereTold (CommitsAnew old.form old.file seen old.parent (Ok commit)) k → WhereTold (Checks old seen (Ok made)) k
checks_copied old seen made commit k commits = where_then (CommitsAnew old.form old.file seen old.parent (Ok commit)) (Checks old seen (Ok made)) k (λ c told some. (told.0, told.1)) commits

checks_now : (refusal : WalkRefusal) (old : Planned) (seen : Seen) (k : Content) → CommitsAnew old.form old.file seen old.parent (Err refusal) k → Checks old seen (Err refusal) k
checks_now DiskFault old seen k commits = λ some. tt
checks_now NoMemory old seen k commits = λ some. tt
checks_now (Damaged at) old seen k commits = λ some. commits

pub checks_refused : (refusal : WalkRefusal) (old : Planned) (seen : Seen) (k : Option Content) → WhereTold (CommitsAnew old.form old.file seen old.parent (Err refusal)) k → WhereTold (Checks old seen (Err refusal)) k
checks_refused refusal old seen k commits = where_then (CommitsAnew old.form old.file seen old.parent (Err refusal)) (Checks old seen (Err refusal)) k (λ c told. checks_now refusal old seen c told) commits

-- A text of which no commit is made isn't in its place.
pub lacks_text : (form : Form) (file : FileName) (seen : Seen) (parent : Option ObjectId) (k : Option Content) → WhereTold (CommitsAnew form file seen parent (Err (Damaged seen.at))) k → TellsLack form file seen k (Damaged seen.at)
lacks_text form file seen parent k commits = (refl, where_then (CommitsAnew form file seen parent (Err (Damaged seen.at))) (LacksText form file seen) k (λ c told. told.1) commits)
