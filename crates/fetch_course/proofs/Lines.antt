-- The lines of a list that are right, one after the other.
use Rattle.std.proofs.Common.{◌⊎◌, inl, inr, ◌≡◌, ◌≢◌, ◌+◌, ◌==◌, ℕ, Bool, true, false, not, ◌&&◌, ◌||◌, List, [], ◌∷◌, ◌++◌, length, Option, Some, None, is_some, IsSome, refl, sym, ap, ◌∙◌, arith, append-nil, append_assoc, if◌then◌else◌}
use Rattle.std.specs.List.{AllByRecursion}
use Rattle.std.proofs.lemmas.Slice.Eq.{bytes_eq-Decides}
use Rattle.std.proofs.lemmas.Bool.Decides.{nat_tests}
use Rattle.arch_base.specs.Ids.{id_eq}
use Rattle.arch_base.specs.declared.ids.Form.{Form}
use Rattle.arch_base.specs.declared.ids.ObjectId.{ObjectId}
use Rattle.arch_base.proofs.IdOrder.{id_eq-Decides}
use Rattle.git_objects.specs.Objects.{blob_id_of}
use Rattle.mail_reader.specs.Stored.{storage_form}
use Rattle.mail_reader.specs.Ids.{own_id}
use Rattle.arch_model.specs.Archives.{Entry, Archive, is_message, live}
use Rattle.arch_model.specs.Shelves.{blob_text, line_after, lines_after}
use Rattle.arch_model.specs.declared.line.EntryLine.{EntryLine}
use Rattle.arch_model.proofs.LiveEntries.{HasText}
use Rattle.edge_io.specs.declared.peer.Reply.{Reply}
use Rattle.fetch_course.specs.declared.answer.FetchAnswer.{FetchAnswer}
use Rattle.fetch_course.specs.declared.answer.FetchAnswer.TheVariants as answer
use Rattle.fetch_course.specs.Courses.{FetchCourse, HoldsAll, AsksOn, ComesTo, known_text, first_there, lines_course, line_course, unless, wrong_text, wrong_reply, misfits, commit_on, entry_on, archive_with, is_own_form, is_id_taken}

-- A text is right for a line after other entries of a mirror.
pub record RightLine (a : Archive) (before : List Entry) (line : EntryLine) (text : List ℕ) : Type 0 where
  pub size : length text ≡ line.size
  pub form : storage_form text ≡ Some text
  pub id : IsSome (own_id text)
  pub free : is_message line.kind ≡ true → is_id_taken (live before) (own_id text) ≡ false
  pub commit : commit_on a.config.form before line text ≡ line.commit
  pub blob : blob_id_of a.config.form text ≡ line.blob
  pub known : (known_text a.config.form a.entries before line.blob ≡ Some text) ⊎ (known_text a.config.form a.entries before line.blob ≡ None)

fits : (A B C M T : Bool) → (not A || not B || not C || (M && T)) ≡ false → (A ≡ true) × (B ≡ true) × (C ≡ true) × (M ≡ true → T ≡ false)
fits true true true true true is = absurd (let wrong : true ≡ false = is in cc)
fits true true true true false is = (refl, refl, refl, λ m. refl)
fits true true true false T is = (refl, refl, refl, λ m. absurd (let wrong : false ≡ true = m in cc))
fits true true false M T is = absurd (let wrong : true ≡ false = is in cc)
fits true false C M T is = absurd (let wrong : true ≡ false = is in cc)
fits false B C M T is = absurd (let wrong : true ≡ false = is in cc)

right_if : (m e : Bool) (x y : FetchAnswer) → (if m then Some x else if e then None else Some y) ≡ None → (m ≡ false) × (e ≡ true)
right_if true e x y is = absurd (cc)
right_if false true x y is = (refl, refl)
right_if false false x y is = absurd (cc)

form_is : (f : Option (List ℕ)) (text : List ℕ) → is_own_form f text ≡ true → f ≡ Some text
form_is None text is = absurd (let wrong : false ≡ true = is in cc)
form_is (Some form) text is = ap Some ((bytes_eq-Decides form text).0 is)

-- A text with nothing wrong, whose blob id is that of the line.
pub right-line : (a : Archive) (at : ℕ) (before : List Entry) (line : EntryLine) (text : List ℕ) → wrong_text a.config.form at before line text ≡ None → blob_id_of a.config.form text ≡ line.blob
    → (known_text a.config.form a.entries before line.blob ≡ Some text) ⊎ (known_text a.config.form a.entries before line.blob ≡ None) → RightLine a before line text
right-line a at before line text right blob known =
    let both = right_if (misfits before line text) (id_eq (commit_on a.config.form before line text) line.commit) (answer.BadList at) (answer.BadCommit line.commit (commit_on a.config.form before line text)) right in
    let four = fits (length text == line.size) (is_own_form (storage_form text) text) (is_some (own_id text)) (is_message line.kind) (is_id_taken (live before) (own_id text)) both.0 in
    record {
      size = (let test : (length text == line.size) ≡ true = four.0 in grind (arith, nat_tests, test));
      form = form_is (storage_form text) text four.1;
      id = four.2;
      free = four.3;
      commit = (id_eq-Decides (commit_on a.config.form before line text) line.commit).0 both.1;
      blob = blob;
      known = known;
    }

-- What is found by a blob id has it, and is there.
found_step : (form : Form) (t : Bool) (e : Entry) (es : List Entry) (blob : ObjectId) (text : List ℕ) → id_eq blob (blob_id_of form e.text) ≡ t → (blob_text form es blob ≡ Some text → (blob ≡ blob_id_of form text) × HasText text es)
    → (if t then Some e.text else blob_text form es blob) ≡ Some text → (blob ≡ blob_id_of form text) × HasText text (e ∷ es)
found_step form true e es blob text test rest is =
    let same : e.text ≡ text = cc in
    ((id_eq-Decides blob (blob_id_of form e.text)).0 test ∙ ap (blob_id_of form) same, inl same)
found_step form false e es blob text test rest is = let more = rest is in (more.0, inr more.1)

pub blob-found : (form : Form) (es : List Entry) (blob : ObjectId) (text : List ℕ) → blob_text form es blob ≡ Some text → (blob ≡ blob_id_of form text) × HasText text es
blob-found form [] blob text is = absurd (cc)
blob-found form (e ∷ es) blob text is = found_step form (id_eq blob (blob_id_of form e.text)) e es blob text refl (blob-found form es blob text) is

-- Where nothing is found, no entry has the blob id.
none_step : (form : Form) (t : Bool) (e : Entry) (more : Option (List ℕ)) (blob : ObjectId) → id_eq blob (blob_id_of form e.text) ≡ t → (if t then Some e.text else more) ≡ None → (blob ≢ blob_id_of form e.text) × (more ≡ None)
none_step form true e more blob test is = absurd (cc)
none_step form false e more blob test is = (λ same. (let yes : id_eq blob (blob_id_of form e.text) ≡ true = (id_eq-Decides blob (blob_id_of form e.text)).1 same in let wrong : false ≡ true = sym test ∙ yes in cc), is)

pub blob-missing : (form : Form) (es : List Entry) (blob : ObjectId) → blob_text form es blob ≡ None → AllByRecursion (λ (e : Entry). blob ≢ blob_id_of form e.text) es
blob-missing form [] blob is = tt
blob-missing form (e ∷ es) blob is =
    let both = none_step form (id_eq blob (blob_id_of form e.text)) e (blob_text form es blob) blob refl is in
    (both.0, blob-missing form es blob both.1)

-- A known text has the blob id by which it is known.
known_step : (form : Form) (own before : List Entry) (blob : ObjectId) (text : List ℕ) (found : Option (List ℕ)) → blob_text form own blob ≡ found → first_there found (blob_text form before blob) ≡ Some text → blob_id_of form text ≡ blob
known_step form own before blob text None is known = sym ((blob-found form before blob text known).0)
known_step form own before blob text (Some t) is known = sym ((blob-found form own blob text (is ∙ known)).0)

pub known-blob : (form : Form) (own before : List Entry) (blob : ObjectId) (text : List ℕ) → known_text form own before blob ≡ Some text → blob_id_of form text ≡ blob
known-blob form own before blob text known = known_step form own before blob text (blob_text form own blob) refl known

-- A line was taken, and the course went on to its end.
pub record LineWent (a : Archive) (before : List Entry) (line : EntryLine) (rest : List Reply → List ℕ → FetchCourse) (b : Archive) : Type 0 where
  pub text : List ℕ
  pub left : List Reply
  pub right : RightLine a before line text
  pub stage : (rest left text).stage ≡ HoldsAll b

pub unless_holds : (w : Option FetchAnswer) (c : FetchCourse) (b : Archive) → (unless w c).stage ≡ HoldsAll b → (w ≡ None) × (c.stage ≡ HoldsAll b)
unless_holds None c b is = (refl, is)
unless_holds (Some why) c b is = absurd (let wrong : ComesTo why ≡ HoldsAll b = is in cc)

reply_blob : (form : Form) (blob : ObjectId) (reply : Reply) (s t u : Bool) (x y z : FetchAnswer) → id_eq blob (blob_id_of form reply.body) ≡ u → (if s then Some x else if not t then Some y else if u then None else Some z) ≡ None → blob_id_of form reply.body ≡ blob
reply_blob form blob reply true t u x y z test is = absurd (cc)
reply_blob form blob reply false false u x y z test is = absurd (cc)
reply_blob form blob reply false true false x y z test is = absurd (cc)
reply_blob form blob reply false true true x y z test is = sym ((id_eq-Decides blob (blob_id_of form reply.body)).0 test)

pub right-reply : (form : Form) (blob : ObjectId) (reply : Reply) → wrong_reply form blob reply ≡ None → blob_id_of form reply.body ≡ blob
right-reply form blob reply right = reply_blob form blob reply (reply.status == 404) (reply.status == 200) (id_eq blob (blob_id_of form reply.body)) _ _ _ refl right

line_went : (a : Archive) (at : ℕ) (before : List Entry) (line : EntryLine) (known : Option (List ℕ)) (replies : List Reply) (rest : List Reply → List ℕ → FetchCourse) (b : Archive)
    → known_text a.config.form a.entries before line.blob ≡ known → (line_course a at before line known replies rest).stage ≡ HoldsAll b → LineWent a before line rest b
line_went a at before line (Some text) replies rest b is stage =
    let both = unless_holds (wrong_text a.config.form at before line text) (rest replies text) b stage in
    record {
      text = text;
      left = replies;
      right = right-line a at before line text both.0 (known-blob a.config.form a.entries before line.blob text is) (inl is);
      stage = both.1;
    }
line_went a at before line None [] rest b is stage = absurd (let wrong : AsksOn ≡ HoldsAll b = stage in cc)
line_went a at before line None (reply ∷ replies) rest b is stage =
    let first = unless_holds (wrong_reply a.config.form line.blob reply) (unless (wrong_text a.config.form at before line reply.body) (rest replies reply.body)) b stage in
    let second = unless_holds (wrong_text a.config.form at before line reply.body) (rest replies reply.body) b first.1 in
    record {
      text = reply.body;
      left = replies;
      right = right-line a at before line reply.body second.0 (right-reply a.config.form line.blob reply first.0) (inr is);
      stage = second.1;
    }

-- Lines with entries that are right for them, one after the other.
abbrev pub AreRight : Archive → List Entry → List EntryLine → List Entry → Type 0
AreRight a before [] [] = Unit {0}
AreRight a before [] (e ∷ es) = ⊥
AreRight a before (line ∷ lines) [] = ⊥
AreRight a before (line ∷ lines) (e ∷ es) = (e ≡ entry_on line e.text) × RightLine a before line e.text × AreRight a (before ++ e ∷ []) lines es

pub record LinesHeld (a : Archive) (next : ℕ) (before : List Entry) (lines : List EntryLine) (b : Archive) : Type 0 where
  pub rest : List Entry
  pub is : b ≡ archive_with a (before ++ rest) next
  pub right : AreRight a before lines rest

-- The entries that a course holds are right for its lines.
pub lines-held : (a b : Archive) (next at : ℕ) (before : List Entry) (lines : List EntryLine) (replies : List Reply) → (lines_course a next at before lines replies).stage ≡ HoldsAll b → LinesHeld a next before lines b
lines-held a b next at before [] replies stage = record {
  rest = [];
  is = (let same : HoldsAll (archive_with a before next) ≡ HoldsAll b = stage in let one : archive_with a before next ≡ b = cc in sym one ∙ ap (λ (es : List Entry). archive_with a es next) (sym (append-nil before)));
  right = tt;
}
lines-held a b next at before (line ∷ lines) replies stage =
    let went = line_went a at before line (known_text a.config.form a.entries before line.blob) replies
    (λ (left : List Reply) (text : List ℕ). lines_course a next (at + 1) (before ++ entry_on line text ∷ []) lines left) b refl stage in
    let more = lines-held a b next (at + 1) (before ++ entry_on line went.text ∷ []) lines went.left went.stage in
    record {
      rest = entry_on line went.text ∷ more.rest;
      is = more.is ∙ ap (λ (es : List Entry). archive_with a es next) (append_assoc before (entry_on line went.text ∷ []) more.rest);
      right = (refl, went.right, more.right);
    }

-- The line of an entry that is right for a line is that line.
same_line : (l m : EntryLine) → l.kind ≡ m.kind → l.number ≡ m.number → l.epoch ≡ m.epoch → l.secs ≡ m.secs → l.blob ≡ m.blob → l.size ≡ m.size → l.commit ≡ m.commit → l ≡ m
same_line l m kind number epoch secs blob size commit = λ i. record { kind = kind i; number = number i; epoch = epoch i; secs = secs i; blob = blob i; size = size i; commit = commit i }

pub right-same : (a : Archive) (before : List Entry) (line : EntryLine) (text : List ℕ) → RightLine a before line text → line_after a.config.form before (entry_on line text) ≡ line
right-same a before line text right = same_line (line_after a.config.form before (entry_on line text)) line refl refl refl refl right.blob right.size right.commit

pub right-lines : (a : Archive) (before : List Entry) (lines : List EntryLine) (es : List Entry) → AreRight a before lines es → lines_after a.config.form before es ≡ lines
right-lines a before [] [] right = refl
right-lines a before [] (e ∷ es) right = absurd right
right-lines a before (line ∷ lines) [] right = absurd right
right-lines a before (line ∷ lines) (e ∷ es) right =
    let first : line_after a.config.form before e ≡ line = ap (line_after a.config.form before) right.0 ∙ right-same a before line e.text right.1 in
    ap (λ (l : EntryLine). l ∷ lines_after a.config.form (before ++ e ∷ []) es) first ∙ ap (λ (ls : List EntryLine). line ∷ ls) (right-lines a (before ++ e ∷ []) lines es right.2)
