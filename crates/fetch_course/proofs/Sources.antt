-- What a fetch holds from a source.
use Rattle.std.proofs.Common.{◌⊎◌, inl, inr, ◌≡◌, ◌≢◌, ◌+◌, ◌≤◌, ◌<◌, ◌==◌, ℕ, Bool, true, false, not, ◌&&◌, ◌||◌, nat_lt, List, [], ◌∷◌, ◌++◌, length, Option, Some, None, is_some, IsSome, Result, Ok, Err, refl, sym, ap, subst, ◌∙◌, arith, append-nil, append_assoc, if◌then◌else◌}
use Rattle.std.specs.Bool.{MatchBool}
use Rattle.std.specs.List.{AllByRecursion}
use Rattle.std.specs.Str.{bytes_eq}
use Rattle.std.proofs.lemmas.Bool.Decides.{nat_tests}
use Rattle.std.proofs.lemmas.Slice.Eq.{bytes_eq-Decides}
use Rattle.arch_base.specs.Ids.{id_eq}
use Rattle.arch_base.specs.declared.ids.Form.{Form}
use Rattle.arch_base.proofs.IdOrder.{id_eq-refl}
use Rattle.git_objects.specs.Objects.{blob_id_of}
use Rattle.git_objects.specs.declared.entry_kind.EntryKind.{EntryKind}
use Rattle.git_objects.specs.declared.entry_kind.EntryKind.TheVariants.{Message, Deletion}
use Rattle.mail_reader.specs.Stored.{storage_form}
use Rattle.mail_reader.specs.Ids.{own_id}
use Rattle.arch_model.specs.Archives.{Entry, Archive, message, is_id, is_message, live, messages, owner, text_of}
use Rattle.arch_model.specs.Following.{HasMessage}
use Rattle.arch_model.specs.Shelves.{blob_text, line_after, lines_after}
use Rattle.arch_model.specs.Validity.{IsArchive, IsEntry, NumberIsFrom, number_after, Rise, AtEachPlace, IdsDiffer, LiveDiffer, BlobsAgree}
use Rattle.arch_model.specs.declared.line.EntryLine.{EntryLine}
use Rattle.arch_model.proofs.LiveEntries.{all-text, live-message, messages-all}
use Rattle.arch_model.proofs.Owners.{bytes_eq-refl}
use Rattle.arch_model.proofs.ValidArchives.{all_after, all_weaker}
use Rattle.edge_io.specs.declared.peer.Reply.{Reply}
use Rattle.mirror_wire.specs.declared.list.MirrorList.{MirrorList}
use Rattle.mirror_wire.specs.declared.list.ListRefusal.{ListRefusal}
use Rattle.mirror_wire.specs.declared.list.ListRefusal.TheVariants as list
use Rattle.mirror_wire.specs.Laws.{ListsAreReadBack}
use Rattle.mirror_wire.specs.Lists.{list_of, list_text}
use Rattle.mirror_wire.specs.Reading.{ReadsList}
use Rattle.fetch_course.specs.declared.answer.FetchAnswer.{FetchAnswer}
use Rattle.fetch_course.specs.declared.answer.FetchAnswer.TheVariants as answer
use Rattle.fetch_course.specs.Courses.{FetchCourse, FetchStage, AsksOn, ComesTo, HoldsAll, MirrorLeads, FetchLeads, archive_with, comes_to, commit_on, entry_on, first_renamed, first_there, is_id_taken, is_own_form, known_text, line_course, line_renamed, lines_course, misfits, read_course, renamed_by, unless, wrong_list, wrong_reply, wrong_text}
use Rattle.fetch_course.specs.Laws.{HoldsOnlyTheSource, HoldsTheSource, MayBecome, TextsAgree, mirror_of, source_replies, source_texts, text_reply}
use Rattle.fetch_course.proofs.Lines.{blob-found, lines-held, right-lines, unless_holds}
use Rattle.fetch_course.proofs.Valid.{OwnText}
use Rattle.fetch_course.proofs.More.{needs_no_more}

-- The own ids of those before the last one of entries whose ids differ.
apart_last : (xs : List Entry) (e : Entry) → IdsDiffer (xs ++ e ∷ []) → AllByRecursion (λ (x : Entry). own_id e.text ≢ own_id x.text) xs
apart_last [] e differ = tt
apart_last (x ∷ xs) e differ = (last xs differ.0, apart_last xs e differ.1) where
  last : (ys : List Entry) → AllByRecursion (λ (f : Entry). own_id f.text ≢ own_id x.text) (ys ++ e ∷ []) → own_id e.text ≢ own_id x.text
  last [] all = all.0
  last (y ∷ ys) all = last ys all.1

id_apart : (id : List ℕ) (own : Option (List ℕ)) → Some id ≢ own → is_id id own ≡ false
id_apart id None apart = refl
id_apart id (Some x) apart = by (bytes_eq id x) refl where
  by : (t : Bool) → bytes_eq id x ≡ t → bytes_eq id x ≡ false
  by true test = absurd (apart (ap Some ((bytes_eq-Decides id x).0 test)))
  by false test = test

owner_none : (xs : List Entry) (id : List ℕ) → AllByRecursion (λ (x : Entry). Some id ≢ own_id x.text) xs → owner xs id ≡ None
owner_none [] id apart = refl
owner_none (x ∷ xs) id apart = ap (λ (t : Bool). if t then Some x else owner xs id) (id_apart id (own_id x.text) apart.0) ∙ owner_none xs id apart.1

free_id : (o : Option (List ℕ)) (xs : List Entry) → IsSome o → AllByRecursion (λ (x : Entry). o ≢ own_id x.text) xs → is_id_taken xs o ≡ false
free_id None xs some apart = absurd (let wrong : false ≡ true = some in cc)
free_id (Some id) xs some apart = ap is_some (owner_none xs id apart)

live_more : (es : List Entry) (e : Entry) → e.kind ≡ Message → live (es ++ e ∷ []) ≡ live es ++ e ∷ []
live_more es e kind =
    let same : e ≡ message e.number e.epoch e.text e.moment = λ i. record { kind = kind i; number = e.number; epoch = e.epoch; text = e.text; moment = e.moment } in
    subst (λ (x : Entry). live (es ++ x ∷ []) ≡ live es ++ x ∷ []) (sym same) (live-message es e.number e.epoch e.text e.moment)

free_kind : (k : EntryKind) (before : List Entry) (e : Entry) → e.kind ≡ k → IsSome (own_id e.text) → IdsDiffer (live (before ++ e ∷ [])) → (is_message k && is_id_taken (live before) (own_id e.text)) ≡ false
free_kind Message before e kind some differ = free_id (own_id e.text) (live before) some (apart_last (live before) e (subst IdsDiffer (live_more before e kind) differ))
free_kind Deletion before e kind some differ = refl

fits_all : (A B C D : Bool) → A ≡ true → B ≡ true → C ≡ true → D ≡ false → (not A || not B || not C || D) ≡ false
fits_all A B C D a b c d = ap (λ (x : Bool). not x || not B || not C || D) a ∙ (ap (λ (x : Bool). not true || not x || not C || D) b ∙ (ap (λ (x : Bool). not true || not true || not x || D) c ∙ d))

-- With the text of an entry of a source nothing is wrong.
source_right : (form : Form) (at : ℕ) (before : List Entry) (e : Entry) → IsEntry e → LiveDiffer before e → wrong_text form at before (line_after form before e) e.text ≡ None
source_right form at before e valid differ =
    let size : (length e.text == length e.text) ≡ true = grind (arith, nat_tests) in
    let own : is_own_form (storage_form e.text) e.text ≡ true = ap (λ (f : Option (List ℕ)). is_own_form f e.text) valid.text.form ∙ bytes_eq-refl e.text e.text refl in
    let fits : misfits before (line_after form before e) e.text ≡ false = fits_all (length e.text == length e.text) (is_own_form (storage_form e.text) e.text) (is_some (own_id e.text)) (is_message e.kind && is_id_taken (live before) (own_id e.text)) size own valid.text.id (free_kind e.kind before e refl valid.text.id differ) in
    let commit : id_eq (commit_on form before (line_after form before e) e.text) (line_after form before e).commit ≡ true = id_eq-refl (line_after form before e).commit (line_after form before e).commit refl in
    both (misfits before (line_after form before e) e.text) (id_eq (commit_on form before (line_after form before e) e.text) (line_after form before e).commit) (answer.BadList at) (answer.BadCommit (line_after form before e).commit (commit_on form before (line_after form before e) e.text)) fits commit
  where
    both : (m c : Bool) (x y : FetchAnswer) → m ≡ false → c ≡ true → (if m then Some x else if c then None else Some y) ≡ None
    both true c x y m_is c_is = absurd (let wrong : true ≡ false = m_is in cc)
    both false true x y m_is c_is = refl
    both false false x y m_is c_is = absurd (let wrong : false ≡ true = c_is in cc)

-- What is known by the blob id of an entry is its text.
known_is : (a : Archive) (before : List Entry) (e : Entry) (t : List ℕ) → OwnText a e.text → AllByRecursion (λ (b : Entry). blob_id_of a.config.form e.text ≡ blob_id_of a.config.form b.text → e.text ≡ b.text) before → known_text a.config.form a.entries before (blob_id_of a.config.form e.text) ≡ Some t → t ≡ e.text
known_is a before e t own agree known = by (blob_text a.config.form a.entries (blob_id_of a.config.form e.text)) refl known where
  by : (o : Option (List ℕ)) → blob_text a.config.form a.entries (blob_id_of a.config.form e.text) ≡ o → first_there o (blob_text a.config.form before (blob_id_of a.config.form e.text)) ≡ Some t → t ≡ e.text
  by None is found =
      let there = blob-found a.config.form before (blob_id_of a.config.form e.text) t found in
      sym (all-text (λ (x : List ℕ). blob_id_of a.config.form e.text ≡ blob_id_of a.config.form x → e.text ≡ x) before t agree there.1 there.0)
  by (Some x) is found = own t (is ∙ found)

unless_none : (w : Option FetchAnswer) (c : FetchCourse) → w ≡ None → (unless w c).stage ≡ c.stage
unless_none w c is = ap (λ (x : Option FetchAnswer). (unless x c).stage) is

-- One entry of the source.
source_line : (a : Archive) (at : ℕ) (before : List Entry) (e : Entry) (known : Option (List ℕ)) (texts more : List Reply) (rest : List Reply → List ℕ → FetchCourse) → ((t : List ℕ) → known ≡ Some t → t ≡ e.text)
    → wrong_text a.config.form at before (line_after a.config.form before e) e.text ≡ None
    → (line_course a at before (line_after a.config.form before e) known ((if is_some known then texts else text_reply e.text ∷ texts) ++ more) rest).stage ≡ (rest (texts ++ more) e.text).stage
source_line a at before e (Some t) texts more rest same right =
    let is : t ≡ e.text = same t refl in
    ap (λ (x : List ℕ). (unless (wrong_text a.config.form at before (line_after a.config.form before e) x) (rest (texts ++ more) x)).stage) is
    ∙ unless_none (wrong_text a.config.form at before (line_after a.config.form before e) e.text) (rest (texts ++ more) e.text) right
source_line a at before e None texts more rest same right =
    let id : id_eq (blob_id_of a.config.form e.text) (blob_id_of a.config.form e.text) ≡ true = id_eq-refl (blob_id_of a.config.form e.text) (blob_id_of a.config.form e.text) refl in
    let reply : wrong_reply a.config.form (blob_id_of a.config.form e.text) (text_reply e.text) ≡ None = ap (λ (t : Bool). if t then None else Some (answer.WrongId (blob_id_of a.config.form e.text) (blob_id_of a.config.form e.text))) id in
    unless_none (wrong_reply a.config.form (blob_id_of a.config.form e.text) (text_reply e.text)) (unless (wrong_text a.config.form at before (line_after a.config.form before e) e.text) (rest (texts ++ more) e.text)) reply
    ∙ unless_none (wrong_text a.config.form at before (line_after a.config.form before e) e.text) (rest (texts ++ more) e.text) right

-- All entries of the source.
source_held : (a : Archive) (next at : ℕ) (before es : List Entry) (more : List Reply) → AllByRecursion IsEntry es → AtEachPlace LiveDiffer before es → AllByRecursion (λ (e : Entry). OwnText a e.text) es → BlobsAgree a.config.form es
    → AllByRecursion (λ (b : Entry). AllByRecursion (λ (f : Entry). blob_id_of a.config.form f.text ≡ blob_id_of a.config.form b.text → f.text ≡ b.text) es) before
    → (lines_course a next at before (lines_after a.config.form before es) (source_texts a.config.form a.entries before es ++ more)).stage ≡ HoldsAll (archive_with a (before ++ es) next)
source_held a next at before [] more valid differ own blobs agree = ap (λ (l : List Entry). HoldsAll (archive_with a l next)) (sym (append-nil before))
source_held a next at before (e ∷ es) more valid differ own blobs agree =
    let same : entry_on (line_after a.config.form before e) e.text ≡ e = refl in
    let first = source_line a at before e (known_text a.config.form a.entries before (blob_id_of a.config.form e.text)) (source_texts a.config.form a.entries (before ++ e ∷ []) es) more
    (λ (left : List Reply) (text : List ℕ). lines_course a next (at + 1) (before ++ entry_on (line_after a.config.form before e) text ∷ []) (lines_after a.config.form (before ++ e ∷ []) es) left)
    (λ t known. known_is a before e t own.0 (all_weaker (λ (b : Entry). AllByRecursion (λ (f : Entry). blob_id_of a.config.form f.text ≡ blob_id_of a.config.form b.text → f.text ≡ b.text) (e ∷ es)) (λ (b : Entry). blob_id_of a.config.form e.text ≡ blob_id_of a.config.form b.text → e.text ≡ b.text) before (λ b all. all.0) agree) known)
    (source_right a.config.form at before e valid.0 differ.0) in
    let later = source_held a next (at + 1) (before ++ e ∷ []) es more valid.1 differ.1 own.1 blobs.1
    (all_after (λ (b : Entry). AllByRecursion (λ (f : Entry). blob_id_of a.config.form f.text ≡ blob_id_of a.config.form b.text → f.text ≡ b.text) es) before e
    (all_weaker (λ (b : Entry). AllByRecursion (λ (f : Entry). blob_id_of a.config.form f.text ≡ blob_id_of a.config.form b.text → f.text ≡ b.text) (e ∷ es)) (λ (b : Entry). AllByRecursion (λ (f : Entry). blob_id_of a.config.form f.text ≡ blob_id_of a.config.form b.text → f.text ≡ b.text) es) before (λ b all. all.1) agree) blobs.0) in
    first ∙ (later ∙ ap (λ (l : List Entry). HoldsAll (archive_with a l next)) (append_assoc before (e ∷ []) es))

-- A message is found under its number, where numbers rise.
found_later : (k : EntryKind) (number : ℕ) (e : Entry) (es : List Entry) (n : ℕ) (text : List ℕ) → NumberIsFrom k number e.number → number_after k number e.number ≤ n → text_of (messages es) n ≡ Some text → (text_of (if is_message k then e ∷ messages es else messages es) n ≡ Some text) × (number ≤ n)
found_later Message number e es n text from above is = (
  (let other : (e.number == n) ≡ false = grind (arith, nat_tests, above) in ap (λ (t : Bool). if t then Some e.text else text_of (messages es) n) other ∙ is),
  omega (arith, from, above),
)
found_later Deletion number e es n text from above is = (is, above)

found_here : (k : EntryKind) (number : ℕ) (e : Entry) (es : List Entry) (n : ℕ) (text : List ℕ) → NumberIsFrom k number e.number → is_message k ≡ true → e.number ≡ n → e.text ≡ text → (text_of (if is_message k then e ∷ messages es else messages es) n ≡ Some text) × (number ≤ n)
found_here Message number e es n text from is same text_is = (
  (let hit : (e.number == n) ≡ true = grind (arith, nat_tests, same) in ap (λ (t : Bool). if t then Some e.text else text_of (messages es) n) hit ∙ ap Some text_is),
  omega (arith, from, same),
)
found_here Deletion number e es n text from is same text_is = absurd (let wrong : false ≡ true = is in cc)

message_found : (number epoch : ℕ) (es : List Entry) (n : ℕ) (text : List ℕ) → Rise number epoch es → HasMessage es n text → (text_of (messages es) n ≡ Some text) × (number ≤ n)
message_found number epoch [] n text rise has = absurd has
message_found number epoch (e ∷ es) n text rise (inl is) = found_here e.kind number e es n text rise.0 is.0 is.1 is.2
message_found number epoch (e ∷ es) n text rise (inr more) = let later = message_found (number_after e.kind number e.number) e.epoch es n text rise.2 more in found_later e.kind number e es n text rise.0 later.1 later.0

below_found : (es : List Entry) (n next : ℕ) (text : List ℕ) → AllByRecursion (λ (e : Entry). e.number < next) es → text_of es n ≡ Some text → n < next
below_found [] n next text below is = absurd (cc)
below_found (e ∷ es) n next text below is = by (e.number == n) refl (below_found es n next text below.1) is where
  by : (t : Bool) → (e.number == n) ≡ t → (text_of es n ≡ Some text → n < next) → (if t then Some e.text else text_of es n) ≡ Some text → n < next
  by true test later is = let low : e.number < next = below.0 in grind (arith, nat_tests, test, low)
  by false test later is = later is

-- A message of a source that follows isn't renamed.
not_renamed : (a : Archive) (line : EntryLine) (text : List ℕ) (found : Option (List ℕ)) → IsArchive a → blob_id_of a.config.form text ≡ line.blob → text_of (messages a.entries) line.number ≡ found → (line.number < a.next → HasMessage a.entries line.number text) → renamed_by a.config.form found a.next line ≡ None
not_renamed a line text None valid blob is keeps = by (nat_lt line.number a.next) refl where
  by : (t : Bool) → nat_lt line.number a.next ≡ t → (if t then Some (answer.Revived line.number) else None) ≡ None
  by true test = absurd (let less : line.number < a.next = grind (arith, nat_tests, test) in let there = message_found 1 0 a.entries line.number text valid.order (keeps less) in let wrong : None ≡ Some text = sym is ∙ there.0 in cc)
  by false test = refl
not_renamed a line text (Some t) valid blob is keeps =
    let less = below_found (messages a.entries) line.number a.next t (messages-all (λ (e : Entry). e.number < a.next) a.entries valid.below) is in
    let there = message_found 1 0 a.entries line.number text valid.order (keeps less) in
    let both : Some t ≡ Some text = sym is ∙ there.0 in
    let same : t ≡ text = cc in
    ap (λ (u : Bool). if u then None else Some (answer.Renamed line.number (blob_id_of a.config.form t) line.blob)) (id_eq-refl (blob_id_of a.config.form t) line.blob (ap (blob_id_of a.config.form) same ∙ blob))

line_kept : (a : Archive) (before : List Entry) (e : Entry) (m : Bool) → is_message e.kind ≡ m → IsArchive a → (is_message e.kind ≡ true → e.number < a.next → HasMessage a.entries e.number e.text) → (if m then renamed_by a.config.form (text_of (messages a.entries) e.number) a.next (line_after a.config.form before e) else None) ≡ None
line_kept a before e true kind valid keeps = not_renamed a (line_after a.config.form before e) e.text (text_of (messages a.entries) e.number) valid refl refl (keeps kind)
line_kept a before e false kind valid keeps = refl

both_none : {X : Type 0} (o more : Option X) → o ≡ None → more ≡ None → first_there o more ≡ None
both_none o more o_is more_is = ap (λ (x : Option _). first_there x more) o_is ∙ more_is

none_renamed : (a : Archive) (before es : List Entry) → IsArchive a → ((n : ℕ) (text : List ℕ) → n < a.next → HasMessage es n text → HasMessage a.entries n text) → first_renamed a (lines_after a.config.form before es) ≡ None
none_renamed a before [] valid keeps = refl
none_renamed a before (e ∷ es) valid keeps =
    both_none (line_renamed a (line_after a.config.form before e)) (first_renamed a (lines_after a.config.form (before ++ e ∷ []) es))
    (line_kept a before e (is_message e.kind) refl valid (λ message less. keeps e.number e.text less (inl (message, refl, refl))))
    (none_renamed a (before ++ e ∷ []) es valid (λ n text less has. keeps n text less (inr has)))

-- With the list of a source that follows nothing is wrong.
list_right : (n b : Bool) (x y : FetchAnswer) (more : Option FetchAnswer) → n ≡ true → b ≡ false → more ≡ None → (if not n then Some x else if b then Some y else more) ≡ None
list_right true true x y more n_is b_is is = absurd (let wrong : true ≡ false = b_is in cc)
list_right true false x y more n_is b_is is = is
list_right false b x y more n_is b_is is = absurd (let wrong : false ≡ true = n_is in cc)

source_list : (a s : Archive) → MayBecome a s → wrong_list a (list_of s) ≡ None
source_list a s may =
    let behind : nat_lt s.next a.next ≡ false = (let more = may.follows.next in grind (arith, nat_tests, more)) in
    list_right (bytes_eq s.config.name a.config.name) (nat_lt s.next a.next) (answer.BadList 2) (answer.Behind a.next s.next) (first_renamed a (list_of s).lines) (bytes_eq-refl s.config.name a.config.name may.name) behind
    (subst (λ (f : Form). first_renamed a (lines_after f [] s.entries) ≡ None) (sym may.form) (none_renamed a [] s.entries may.here may.follows.texts))

-- The own texts of a mirror that agrees with a source.
own_texts : (a : Archive) (there : List Entry) → TextsAgree a.config.form a.entries there → AllByRecursion (λ (e : Entry). OwnText a e.text) there
own_texts a [] agree = tt
own_texts a (f ∷ fs) agree = (
  λ t is. (let found = blob-found a.config.form a.entries (blob_id_of a.config.form f.text) t is in all-text (λ (x : List ℕ). blob_id_of a.config.form x ≡ blob_id_of a.config.form f.text → x ≡ f.text) a.entries t agree.0 found.1 (sym found.0)),
  own_texts a fs agree.1,
)

-- Where a fetch leads over the list of a source and other replies.
abbrev SourceStage : Archive → Archive → List Reply → FetchStage → Type 0
SourceStage a s replies stage = (stage ≡ (unless (wrong_list a (list_of s)) (lines_course a s.next 4 [] (list_of s).lines replies)).stage) ⊎ (stage ≡ ComesTo answer.NoMemory)

list_read : ListsAreReadBack → (a s : Archive) (replies : List Reply) (rest : FetchCourse) (read : Result MirrorList ListRefusal) → IsArchive s → ReadsList s.config.form (list_text s.config.form (list_of s)) read → rest ≡ read_course a replies read → SourceStage a s replies rest.stage
list_read law a s replies rest (Ok l) valid reads is =
    let back = law s (Ok l) valid reads in
    inl (ap (λ (c : FetchCourse). c.stage) is ∙ ap (λ (x : MirrorList). (unless (wrong_list a x) (lines_course a x.next 4 [] x.lines replies)).stage) back.0)
list_read law a s replies rest (Err (list.BadList line)) valid reads is =
    let back = law s (Err (list.BadList line)) valid reads in
    absurd (let wrong : list.BadList line ≡ list.NoMemory = back.1 in cc)
list_read law a s replies rest (Err list.NoMemory) valid reads is = inr (ap (λ (c : FetchCourse). c.stage) is)

mirror_read : ListsAreReadBack → (a s : Archive) (replies : List Reply) (course : FetchCourse) → IsArchive s → s.config.form ≡ a.config.form
    → MirrorLeads a (text_reply (list_text s.config.form (list_of s)) ∷ replies) course → SourceStage a s replies course.stage
mirror_read law a s replies course valid form leads =
    let read = leads.1.0 in
    let reads : ReadsList s.config.form (list_text s.config.form (list_of s)) read = subst (λ (f : Form). ReadsList f (list_text s.config.form (list_of s)) read) (sym form) leads.1.1 in
    subst (λ (st : FetchStage). SourceStage a s replies st) (sym (ap (λ (c : FetchCourse). c.stage) leads.2)) (list_read law a s replies leads.0 read valid reads leads.1.2)

source_stage : (a s : Archive) (more : List Reply) (stage : FetchStage) → MayBecome a s → SourceStage a s (source_texts a.config.form a.entries [] s.entries ++ more) stage → (stage ≡ HoldsAll (mirror_of a s)) ⊎ (stage ≡ ComesTo answer.NoMemory)
source_stage a s more stage may (inl is) =
    inl (is ∙ (unless_none (wrong_list a (list_of s)) (lines_course a s.next 4 [] (list_of s).lines (source_texts a.config.form a.entries [] s.entries ++ more)) (source_list a s may)
    ∙ subst (λ (f : Form). (lines_course a s.next 4 [] (lines_after f [] s.entries) (source_texts a.config.form a.entries [] s.entries ++ more)).stage ≡ HoldsAll (mirror_of a s)) (sym may.form)
    (source_held a s.next 4 [] s.entries more may.there.entries may.there.ids (own_texts a s.entries may.texts) (subst (λ (f : Form). BlobsAgree f s.entries) may.form may.there.blobs) tt)))
source_stage a s more stage may (inr is) = inr is

pub holds_the_source : ListsAreReadBack → HoldsTheSource
holds_the_source law a s given rest more course may joined leads = by course.stage refl where
  done : course.stage ≢ AsksOn → (course.stage ≡ AsksOn) ⊎ ((course.stage ≡ HoldsAll (mirror_of a s)) ⊎ (course.stage ≡ ComesTo answer.NoMemory))
  done ended =
      let all : FetchLeads a (source_replies a s ++ more) course = subst (λ (rs : List Reply). FetchLeads a rs course) joined (needs_no_more a given rest course leads ended) in
      let mirror : MirrorLeads a (source_replies a s ++ more) course = subst (λ (m : Bool). MatchBool m (MirrorLeads a (source_replies a s ++ more) course) (course ≡ comes_to answer.NotMirror)) may.mirror all in
      inr (source_stage a s more course.stage may (mirror_read law a s (source_texts a.config.form a.entries [] s.entries ++ more) course may.there may.form mirror))

  by : (st : FetchStage) → course.stage ≡ st → (course.stage ≡ AsksOn) ⊎ ((course.stage ≡ HoldsAll (mirror_of a s)) ⊎ (course.stage ≡ ComesTo answer.NoMemory))
  by AsksOn is = inl is
  by (ComesTo why) is = done (λ asks. (let wrong : ComesTo why ≡ AsksOn = sym is ∙ asks in cc))
  by (HoldsAll b) is = done (λ asks. (let wrong : HoldsAll b ≡ AsksOn = sym is ∙ asks in cc))

-- Entries with the same lines are the same, where their texts agree.
same_entries : (form : Form) (before earlier xs ys : List Entry) → lines_after form before xs ≡ lines_after form earlier ys → TextsAgree form xs ys → xs ≡ ys
same_entries form before earlier [] [] same agree = refl
same_entries form before earlier [] (y ∷ ys) same agree = absurd (cc)
same_entries form before earlier (x ∷ xs) [] same agree = absurd (cc)
same_entries form before earlier (x ∷ xs) (y ∷ ys) same agree =
    let head : line_after form before x ≡ line_after form earlier y = cc in
    let tail : lines_after form (before ++ x ∷ []) xs ≡ lines_after form (earlier ++ y ∷ []) ys = cc in
    let text : x.text ≡ y.text = agree.0.0 (ap (λ (l : EntryLine). l.blob) head) in
    let one : x ≡ y = λ i. record { kind = (head i).kind; number = (head i).number; epoch = (head i).epoch; text = text i; moment = (head i).secs } in
    let more : xs ≡ ys = same_entries form (before ++ x ∷ []) (earlier ++ y ∷ []) xs ys tail
    (all_weaker (λ (f : Entry). AllByRecursion (λ (e : Entry). blob_id_of form e.text ≡ blob_id_of form f.text → e.text ≡ f.text) (x ∷ xs)) (λ (f : Entry). AllByRecursion (λ (e : Entry). blob_id_of form e.text ≡ blob_id_of form f.text → e.text ≡ f.text) xs) ys (λ f all. all.1) agree.1) in
    ap (λ (e : Entry). e ∷ xs) one ∙ ap (λ (l : List Entry). y ∷ l) more

only_stage : (a s b : Archive) (replies : List Reply) (stage : FetchStage) → s.config.form ≡ a.config.form → stage ≡ HoldsAll b → TextsAgree a.config.form b.entries s.entries → SourceStage a s replies stage → b ≡ mirror_of a s
only_stage a s b replies stage form holds agree (inr is) = absurd (let wrong : HoldsAll b ≡ ComesTo answer.NoMemory = sym holds ∙ is in cc)
only_stage a s b replies stage form holds agree (inl is) =
    let course = unless_holds (wrong_list a (list_of s)) (lines_course a s.next 4 [] (list_of s).lines replies) b (sym is ∙ holds) in
    let held = lines-held a b s.next 4 [] (list_of s).lines replies course.1 in
    let lines : lines_after a.config.form [] held.rest ≡ lines_after a.config.form [] s.entries = right-lines a [] (list_of s).lines held.rest held.right ∙ ap (λ (f : Form). lines_after f [] s.entries) form in
    let same : held.rest ≡ s.entries = same_entries a.config.form [] [] held.rest s.entries lines (subst (λ (x : Archive). TextsAgree a.config.form x.entries s.entries) held.is agree) in
    held.is ∙ ap (λ (l : List Entry). archive_with a l s.next) same

only_match : ListsAreReadBack → (a s b : Archive) (replies : List Reply) (course : FetchCourse) (m : Bool) → IsArchive s → s.config.form ≡ a.config.form
    → MatchBool m (MirrorLeads a (text_reply (list_text s.config.form (list_of s)) ∷ replies) course) (course ≡ comes_to answer.NotMirror) → course.stage ≡ HoldsAll b → TextsAgree a.config.form b.entries s.entries → b ≡ mirror_of a s
only_match law a s b replies course true valid form leads holds agree = only_stage a s b replies course.stage form holds agree (mirror_read law a s replies course valid form leads)
only_match law a s b replies course false valid form leads holds agree = absurd (let wrong : HoldsAll b ≡ ComesTo answer.NotMirror = sym holds ∙ ap (λ (c : FetchCourse). c.stage) leads in cc)

pub holds_only_the_source : ListsAreReadBack → HoldsOnlyTheSource
holds_only_the_source law a s b replies course valid form leads holds agree = only_match law a s b replies course a.config.mirror valid form leads holds agree
