-- Each path is asked for once.
use Rattle.std.proofs.Common.{◌≡◌, ◌≢◌, ◌+◌, ◌==◌, ℕ, Bool, true, false, List, [], ◌∷◌, ◌++◌, codes, slice_index, Option, Some, None, Result, Ok, Err, refl, sym, ap, subst, ◌∙◌, arith, if◌then◌else◌}
use Rattle.std.proofs.lemmas.List.{append_cancel_left}
use Rattle.std.specs.Bool.{MatchBool}
use Rattle.std.specs.List.{AllByRecursion}
use Rattle.hex.specs.Hex.{encode_lower}
use Rattle.arch_base.specs.Ids.{IsObjectId, id_bytes, id_eq}
use Rattle.arch_base.specs.declared.ids.Form.{Form}
use Rattle.arch_base.specs.declared.ids.ObjectId.{ObjectId}
use Rattle.arch_base.proofs.IdOrder.{id_eq-Decides}
use Rattle.git_objects.proofs.HexLines.{hex-once}
use Rattle.git_objects.specs.Objects.{blob_id_of}
use Rattle.arch_model.specs.Archives.{Entry, Archive}
use Rattle.arch_model.specs.Shelves.{blob_text}
use Rattle.arch_model.specs.declared.line.EntryLine.{EntryLine}
use Rattle.arch_model.proofs.ValidArchives.{all_weaker}
use Rattle.edge_io.specs.declared.peer.Reply.{Reply}
use Rattle.mirror_wire.specs.declared.list.MirrorList.{MirrorList}
use Rattle.mirror_wire.specs.declared.list.ListRefusal.{ListRefusal}
use Rattle.mirror_wire.specs.declared.list.ListRefusal.TheVariants as list
use Rattle.mirror_wire.specs.Rules.{EachMayFollow}
use Rattle.mirror_wire.specs.Reading.{ReadsList}
use Rattle.fetch_course.specs.declared.answer.FetchAnswer.{FetchAnswer}
use Rattle.fetch_course.specs.declared.answer.FetchAnswer.TheVariants as answer
use Rattle.fetch_course.specs.Peering.{blob_path, list_path}
use Rattle.fetch_course.specs.Courses.{FetchCourse, MirrorLeads, comes_to, entry_on, first_there, known_text, line_course, lines_course, read_course, unless, wrong_list, wrong_reply, wrong_text}
use Rattle.fetch_course.specs.Laws.{AsksOnce, AreOnce}
use Rattle.fetch_course.proofs.Lines.{right-reply}

-- A path is that of a blob that is not yet known.
pub record NewPath (a : Archive) (before : List Entry) (path : List ℕ) : Type 0 where
  pub blob : ObjectId
  pub is : path ≡ blob_path a.config.name blob
  pub valid : IsObjectId a.config.form blob
  pub unknown : known_text a.config.form a.entries before blob ≡ None

-- Paths are such, and no one stands twice.
pub record NewPaths (a : Archive) (before : List Entry) (paths : List (List ℕ)) : Type 0 where
  pub each : AllByRecursion (NewPath a before) paths
  pub once : AreOnce paths

-- What is not known with one more entry was not known before, and isn't the entry's.
text_front : (form : Form) (es : List Entry) (e : Entry) (blob : ObjectId) → blob_text form (es ++ e ∷ []) blob ≡ None → blob_text form es blob ≡ None
text_front form [] e blob none = refl
text_front form (x ∷ xs) e blob none = by (id_eq blob (blob_id_of form x.text)) (text_front form xs e blob) none where
  by : (t : Bool) → (blob_text form (xs ++ e ∷ []) blob ≡ None → blob_text form xs blob ≡ None) → (if t then Some x.text else blob_text form (xs ++ e ∷ []) blob) ≡ None → (if t then Some x.text else blob_text form xs blob) ≡ None
  by true rest none = absurd (cc)
  by false rest none = rest none

text_last : (form : Form) (es : List Entry) (e : Entry) (blob : ObjectId) → blob_text form (es ++ e ∷ []) blob ≡ None → blob ≢ blob_id_of form e.text
text_last form [] e blob none same =
    let hit : id_eq blob (blob_id_of form e.text) ≡ true = (id_eq-Decides blob (blob_id_of form e.text)).1 same in
    let found : Some e.text ≡ None = sym (ap (λ (t : Bool). if t then Some e.text else None) hit) ∙ none in
    absurd (cc)
text_last form (x ∷ xs) e blob none same = by (id_eq blob (blob_id_of form x.text)) (λ more. text_last form xs e blob more same) none where
  by : (t : Bool) → (blob_text form (xs ++ e ∷ []) blob ≡ None → ⊥) → (if t then Some x.text else blob_text form (xs ++ e ∷ []) blob) ≡ None → ⊥
  by true rest none = let wrong : Some x.text ≡ None = none in absurd (cc)
  by false rest none = rest none

first_none : (o more : Option (List ℕ)) → first_there o more ≡ None → (o ≡ None) × (more ≡ None)
first_none None more is = (refl, is)
first_none (Some x) more is = absurd (cc)

none_first : (o more : Option (List ℕ)) → o ≡ None → more ≡ None → first_there o more ≡ None
none_first None more o_is is = is
none_first (Some x) more o_is is = absurd (cc)

before_one : (a : Archive) (before : List Entry) (e : Entry) (path : List ℕ) → NewPath a (before ++ e ∷ []) path → NewPath a before path
before_one a before e path new =
    let both = first_none (blob_text a.config.form a.entries new.blob) (blob_text a.config.form (before ++ e ∷ []) new.blob) new.unknown in
    record {
      blob = new.blob;
      is = new.is;
      valid = new.valid;
      unknown = none_first (blob_text a.config.form a.entries new.blob) (blob_text a.config.form before new.blob) both.0 (text_front a.config.form before e new.blob both.1);
    }

before_all : (a : Archive) (before : List Entry) (e : Entry) (paths : List (List ℕ)) → NewPaths a (before ++ e ∷ []) paths → NewPaths a before paths
before_all a before e paths new = record {
  each = all_weaker (NewPath a (before ++ e ∷ [])) (NewPath a before) paths (λ path one. before_one a before e path one) new.each;
  once = new.once;
}

-- The paths of two blobs differ.
same_blob : (a : Archive) (b c : ObjectId) → IsObjectId a.config.form b → IsObjectId a.config.form c → blob_path a.config.name b ≡ blob_path a.config.name c → b ≡ c
same_blob a b c left right same =
    let rest = append_cancel_left (codes "/") (a.config.name ++ (codes "/_/blob/" ++ encode_lower (id_bytes b))) (a.config.name ++ (codes "/_/blob/" ++ encode_lower (id_bytes c))) same in
    let tail = append_cancel_left a.config.name (codes "/_/blob/" ++ encode_lower (id_bytes b)) (codes "/_/blob/" ++ encode_lower (id_bytes c)) rest in
    hex-once b c left right (append_cancel_left (codes "/_/blob/") (encode_lower (id_bytes b)) (encode_lower (id_bytes c)) tail)

other_path : (a : Archive) (before : List Entry) (e : Entry) (blob : ObjectId) (path : List ℕ) → IsObjectId a.config.form blob → blob_id_of a.config.form e.text ≡ blob → NewPath a (before ++ e ∷ []) path → path ≢ blob_path a.config.name blob
other_path a before e blob path valid is new same =
    let both = first_none (blob_text a.config.form a.entries new.blob) (blob_text a.config.form (before ++ e ∷ []) new.blob) new.unknown in
    let one : new.blob ≡ blob = same_blob a new.blob blob new.valid valid (sym new.is ∙ same) in
    text_last a.config.form before e new.blob both.1 (one ∙ sym is)

unless_paths : (P : List (List ℕ) → Type 0) (w : Option FetchAnswer) (c : FetchCourse) → P [] → (w ≡ None → P c.asked) → P (unless w c).asked
unless_paths P None c none some = some refl
unless_paths P (Some why) c none some = none

line_paths : (a : Archive) (at : ℕ) (before : List Entry) (line : EntryLine) (known : Option (List ℕ)) (replies : List Reply) (rest : List Reply → List ℕ → FetchCourse) → known_text a.config.form a.entries before line.blob ≡ known → IsObjectId a.config.form line.blob
    → ((left : List Reply) (text : List ℕ) → NewPaths a (before ++ entry_on line text ∷ []) (rest left text).asked) → NewPaths a before (line_course a at before line known replies rest).asked
line_paths a at before line (Some text) replies rest is valid more =
    unless_paths (NewPaths a before) (wrong_text a.config.form at before line text) (rest replies text) (record { each = tt; once = tt }) (λ right. before_all a before (entry_on line text) (rest replies text).asked (more replies text))
line_paths a at before line None [] rest is valid more = record { each = (record { blob = line.blob; is = refl; valid = valid; unknown = is }, tt); once = (tt, tt) }
line_paths a at before line None (reply ∷ replies) rest is valid more =
    unless_paths (λ (paths : List (List ℕ)). NewPaths a before (blob_path a.config.name line.blob ∷ paths)) (wrong_reply a.config.form line.blob reply) (unless (wrong_text a.config.form at before line reply.body) (rest replies reply.body)) alone
    (λ right. unless_paths (λ (paths : List (List ℕ)). NewPaths a before (blob_path a.config.name line.blob ∷ paths)) (wrong_text a.config.form at before line reply.body) (rest replies reply.body) alone
    (λ fits. record {
      each = (first, (before_all a before (entry_on line reply.body) (rest replies reply.body).asked (more replies reply.body)).each);
      once = (
        all_weaker (NewPath a (before ++ entry_on line reply.body ∷ [])) (λ (p : List ℕ). p ≢ blob_path a.config.name line.blob) (rest replies reply.body).asked
            (λ path one. other_path a before (entry_on line reply.body) line.blob path valid (right-reply a.config.form line.blob reply right) one) (more replies reply.body).each,
        (more replies reply.body).once,
      );
    }))
  where
    first : NewPath a before (blob_path a.config.name line.blob)
    first = record { blob = line.blob; is = refl; valid = valid; unknown = is }

    alone : NewPaths a before (blob_path a.config.name line.blob ∷ [])
    alone = record { each = (first, tt); once = (tt, tt) }

lines_paths : (a : Archive) (next at : ℕ) (before : List Entry) (lines : List EntryLine) (replies : List Reply) → AllByRecursion (λ (l : EntryLine). IsObjectId a.config.form l.blob) lines → NewPaths a before (lines_course a next at before lines replies).asked
lines_paths a next at before [] replies valid = record { each = tt; once = tt }
lines_paths a next at before (line ∷ lines) replies valid =
    line_paths a at before line (known_text a.config.form a.entries before line.blob) replies
    (λ (left : List Reply) (text : List ℕ). lines_course a next (at + 1) (before ++ entry_on line text ∷ []) lines left) refl valid.0
    (λ left text. lines_paths a next (at + 1) (before ++ entry_on line text ∷ []) lines left valid.1)

blobs_valid : (form : Form) (next : ℕ) (before lines : List EntryLine) → EachMayFollow form next before lines → AllByRecursion (λ (l : EntryLine). IsObjectId form l.blob) lines
blobs_valid form next before [] follow = tt
blobs_valid form next before (l ∷ ls) follow = (follow.0.blob, blobs_valid form next (before ++ l ∷ []) ls follow.1)

-- The path of the list is that of no blob.
list_apart : (a : Archive) (path : List ℕ) → NewPath a [] path → path ≢ list_path a.config.name
list_apart a path new same =
    let both : blob_path a.config.name new.blob ≡ list_path a.config.name = sym new.is ∙ same in
    let rest = append_cancel_left (codes "/") (a.config.name ++ (codes "/_/blob/" ++ encode_lower (id_bytes new.blob))) (a.config.name ++ codes "/_/list") both in
    let tail = append_cancel_left a.config.name (codes "/_/blob/" ++ encode_lower (id_bytes new.blob)) (codes "/_/list") rest in
    let wrong : 98 ≡ 108 = ap (λ (l : List ℕ). slice_index l 3) tail in
    omega (arith, wrong)

read_paths : (a : Archive) (replies : List Reply) (read : Result MirrorList ListRefusal) (body : List ℕ) → ReadsList a.config.form body read → NewPaths a [] (read_course a replies read).asked
read_paths a replies (Ok l) body reads = unless_paths (NewPaths a []) (wrong_list a l) (lines_course a l.next 4 [] l.lines replies) (record { each = tt; once = tt }) (λ right. lines_paths a l.next 4 [] l.lines replies (blobs_valid a.config.form l.next [] l.lines reads.0.lines))
read_paths a replies (Err (list.BadList line)) body reads = record { each = tt; once = tt }
read_paths a replies (Err list.NoMemory) body reads = record { each = tt; once = tt }

rest_paths : (a : Archive) (reply : Reply) (replies : List Reply) (rest : FetchCourse) (t : Bool) → MatchBool t ((read : Result MirrorList ListRefusal) × ReadsList a.config.form reply.body read × (rest ≡ read_course a replies read)) (rest ≡ comes_to (answer.BadReply reply.status)) → NewPaths a [] rest.asked
rest_paths a reply replies rest true leads = subst (λ (c : FetchCourse). NewPaths a [] c.asked) (sym leads.2) (read_paths a replies leads.0 reply.body leads.1)
rest_paths a reply replies rest false leads = subst (λ (c : FetchCourse). NewPaths a [] c.asked) (sym leads) (record { each = tt; once = tt })

mirror_once : (a : Archive) (replies : List Reply) (course : FetchCourse) → MirrorLeads a replies course → AreOnce course.asked
mirror_once a [] course leads = subst (λ (c : FetchCourse). AreOnce c.asked) (sym leads) (tt, tt)
mirror_once a (reply ∷ replies) course leads =
    let new = rest_paths a reply replies leads.0 (reply.status == 200) leads.1 in
    subst (λ (c : FetchCourse). AreOnce c.asked) (sym leads.2) (all_weaker (NewPath a []) (λ (p : List ℕ). p ≢ list_path a.config.name) leads.0.asked (λ path one. list_apart a path one) new.each, new.once)

fetch_once : (m : Bool) (a : Archive) (replies : List Reply) (course : FetchCourse) → MatchBool m (MirrorLeads a replies course) (course ≡ comes_to answer.NotMirror) → AreOnce course.asked
fetch_once true a replies course leads = mirror_once a replies course leads
fetch_once false a replies course leads = subst (λ (c : FetchCourse). AreOnce c.asked) (sym leads) tt

pub asks_once : AsksOnce
asks_once a replies course leads = fetch_once a.config.mirror a replies course leads
