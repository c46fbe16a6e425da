-- The first message that collides, and where none does.
use Rattle.std.specs.Prelude.{◌≡◌, ℕ, Bool, true, false, not, ◌&&◌, ◌||◌, if◌then◌else◌, List, [], ◌∷◌, ◌++◌, map, Option, Some, Result, IfOk, refl}
use Rattle.std.specs.List.{AllByRecursion, list_any}
use Rattle.std.specs.Str.{bytes_eq}
use Rattle.std.proofs.Common.{◌∙◌, sym, ap, subst, inl, inr, append_assoc}
use Rattle.std.proofs.lemmas.Result.{IfOk-weaker}
use Rattle.std.proofs.lemmas.Slice.Eq.{bytes_eq-Decides}
use Rattle.arch_base.specs.Ids.{id_eq}
use Rattle.arch_base.specs.declared.ids.Form.{Form}
use Rattle.arch_base.proofs.IdOrder.{id_eq-Decides}
use Rattle.git_objects.specs.Objects.{blob_id_of}
use Rattle.git_objects.specs.declared.entry_kind.EntryKind.{EntryKind}
use Rattle.git_objects.specs.declared.entry_kind.EntryKind.TheVariants.{Message, Deletion}
use Rattle.arch_model.specs.Archives.{Archive, Entry, is_ended, is_message, live, messages}
use Rattle.arch_model.specs.Validity.{AtEachPlace, BlobsAgree, EndsLive, IsArchive}
use Rattle.arch_model.proofs.LiveEntries.{HasText, all-text, found-has, messages-all}
use Rattle.arch_model.proofs.ValidArchives.{agrees-has, all_weaker}
use Rattle.id_clashes.specs.declared.clashes.TwoIds.{TwoIds}
use Rattle.id_clashes.specs.Clashes.{NoClashAgrees, OldIdsAgree, clashes, first_clash_of}
use Rattle.store_finding.specs.declared.entries.StoredEntry.{StoredEntry}
use Rattle.store_finding.specs.Kept.{stored_after}
use Rattle.store_finding.proofs.TextBytes.{one_of_all}
use Rattle.convert_planning.specs.Collisions.{NoneCollides, clash_number, collides, collision_of}
use Rattle.convert_planning.specs.ConvertSteps.{two_ids}

-- The ids of a text in two forms.
abbrev pub two_of : Form → Form → Entry → TwoIds
two_of was form e = record { number = e.number; old = blob_id_of was e.text; new = blob_id_of form e.text }

map_step : (t : Bool) (f : Entry → TwoIds) (e : Entry) (es : List Entry) → (if t then f e ∷ map f es else map f es) ≡ map f (if t then e ∷ es else es)
map_step true f e es = refl
map_step false f e es = refl

-- The ids of what is kept of entries are those of their messages.
pub ids_are : (was form : Form) (b c es : List Entry) → two_ids (stored_after was b es) (stored_after form c es) ≡ map (two_of was form) (messages es)
ids_are was form b c [] = refl
ids_are was form b c (e ∷ es) =
    ap (λ (l : List TwoIds). if is_message e.kind then two_of was form e ∷ l else l) (ids_are was form (b ++ e ∷ []) (c ++ e ∷ []) es)
    ∙ map_step (is_message e.kind) (two_of was form) e (messages es)

-- Two entries with one blob id have one text.
abbrev pub OneText : Form → Entry → Entry → Type 0
OneText form e f = blob_id_of form e.text ≡ blob_id_of form f.text → e.text ≡ f.text

-- Each two of these and those have.
abbrev pub OneTexts : Form → List Entry → List Entry → Type 0
OneTexts form all es = AllByRecursion (λ (e : Entry). AllByRecursion (OneText form e) all) es

same_test : (t u : Bool) → (t ≡ true → u ≡ true) → (u ≡ true → t ≡ true) → t ≡ u
same_test true true one two = refl
same_test true false one two = absurd (let wrong : false ≡ true = one refl in cc)
same_test false true one two = absurd (let wrong : false ≡ true = two refl in cc)
same_test false false one two = refl

test_is : (was : Form) (e f : Entry) → OneText was e f → id_eq (blob_id_of was e.text) (blob_id_of was f.text) ≡ bytes_eq e.text f.text
test_is was e f one =
    same_test (id_eq (blob_id_of was e.text) (blob_id_of was f.text)) (bytes_eq e.text f.text)
    (λ hit. (bytes_eq-Decides e.text f.text).1 (one ((id_eq-Decides (blob_id_of was e.text) (blob_id_of was f.text)).0 hit)))
    (λ hit. (id_eq-Decides (blob_id_of was e.text) (blob_id_of was f.text)).1 (ap (blob_id_of was) ((bytes_eq-Decides e.text f.text).0 hit)))

any_is : (was form : Form) (e : Entry) (before : List Entry) → AllByRecursion (OneText was e) before → list_any (clashes (two_of was form e)) (map (two_of was form) before) ≡ list_any (collides form e) before
any_is was form e [] all = refl
any_is was form e (f ∷ fs) all =
    ap (λ (b : Bool). (id_eq (blob_id_of form e.text) (blob_id_of form f.text) && not b) || list_any (clashes (two_of was form e)) (map (two_of was form) fs)) (test_is was e f all.0)
    ∙ ap (λ (b : Bool). collides form e f || b) (any_is was form e fs all.1)

all_front : (P : Entry → Type 0) (xs ys : List Entry) → AllByRecursion P (xs ++ ys) → AllByRecursion P xs
all_front P [] ys all = tt
all_front P (x ∷ xs) ys all = (all.0, all_front P xs ys all.1)

map_more : (f : Entry → TwoIds) (xs : List Entry) (x : Entry) → map f (xs ++ x ∷ []) ≡ map f xs ++ f x ∷ []
map_more f [] x = refl
map_more f (y ∷ ys) x = ap (λ (l : List TwoIds). f y ∷ l) (map_more f ys x)

pub clash_is : (was form : Form) (before es : List Entry) → OneTexts was (before ++ es) (before ++ es) → first_clash_of (map (two_of was form) before) (map (two_of was form) es) ≡ clash_number form before es
clash_is was form before [] all = refl
clash_is was form before (e ∷ es) all =
    let its : AllByRecursion (OneText was e) (before ++ e ∷ es) = one_of_all (λ (x : Entry). AllByRecursion (OneText was x) (before ++ e ∷ es)) before e es all in
    let test = any_is was form e before (all_front (OneText was e) before (e ∷ es) its) in
    let next : OneTexts was ((before ++ e ∷ []) ++ es) ((before ++ e ∷ []) ++ es) = subst (λ (l : List Entry). OneTexts was l l) (sym (append_assoc before (e ∷ []) es)) all in
    ap (λ (b : Bool). if b then Some e.number else first_clash_of (map (two_of was form) before ++ two_of was form e ∷ []) (map (two_of was form) es)) test
    ∙ ap (λ (o : Option ℕ). if list_any (collides form e) before then Some e.number else o)
    (ap (λ (l : List TwoIds). first_clash_of l (map (two_of was form) es)) (sym (map_more (two_of was form) before e)) ∙ clash_is was form (before ++ e ∷ []) es next)

-- Each of these entries has its text among all.
abbrev HaveText : List Entry → List Entry → Type 0
HaveText all es = AllByRecursion (λ (e : Entry). HasText e.text all) es

has_there : (front : List Entry) (e : Entry) (rest : List Entry) → HasText e.text (front ++ e ∷ rest)
has_there [] e rest = inl refl
has_there (x ∷ front) e rest = inr (has_there front e rest)

all_have : (front es : List Entry) → HaveText (front ++ es) es
all_have front [] = tt
all_have front (e ∷ es) = (
  has_there front e es,
  subst (λ (l : List Entry). HaveText l es) (append_assoc front (e ∷ []) es) (all_have (front ++ e ∷ []) es),
)

-- Texts that entries have agree where the entries do.
texts_agree : (form : Form) (es : List Entry) (x y : List ℕ) → BlobsAgree form es → HasText x es → HasText y es → blob_id_of form x ≡ blob_id_of form y → x ≡ y
texts_agree form es x y agree has_x has_y = all-text (λ (t : List ℕ). blob_id_of form x ≡ blob_id_of form t → x ≡ t) es y (agrees-has form es x agree has_x) has_y

agree_if : (form : Form) (all : List Entry) (agree : BlobsAgree form all) (es : List Entry) → HaveText all es → BlobsAgree form es
agree_if form all agree [] have = tt
agree_if form all agree (e ∷ es) have = (
  all_weaker (λ (f : Entry). HasText f.text all) (λ (f : Entry). blob_id_of form f.text ≡ blob_id_of form e.text → f.text ≡ e.text) es (λ f has. texts_agree form all f.text e.text agree has have.0) have.1,
  agree_if form all agree es have.1,
)

-- So each two messages of an archive have one text where they have one blob id of its form.
pub one_texts : (form : Form) (all : List Entry) → BlobsAgree form all → OneTexts form (messages all) (messages all)
one_texts form all agree =
    let have : HaveText all (messages all) = messages-all (λ (e : Entry). HasText e.text all) all (all_have [] all) in
    all_weaker (λ (e : Entry). HasText e.text all) (λ (e : Entry). AllByRecursion (OneText form e) (messages all)) (messages all)
    (λ e has_e. all_weaker (λ (f : Entry). HasText f.text all) (OneText form e) (messages all) (λ f has_f. texts_agree form all e.text f.text agree has_e has_f) have) have

-- The text of a deletion is that of a message before it.
live_step : (t u : Bool) (text : List ℕ) (e : Entry) (xs ms : List Entry) → (HasText text xs → HasText text ms) → HasText text (if t && u then e ∷ xs else xs) → HasText text (if t then e ∷ ms else ms)
live_step true true text e xs ms rest (inl is) = inl is
live_step true true text e xs ms rest (inr more) = inr (rest more)
live_step true false text e xs ms rest has = inr (rest has)
live_step false u text e xs ms rest has = rest has

live_message : (es : List Entry) (text : List ℕ) → HasText text (live es) → HasText text (messages es)
live_message [] text has = absurd has
live_message (e ∷ es) text has = live_step (is_message e.kind) (not (is_ended es e.number)) text e (live es) (messages es) (live_message es text) has

more_step : (t : Bool) (text : List ℕ) (e : Entry) (xs ys : List Entry) → (HasText text xs → HasText text ys) → HasText text (if t then e ∷ xs else xs) → HasText text (if t then e ∷ ys else ys)
more_step true text e xs ys rest (inl is) = inl is
more_step true text e xs ys rest (inr more) = inr (rest more)
more_step false text e xs ys rest has = rest has

message_more : (xs ys : List Entry) (text : List ℕ) → HasText text (messages xs) → HasText text (messages (xs ++ ys))
message_more [] ys text has = absurd has
message_more (x ∷ xs) ys text has = more_step (is_message x.kind) text x (messages xs) (messages (xs ++ ys)) (message_more xs ys text) has

message_there : (front : List Entry) (e : Entry) (rest : List Entry) → e.kind ≡ Message → HasText e.text (messages (front ++ e ∷ rest))
message_there [] e rest is = subst (λ (k : EntryKind). HasText e.text (if is_message k then e ∷ messages rest else messages rest)) (sym is) (inl refl)
message_there (x ∷ front) e rest is = more_later (is_message x.kind) (message_there front e rest is) where
  more_later : (t : Bool) → HasText e.text (messages (front ++ e ∷ rest)) → HasText e.text (if t then x ∷ messages (front ++ e ∷ rest) else messages (front ++ e ∷ rest))
  more_later true has = inr has
  more_later false has = has

its_text : (before : List Entry) (e : Entry) (es : List Entry) (k : EntryKind) → e.kind ≡ k → EndsLive k before e → HasText e.text (messages (before ++ e ∷ es))
its_text before e es Message is ends = message_there before e es is
its_text before e es Deletion is ends = message_more before (e ∷ es) e.text (live_message before e.text (found-has (live before) e.number e.text ends))

messages_have : (before es : List Entry) → AtEachPlace (λ (b : List Entry) (e : Entry). EndsLive e.kind b e) before es → HaveText (messages (before ++ es)) es
messages_have before [] at = tt
messages_have before (e ∷ es) at = (
  its_text before e es e.kind refl at.0,
  subst (λ (l : List Entry). HaveText (messages l) es) (append_assoc before (e ∷ []) es) (messages_have (before ++ e ∷ []) es at.1),
)

-- Entries agree in a form exactly where the ids of their messages do.
to_ids : (was form : Form) (es : List Entry) → BlobsAgree form es → OldIdsAgree (map (two_of was form) es)
to_ids was form [] agree = tt
to_ids was form (e ∷ es) agree = (each es agree.0, to_ids was form es agree.1) where
  each : (fs : List Entry) → AllByRecursion (λ (f : Entry). blob_id_of form f.text ≡ blob_id_of form e.text → f.text ≡ e.text) fs → AllByRecursion (λ (t : TwoIds). t.new ≡ blob_id_of form e.text → t.old ≡ blob_id_of was e.text) (map (two_of was form) fs)
  each [] all = tt
  each (f ∷ fs) all = ((λ same. ap (blob_id_of was) (all.0 same)), each fs all.1)

from_ids : (was form : Form) (all es : List Entry) → BlobsAgree was all → HaveText all es → OldIdsAgree (map (two_of was form) es) → BlobsAgree form es
from_ids was form all [] own have agree = tt
from_ids was form all (e ∷ es) own have agree = (each es have.1 agree.0, from_ids was form all es own have.1 agree.1) where
  each : (fs : List Entry) → HaveText all fs → AllByRecursion (λ (t : TwoIds). t.new ≡ blob_id_of form e.text → t.old ≡ blob_id_of was e.text) (map (two_of was form) fs) → AllByRecursion (λ (f : Entry). blob_id_of form f.text ≡ blob_id_of form e.text → f.text ≡ e.text) fs
  each [] has ids = tt
  each (f ∷ fs) has ids = ((λ same. texts_agree was all f.text e.text own has.0 have.0 (ids.0 same)), each fs has.1 ids.1)

pub none_collides : NoClashAgrees → NoneCollides
none_collides law form a valid =
    let was = a.config.form in
    let ms = messages a.entries in
    let ids = map (two_of was form) ms in
    let pairs : OneTexts was ms ms = one_texts was a.entries valid.blobs in
    let same : first_clash_of [] ids ≡ collision_of form a = clash_is was form [] ms pairs in
    let have : HaveText a.entries ms = messages-all (λ (e : Entry). HasText e.text a.entries) a.entries (all_have [] a.entries) in (
      (λ none. agree_if form ms (from_ids was form a.entries ms valid.blobs have ((law ids).0 (same ∙ none))) a.entries (messages_have [] a.entries valid.ends)),
      (λ agree. sym same ∙ (law ids).1 (to_ids was form ms (agree_if form a.entries agree ms have))),
    )

-- The first clash of what is kept is the collision of the archive.
pub collision_is : (form : Form) (a : Archive) → IsArchive a → first_clash_of [] (two_ids (stored_after a.config.form [] a.entries) (stored_after form [] a.entries)) ≡ collision_of form a
collision_is form a valid = ap (first_clash_of []) (ids_are a.config.form form [] [] a.entries) ∙ clash_is a.config.form form [] (messages a.entries) (one_texts a.config.form a.entries valid.blobs)

-- What is found among the ids of what is kept.
pub found_is : {E : Type 0} (result : Result (Option ℕ) E) (texts : List TwoIds) (old new : List StoredEntry) → IfOk result (λ (found : Option ℕ). found ≡ first_clash_of [] texts) → texts ≡ two_ids old new → (a : Archive) (form : Form) → IsArchive a → old ≡ stored_after a.config.form [] a.entries → new ≡ stored_after form [] a.entries → IfOk result (λ (number : Option ℕ). number ≡ collision_of form a)
found_is result texts old new found texts_are a form valid old_is new_is =
    IfOk-weaker result (λ (f : Option ℕ). f ≡ first_clash_of [] texts) (λ (f : Option ℕ). f ≡ collision_of form a) (λ f is.
    is ∙ (ap (first_clash_of []) (texts_are ∙ (ap (λ (l : List StoredEntry). two_ids l new) old_is ∙ ap (two_ids (stored_after a.config.form [] a.entries)) new_is)) ∙ collision_is form a valid)) found
