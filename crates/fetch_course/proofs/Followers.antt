-- What a fetch holds follows the mirror.
use Rattle.std.proofs.Common.{inl, inr, ◌≡◌, ◌≢◌, ◌≤◌, ◌<◌, ℕ, Bool, true, false, not, nat_lt, List, [], ◌∷◌, ◌++◌, Option, Some, None, refl, sym, ap, subst, ◌∙◌, arith, if◌then◌else◌}
use Rattle.std.specs.List.{AllByRecursion}
use Rattle.std.specs.Str.{bytes_eq}
use Rattle.std.proofs.lemmas.Bool.Decides.{nat_tests}
use Rattle.arch_base.specs.Ids.{id_eq}
use Rattle.arch_base.specs.declared.ids.ObjectId.{ObjectId}
use Rattle.arch_base.proofs.IdOrder.{id_eq-Decides}
use Rattle.git_objects.specs.Objects.{blob_id_of}
use Rattle.arch_model.specs.Archives.{Entry, Archive, is_message, messages, text_of}
use Rattle.arch_model.specs.Following.{Follows}
use Rattle.arch_model.specs.Shelves.{blob_text}
use Rattle.arch_model.specs.Validity.{IsArchive}
use Rattle.arch_model.specs.declared.line.EntryLine.{EntryLine}
use Rattle.arch_model.proofs.LiveEntries.{HasText, all-text, found-has}
use Rattle.arch_model.proofs.ValidArchives.{agrees-has}
use Rattle.archive_laws.specs.Followers.{FollowsByNumbers, KeepsNumber}
use Rattle.fetch_course.specs.declared.answer.FetchAnswer.{FetchAnswer}
use Rattle.fetch_course.specs.declared.answer.FetchAnswer.TheVariants as answer
use Rattle.fetch_course.specs.Courses.{archive_with, first_renamed, first_there, line_renamed, renamed_by}
use Rattle.fetch_course.specs.Laws.{HoldsFollowers}
use Rattle.fetch_course.proofs.Lines.{AreRight, RightLine, blob-found, blob-missing, lines-held}
use Rattle.fetch_course.proofs.Valid.{ValidSoFar, all-valid, own-text}

-- The text of a message is one of the entries.
msg_step : (t : Bool) (text : List ℕ) (e : Entry) (xs es : List Entry) → (HasText text xs → HasText text es) → HasText text (if t then e ∷ xs else xs) → HasText text (e ∷ es)
msg_step true text e xs es rest (inl is) = inl is
msg_step true text e xs es rest (inr more) = inr (rest more)
msg_step false text e xs es rest has = inr (rest has)

pub messages-has : (es : List Entry) (text : List ℕ) → HasText text (messages es) → HasText text es
messages-has [] text has = has
messages-has (e ∷ es) text has = msg_step (is_message e.kind) text e (messages es) es (messages-has es text) has

both_none : {X : Type 0} (o more : Option X) → first_there o more ≡ None → (o ≡ None) × (more ≡ None)
both_none None more is = (refl, is)
both_none (Some x) more is = absurd (cc)

-- A text of the mirror is found by its blob id.
pub own-found : (a : Archive) → IsArchive a → (text : List ℕ) → HasText text a.entries → blob_text a.config.form a.entries (blob_id_of a.config.form text) ≡ Some text
own-found a valid text has = by (blob_text a.config.form a.entries (blob_id_of a.config.form text)) refl where
  by : (o : Option (List ℕ)) → blob_text a.config.form a.entries (blob_id_of a.config.form text) ≡ o → blob_text a.config.form a.entries (blob_id_of a.config.form text) ≡ Some text
  by None is = absurd (all-text (λ (t : List ℕ). blob_id_of a.config.form text ≢ blob_id_of a.config.form t) a.entries text (blob-missing a.config.form a.entries (blob_id_of a.config.form text) is) has refl)
  by (Some t) is =
      let found = blob-found a.config.form a.entries (blob_id_of a.config.form text) t is in
      let same : t ≡ text = all-text (λ (x : List ℕ). blob_id_of a.config.form t ≡ blob_id_of a.config.form x → t ≡ x) a.entries text (agrees-has a.config.form a.entries t valid.blobs found.1) has (sym found.0) in
      is ∙ ap Some same

-- A message with nothing wrong keeps its number.
number_step : (a : Archive) → IsArchive a → (before : List Entry) (line : EntryLine) (text : List ℕ) (found : Option (List ℕ)) → RightLine a before line text → text_of (messages a.entries) line.number ≡ found → renamed_by a.config.form found a.next line ≡ None → line.number < a.next → text_of (messages a.entries) line.number ≡ Some text
number_step a valid before line text None right is none less = absurd (by (nat_lt line.number a.next) refl none) where
  by : (t : Bool) → nat_lt line.number a.next ≡ t → (if t then Some (answer.Revived line.number) else None) ≡ None → ⊥
  by true test none = let wrong : Some (answer.Revived line.number) ≡ None = none in absurd (cc)
  by false test none = grind (arith, nat_tests, test, less)
number_step a valid before line text (Some t) right is none less = by (id_eq (blob_id_of a.config.form t) line.blob) refl none where
  by : (u : Bool) → id_eq (blob_id_of a.config.form t) line.blob ≡ u → (if u then None else Some (answer.Renamed line.number (blob_id_of a.config.form t) line.blob)) ≡ None → text_of (messages a.entries) line.number ≡ Some text
  by true test none =
      let blob : blob_id_of a.config.form t ≡ line.blob = (id_eq-Decides (blob_id_of a.config.form t) line.blob).0 test in
      let there = own-found a valid t (messages-has a.entries t (found-has (messages a.entries) line.number t is)) in
      let same : t ≡ text = own-text a before line text right t (subst (λ (b : ObjectId). blob_text a.config.form a.entries b ≡ Some t) (blob ∙ sym right.blob) there) in
      is ∙ ap Some same
  by false test none = absurd (cc)

line_step : (a : Archive) → IsArchive a → (before : List Entry) (line : EntryLine) (text : List ℕ) (m : Bool) → is_message line.kind ≡ m → RightLine a before line text → (if m then renamed_by a.config.form (text_of (messages a.entries) line.number) a.next line else None) ≡ None → is_message line.kind ≡ true → line.number < a.next → text_of (messages a.entries) line.number ≡ Some text
line_step a valid before line text true kind right none message less = number_step a valid before line text (text_of (messages a.entries) line.number) right refl none less
line_step a valid before line text false kind right none message less = absurd (let wrong : false ≡ true = sym kind ∙ message in cc)

kept_all : (a : Archive) → IsArchive a → (before : List Entry) (lines : List EntryLine) (es : List Entry) → AreRight a before lines es → first_renamed a lines ≡ None → AllByRecursion (KeepsNumber a) es
kept_all a valid before [] [] right none = tt
kept_all a valid before [] (e ∷ es) right none = absurd right
kept_all a valid before (line ∷ lines) [] right none = absurd right
kept_all a valid before (line ∷ lines) (e ∷ es) right none =
    let both = both_none (line_renamed a line) (first_renamed a lines) none in
    (subst (KeepsNumber a) (sym right.0) (λ message less. line_step a valid before line e.text (is_message line.kind) refl right.1 both.0 message less), kept_all a valid (before ++ e ∷ []) lines es right.2 both.1)

-- A list with nothing wrong isn't behind, and renames nothing.
list_step : (n b : Bool) (x y : FetchAnswer) (more : Option FetchAnswer) → (if not n then Some x else if b then Some y else more) ≡ None → (b ≡ false) × (more ≡ None)
list_step true true x y more is = absurd (cc)
list_step true false x y more is = (refl, is)
list_step false b x y more is = absurd (cc)

pub holds_followers : FollowsByNumbers → HoldsFollowers
holds_followers law a b list replies valid is_list none stage =
    let held = lines-held a b list.next 4 [] list.lines replies stage in
    let right = list_step (bytes_eq list.name a.config.name) (nat_lt list.next a.next) (answer.BadList 2) (answer.Behind a.next list.next) (first_renamed a list.lines) none in
    let start : ValidSoFar a list.next [] [] = record { entries = tt; below = tt; order = tt; ends = tt; ids = tt; blobs = tt; named = λ n blob one. absurd one.there; lines = refl; own = tt } in
    let all = all-valid a list.next [] [] list.lines held.rest start is_list.lines held.right in
    let more : a.next ≤ list.next = (let test : nat_lt list.next a.next ≡ false = right.0 in grind (arith, nat_tests, test)) in
    let follows : Follows a (archive_with a held.rest list.next) = law a (archive_with a held.rest list.next) more (kept_all a valid [] list.lines held.rest held.right right.1) in (
      subst IsArchive (sym held.is) (record {
        name = valid.name;
        config = valid.config;
        next_least = is_list.next.least;
        next_most = is_list.next.most;
        entries = all.valid.entries;
        below = all.valid.below;
        order = all.valid.order;
        ends = all.valid.ends;
        ids = all.valid.ids;
        blobs = all.valid.blobs;
      }),
      subst (Follows a) (sym held.is) follows,
    )
