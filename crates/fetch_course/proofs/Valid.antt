-- The entries that a fetch holds are those of a valid archive.
use Rattle.std.proofs.Common.{◌⊎◌, inl, inr, ◌≡◌, ◌≢◌, ◌+◌, ◌≤◌, ◌<◌, ◌==◌, ℕ, Bool, true, false, List, [], ◌∷◌, ◌++◌, Option, Some, None, is_some, refl, sym, ap, subst, ◌∙◌, arith, append-nil, append_assoc, if◌then◌else◌}
use Rattle.std.specs.List.{AllByRecursion}
use Rattle.std.proofs.lemmas.Bool.Decides.{nat_tests}
use Rattle.arch_base.specs.declared.ids.Form.{Form}
use Rattle.arch_base.specs.declared.ids.ObjectId.{ObjectId}
use Rattle.git_objects.specs.Objects.{blob_id_of}
use Rattle.git_objects.specs.declared.entry_kind.EntryKind.{EntryKind}
use Rattle.git_objects.specs.declared.entry_kind.EntryKind.TheVariants.{Message, Deletion}
use Rattle.mail_reader.specs.Ids.{own_id}
use Rattle.thread_model.specs.Members.{Among}
use Rattle.arch_model.specs.Archives.{Entry, Archive, message, deletion, is_message, is_id, live, owner, text_of}
use Rattle.arch_model.specs.Shelves.{blob_text, line_after, lines_after}
use Rattle.arch_model.specs.Validity.{IsEntry, NumberIsFrom, Rise, AtEachPlace, EndsLive, IdsDiffer, LiveDiffer, BlobsAgree}
use Rattle.arch_model.specs.declared.line.EntryLine.{EntryLine}
use Rattle.arch_model.proofs.LiveEntries.{all-text, found-has, live-all, live-has, live-message, live-deletion, without, ids-now, ids-without, place-push, text-without-other}
use Rattle.arch_model.proofs.Owners.{bytes_eq-refl, front_free}
use Rattle.arch_model.proofs.ValidArchives.{Agrees, agrees-has, all_after, all_weaker, blobs_more, ids_more, rise_more}
use Rattle.arch_model.proofs.Shelving.{lines_after-push}
use Rattle.mirror_wire.specs.Checking.{NamesLive}
use Rattle.mirror_wire.specs.Rules.{NumberMayFollow, NumberRises, EndsListed, MayFollow, EachMayFollow}
use Rattle.mirror_wire.proofs.Among.{all-among, among-cases, all-first, all-last}
use Rattle.fetch_course.specs.Courses.{first_there, entry_on, is_id_taken}
use Rattle.fetch_course.proofs.Lines.{RightLine, AreRight, right-same, blob-found, blob-missing}

-- The mirror's own text with the blob id of a text, if there is one, is the text.
abbrev pub OwnText : Archive → List ℕ → Type 0
OwnText a text = (t : List ℕ) → blob_text a.config.form a.entries (blob_id_of a.config.form text) ≡ Some t → t ≡ text

own_step : (o more : Option (List ℕ)) (text t : List ℕ) → (first_there o more ≡ Some text) ⊎ (first_there o more ≡ None) → o ≡ Some t → t ≡ text
own_step None more text t known is = absurd (cc)
own_step (Some x) more text t (inl known) is = cc
own_step (Some x) more text t (inr known) is = absurd (cc)

pub own-text : (a : Archive) (before : List Entry) (line : EntryLine) (text : List ℕ) → RightLine a before line text → OwnText a text
own-text a before line text right t is =
    own_step (blob_text a.config.form a.entries line.blob) (blob_text a.config.form before line.blob) text t right.known (subst (λ (b : ObjectId). blob_text a.config.form a.entries b ≡ Some t) right.blob is)

-- A text that is right agrees with the entries before it.
pub agrees-right : (a : Archive) (es : List Entry) (line : EntryLine) (text : List ℕ) → RightLine a es line text → BlobsAgree a.config.form es → AllByRecursion (λ (e : Entry). OwnText a e.text) es → Agrees a.config.form text es
agrees-right a es line text right blobs own = by (blob_text a.config.form a.entries line.blob) (blob_text a.config.form es line.blob) refl refl right.known where
  by : (o more : Option (List ℕ)) → blob_text a.config.form a.entries line.blob ≡ o → blob_text a.config.form es line.blob ≡ more → (first_there o more ≡ Some text) ⊎ (first_there o more ≡ None) → Agrees a.config.form text es
  by (Some t) more is more_is known = all_weaker (λ (e : Entry). OwnText a e.text) (λ (e : Entry). blob_id_of a.config.form text ≡ blob_id_of a.config.form e.text → text ≡ e.text) es
      (λ e its same. (let here : t ≡ text = own-text a es line text right t (subst (λ (b : ObjectId). blob_text a.config.form a.entries b ≡ Some t) (sym right.blob) is) in
      let there : t ≡ e.text = its t (subst (λ (b : ObjectId). blob_text a.config.form a.entries b ≡ Some t) (sym right.blob ∙ same) is) in
      sym here ∙ there)) own
  by None (Some t) is more_is (inl known) =
      let same : t ≡ text = cc in
      subst (λ (x : List ℕ). Agrees a.config.form x es) same (agrees-has a.config.form es t blobs ((blob-found a.config.form es line.blob t more_is).1))
  by None (Some t) is more_is (inr known) = absurd (cc)
  by None None is more_is known = all_weaker (λ (e : Entry). line.blob ≢ blob_id_of a.config.form e.text) (λ (e : Entry). blob_id_of a.config.form text ≡ blob_id_of a.config.form e.text → text ≡ e.text) es
      (λ e other same. absurd (other (sym right.blob ∙ same))) (blob-missing a.config.form es line.blob more_is)

-- A live number with a text that has a blob id.
pub record LiveText (form : Form) (es : List Entry) (n : ℕ) (blob : ObjectId) : Type 0 where
  pub text : List ℕ
  pub is : text_of (live es) n ≡ Some text
  pub blob_is : blob_id_of form text ≡ blob

-- The entries so far are as those of a valid archive, and have these lines.
pub record ValidSoFar (a : Archive) (next : ℕ) (ls : List EntryLine) (es : List Entry) : Type 0 where
  pub entries : AllByRecursion IsEntry es
  pub below : AllByRecursion (λ (e : Entry). e.number < next) es
  pub order : Rise 1 0 es
  pub ends : AtEachPlace (λ (before : List Entry) (e : Entry). EndsLive e.kind before e) [] es
  pub ids : AtEachPlace LiveDiffer [] es
  pub blobs : BlobsAgree a.config.form es
  pub named : (n : ℕ) (blob : ObjectId) → NamesLive ls n blob → LiveText a.config.form es n blob
  pub lines : ls ≡ lines_after a.config.form [] es
  pub own : AllByRecursion (λ (e : Entry). OwnText a e.text) es

-- What holds of each line holds of its entry, and the other way round.
to_entries : (form : Form) (Q : EntryLine → Type 0) (P : Entry → Type 0) → ((before : List Entry) (e : Entry) → Q (line_after form before e) → P e) → (before es : List Entry) → AllByRecursion Q (lines_after form before es) → AllByRecursion P es
to_entries form Q P gives before [] all = tt
to_entries form Q P gives before (e ∷ es) all = (gives before e all.0, to_entries form Q P gives (before ++ e ∷ []) es all.1)

to_lines : (form : Form) (P : Entry → Type 0) (Q : EntryLine → Type 0) → ((before : List Entry) (e : Entry) → P e → Q (line_after form before e)) → (before es : List Entry) → AllByRecursion P es → AllByRecursion Q (lines_after form before es)
to_lines form P Q gives before [] all = tt
to_lines form P Q gives before (e ∷ es) all = (gives before e all.0, to_lines form P Q gives (before ++ e ∷ []) es all.1)

-- The live entries with one more entry.
live_more : (es : List Entry) (e : Entry) → e.kind ≡ Message → live (es ++ e ∷ []) ≡ live es ++ e ∷ []
live_more es e kind =
    let same : e ≡ message e.number e.epoch e.text e.moment = λ i. record { kind = kind i; number = e.number; epoch = e.epoch; text = e.text; moment = e.moment } in
    subst (λ (x : Entry). live (es ++ x ∷ []) ≡ live es ++ x ∷ []) (sym same) (live-message es e.number e.epoch e.text e.moment)

live_less : (es : List Entry) (e : Entry) → e.kind ≡ Deletion → live (es ++ e ∷ []) ≡ without e.number (live es)
live_less es e kind =
    let same : e ≡ deletion e.number e.epoch e.text e.moment = λ i. record { kind = kind i; number = e.number; epoch = e.epoch; text = e.text; moment = e.moment } in
    subst (λ (x : Entry). live (es ++ x ∷ []) ≡ without e.number (live es)) (sym same) (live-deletion es e.number e.epoch e.text e.moment)

-- A text that is found is found with more entries after it, and one under a new number is found.
text_front : (xs ys : List Entry) (n : ℕ) (text : List ℕ) → text_of xs n ≡ Some text → text_of (xs ++ ys) n ≡ Some text
text_front [] ys n text is = absurd (cc)
text_front (x ∷ xs) ys n text is = by (x.number == n) (text_front xs ys n text) is where
  by : (t : Bool) → (text_of xs n ≡ Some text → text_of (xs ++ ys) n ≡ Some text) → (if t then Some x.text else text_of xs n) ≡ Some text → (if t then Some x.text else text_of (xs ++ ys) n) ≡ Some text
  by true rest is = is
  by false rest is = rest is

text_last : (xs : List Entry) (e : Entry) (n : ℕ) → AllByRecursion (λ (x : Entry). x.number < n) xs → e.number ≡ n → text_of (xs ++ e ∷ []) n ≡ Some e.text
text_last [] e n below is =
    let hit : (e.number == n) ≡ true = grind (arith, nat_tests, is) in
    ap (λ (t : Bool). if t then Some e.text else None) hit
text_last (x ∷ xs) e n below is =
    let other : (x.number == n) ≡ false = (let less : x.number < n = below.0 in grind (arith, nat_tests, less)) in
    ap (λ (t : Bool). if t then Some x.text else text_of (xs ++ e ∷ []) n) other ∙ text_last xs e n below.1 is

-- No live entry has the own id of a text.
free_each : (es : List Entry) (id : List ℕ) → owner es id ≡ None → AllByRecursion (λ (e : Entry). Some id ≢ own_id e.text) es
free_each [] id none = tt
free_each (e ∷ es) id none =
    let both = front_free e (owner es id) (is_id id (own_id e.text)) none in
    (λ same. (let hit : is_id id (own_id e.text) ≡ true = ap (is_id id) (sym same) ∙ bytes_eq-refl id id refl in let wrong : false ≡ true = sym both.0 ∙ hit in cc), free_each es id both.1)

none_is : {X : Type 0} (o : Option X) → is_some o ≡ false → o ≡ None
none_is None is = refl
none_is (Some x) is = absurd (let wrong : true ≡ false = is in cc)

free_of : (o : Option (List ℕ)) (es : List Entry) → is_id_taken es o ≡ false → AllByRecursion (λ (e : Entry). o ≢ own_id e.text) es
free_of None es is = absurd (let wrong : true ≡ false = is in cc)
free_of (Some id) es is = free_each es id (none_is (owner es id) is)

kind_is : (k : EntryKind) → (k ≡ Message) ⊎ (k ≡ Deletion)
kind_is Message = inl refl
kind_is Deletion = inr refl

-- One more line, that of a message.
module _ (a : Archive) (next : ℕ) (ls : List EntryLine) (es : List Entry) (line : EntryLine) (text : List ℕ) (old : ValidSoFar a next ls es) (follows : MayFollow a.config.form next ls line) (right : RightLine a es line text) where
  abbrev new : Entry
  new = entry_on line text

  agrees : Agrees a.config.form text es
  agrees = agrees-right a es line text right old.blobs old.own

  epochs : AllByRecursion (λ (e : Entry). e.epoch ≤ line.epoch) es
  epochs = to_entries a.config.form (λ (m : EntryLine). m.epoch ≤ line.epoch) (λ (e : Entry). e.epoch ≤ line.epoch) (λ before e low. low) [] es (subst (λ (l : List EntryLine). AllByRecursion (λ (m : EntryLine). m.epoch ≤ line.epoch) l) old.lines follows.later)

  entry : IsEntry new
  entry = record {
    text = record { short = (let size = right.size in let low = follows.size in omega (arith, size, low)); form = right.form; id = right.id };
    epoch = follows.epoch;
    moment = follows.moment;
  }

  same_lines : ls ++ line ∷ [] ≡ lines_after a.config.form [] (es ++ new ∷ [])
  same_lines =
      ap (λ (l : List EntryLine). l ++ line ∷ []) old.lines ∙ (ap (λ (l : EntryLine). lines_after a.config.form [] es ++ l ∷ []) (sym (right-same a es line text right)) ∙ sym (lines_after-push a.config.form [] es new))

  -- that of a message
  by_message : line.kind ≡ Message → NumberRises next ls line → ValidSoFar a next (ls ++ line ∷ []) (es ++ new ∷ [])
  by_message kind rises = record {
    entries = all_after IsEntry es new old.entries entry;
    below = all_after (λ (e : Entry). e.number < next) es new old.below rises.below;
    order = rise_more 1 0 es new old.order (subst (λ (k : EntryKind). NumberIsFrom k 1 line.number) (sym kind) rises.least) (omega arith)
        (all_weaker (λ (e : Entry). e.number < line.number) (λ (e : Entry). NumberIsFrom line.kind (e.number + 1) line.number) es (λ e low. subst (λ (k : EntryKind). NumberIsFrom k (e.number + 1) line.number) (sym kind) (omega (arith, low))) above) epochs;
    ends = place-push (λ (before : List Entry) (e : Entry). EndsLive e.kind before e) [] es new old.ends (subst (λ (k : EntryKind). EndsLive k es new) (sym kind) tt);
    ids = place-push LiveDiffer [] es new old.ids (subst (λ (l : List Entry). IdsDiffer l) (sym (live_more es new kind)) (ids_more (live es) new (ids-now es old.ids) (free_of (own_id text) (live es) (right.free (ap is_message kind)))));
    blobs = blobs_more a.config.form es new old.blobs agrees;
    named = named;
    lines = same_lines;
    own = all_after (λ (e : Entry). OwnText a e.text) es new old.own (own-text a es line text right);
  } where
    above : AllByRecursion (λ (e : Entry). e.number < line.number) es
    above = to_entries a.config.form (λ (m : EntryLine). m.number < line.number) (λ (e : Entry). e.number < line.number) (λ before e low. low) [] es (subst (λ (l : List EntryLine). AllByRecursion (λ (m : EntryLine). m.number < line.number) l) old.lines rises.above)

    found : (n : ℕ) (blob : ObjectId) (one : NamesLive (ls ++ line ∷ []) n blob) → Among ls one.message ⊎ (one.message ≡ line) → LiveText a.config.form (es ++ new ∷ []) n blob
    found n blob one (inl there) =
        let before = old.named n blob (record {
          message = one.message;
          there = there;
          kind = one.kind;
          number = one.number;
          blob_is = one.blob_is;
          live = all-first (λ (m : EntryLine). m.kind ≡ Deletion → m.number ≢ n) ls line one.live;
        }) in
        record {
          text = before.text;
          is = ap (λ (l : List Entry). text_of l n) (live_more es new kind) ∙ text_front (live es) (new ∷ []) n before.text before.is;
          blob_is = before.blob_is;
        }
    found n blob one (inr is) =
        let number : line.number ≡ n = ap (λ (m : EntryLine). m.number) (sym is) ∙ one.number in
        record {
          text = text;
          is = ap (λ (l : List Entry). text_of l n) (live_more es new kind) ∙ text_last (live es) new n (live-all (λ (e : Entry). e.number < n) es (subst (λ (m : ℕ). AllByRecursion (λ (e : Entry). e.number < m) es) number above)) number;
          blob_is = right.blob ∙ (ap (λ (m : EntryLine). m.blob) (sym is) ∙ one.blob_is);
        }

    named : (n : ℕ) (blob : ObjectId) → NamesLive (ls ++ line ∷ []) n blob → LiveText a.config.form (es ++ new ∷ []) n blob
    named n blob one = found n blob one (among-cases ls line one.message one.there)

  -- that of a deletion
  by_deletion : line.kind ≡ Deletion → EndsListed ls line → ValidSoFar a next (ls ++ line ∷ []) (es ++ new ∷ [])
  by_deletion kind listed = record {
    entries = all_after IsEntry es new old.entries entry;
    below = all_after (λ (e : Entry). e.number < next) es new old.below (subst (λ (n : ℕ). n < next) listed.number (all-among (λ (m : EntryLine). m.number < next) ls listed.message
        (subst (λ (l : List EntryLine). AllByRecursion (λ (m : EntryLine). m.number < next) l) (sym old.lines) (to_lines a.config.form (λ (e : Entry). e.number < next) (λ (m : EntryLine). m.number < next) (λ before e low. low) [] es old.below)) listed.there));
    order = rise_more 1 0 es new old.order (subst (λ (k : EntryKind). NumberIsFrom k 1 line.number) (sym kind) tt) (omega arith)
        (all_weaker (λ (e : Entry). e.epoch ≤ line.epoch) (λ (e : Entry). NumberIsFrom line.kind (e.number + 1) line.number) es (λ e low. subst (λ (k : EntryKind). NumberIsFrom k (e.number + 1) line.number) (sym kind) tt) epochs) epochs;
    ends = place-push (λ (before : List Entry) (e : Entry). EndsLive e.kind before e) [] es new old.ends (subst (λ (k : EntryKind). EndsLive k es new) (sym kind) ends);
    ids = place-push LiveDiffer [] es new old.ids (subst (λ (l : List Entry). IdsDiffer l) (sym (live_less es new kind)) (ids-without line.number (live es) (ids-now es old.ids)));
    blobs = blobs_more a.config.form es new old.blobs agrees;
    named = named;
    lines = same_lines;
    own = all_after (λ (e : Entry). OwnText a e.text) es new old.own (own-text a es line text right);
  } where
    ends : text_of (live es) line.number ≡ Some text
    ends =
        let one = old.named line.number line.blob (record { message = listed.message; there = listed.there; kind = listed.kind; number = listed.number; blob_is = listed.blob; live = listed.live }) in
        let same : text ≡ one.text = all-text (λ (t : List ℕ). blob_id_of a.config.form text ≡ blob_id_of a.config.form t → text ≡ t) es one.text agrees (live-has es one.text (found-has (live es) line.number one.text one.is)) (right.blob ∙ sym one.blob_is) in
        one.is ∙ ap Some (sym same)

    found : (n : ℕ) (blob : ObjectId) (one : NamesLive (ls ++ line ∷ []) n blob) → Among ls one.message ⊎ (one.message ≡ line) → LiveText a.config.form (es ++ new ∷ []) n blob
    found n blob one (inl there) =
        let before = old.named n blob (record {
          message = one.message;
          there = there;
          kind = one.kind;
          number = one.number;
          blob_is = one.blob_is;
          live = all-first (λ (m : EntryLine). m.kind ≡ Deletion → m.number ≢ n) ls line one.live;
        }) in
        let apart : line.number ≢ n = all-last (λ (m : EntryLine). m.kind ≡ Deletion → m.number ≢ n) ls line one.live kind in
        record {
          text = before.text;
          is = ap (λ (l : List Entry). text_of l n) (live_less es new kind) ∙ (text-without-other (live es) line.number n (λ same. apart (sym same)) ∙ before.is);
          blob_is = before.blob_is;
        }
    found n blob one (inr is) = absurd (let wrong : Deletion ≡ Message = sym kind ∙ (ap (λ (m : EntryLine). m.kind) (sym is) ∙ one.kind) in cc)

    named : (n : ℕ) (blob : ObjectId) → NamesLive (ls ++ line ∷ []) n blob → LiveText a.config.form (es ++ new ∷ []) n blob
    named n blob one = found n blob one (among-cases ls line one.message one.there)

  -- either
  pub valid-more : ValidSoFar a next (ls ++ line ∷ []) (es ++ new ∷ [])
  valid-more = by (kind_is line.kind) where
    by : (line.kind ≡ Message) ⊎ (line.kind ≡ Deletion) → ValidSoFar a next (ls ++ line ∷ []) (es ++ new ∷ [])
    by (inl kind) = by_message kind (subst (λ (k : EntryKind). NumberMayFollow k next ls line) kind follows.number)
    by (inr kind) = by_deletion kind (subst (λ (k : EntryKind). NumberMayFollow k next ls line) kind follows.number)

-- All lines.
pub record AllValid (a : Archive) (next : ℕ) (es : List Entry) : Type 0 where
  pub ls : List EntryLine
  pub valid : ValidSoFar a next ls es

pub all-valid : (a : Archive) (next : ℕ) (ls : List EntryLine) (es : List Entry) (lines : List EntryLine) (rest : List Entry) → ValidSoFar a next ls es → EachMayFollow a.config.form next ls lines → AreRight a es lines rest → AllValid a next (es ++ rest)
all-valid a next ls es [] [] old follow right = subst (λ (l : List Entry). AllValid a next l) (sym (append-nil es)) (record { ls = ls; valid = old })
all-valid a next ls es [] (e ∷ rest) old follow right = absurd right
all-valid a next ls es (line ∷ lines) [] old follow right = absurd right
all-valid a next ls es (line ∷ lines) (e ∷ rest) old follow right =
    let more = subst (λ (x : Entry). ValidSoFar a next (ls ++ line ∷ []) (es ++ x ∷ [])) (sym right.0) (valid-more a next ls es line e.text old follow.0 right.1) in
    subst (λ (l : List Entry). AllValid a next l) (append_assoc es (e ∷ []) rest) (all-valid a next (ls ++ line ∷ []) (es ++ e ∷ []) lines rest more follow.1 right.2)
