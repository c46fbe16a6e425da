-- The verdict on a delivery is that of the definition, and a text that is taken may be kept.
use Rattle.std.specs.Prelude.{◌≡◌, ◌≤◌, ℕ, Bool, true, false, not, nat_lt, List, Some, None, is_some, Result, Ok, refl, if◌then◌else◌}
use Rattle.std.proofs.Common.{◌∙◌, sym, ap, subst, arith}
use Rattle.std.specs.Str.{bytes_eq}
use Rattle.std.proofs.lemmas.Bool.Decides.{nat_tests}
use Rattle.arch_base.specs.declared.config.Config.{Config}
use Rattle.arch_base.specs.declared.ids.ObjectId.{ObjectId}
use Rattle.arch_base.specs.declared.ids.Form.{Form}
use Rattle.git_objects.specs.Objects.{blob_id_of}
use Rattle.mail_reader.specs.Content.{content_id_of}
use Rattle.mail_commits.specs.Ids.{text_ids_of}
use Rattle.mail_commits.specs.declared.ids.TextIds.{TextIds}
use Rattle.mail_reader.specs.Stored.{stored}
use Rattle.mail_reader.specs.declared.storing.StoredRefusal.{StoredRefusal}
use Rattle.arch_model.specs.Archives.{Archive, with_entry, blob_number}
use Rattle.arch_model.specs.Shelves.{blob_text}
use Rattle.arch_model.specs.Candidates.{choice_of}
use Rattle.arch_model.specs.Keeping.{keeps_known, form_known}
use Rattle.arch_model.specs.Delivery.{delivered, delivered_form, delivered_choice, delivered_kept, delivered_new, refused, new_epoch}
use Rattle.arch_judge.specs.Judging.{IsKnownBy, Compares, unless_same, MayCome, MayBeKept, MayTake, RefusesFormed, RefusesLast, TakesThis}
use Rattle.arch_judge.specs.declared.judging.Verdict.{Verdict}
use Rattle.arch_judge.specs.declared.judging.Verdict.TheVariants.{Refuse, Take as Kept}
use Rattle.arch_judge.specs.declared.judging.Judgement.TheVariants.{Final}
use Rattle.arch_judge.specs.Indexes.{number_in}
use Rattle.arch_model.specs.declared.answer.Answer.TheVariants as answer
use Rattle.arch_model.specs.declared.choice.Choice.{Choice}
use Rattle.arch_model.specs.declared.choice.Choice.TheVariants.{Take}
use Rattle.arch_judge.specs.declared.index.Index.{Index}
use Rattle.arch_model.proofs.Owners.{collision-alone, collision-first}

module _ (a : Archive) (config : Config) (index : Index) (next : ℕ) (known : IsKnownBy config index next a) (bytes : List ℕ) where
  module _ (writable : config.mirror ≡ false) where
    -- A delivery to an archive that is no mirror goes by the storage form.
    pub formed : (source : Result (List ℕ) StoredRefusal) → stored bytes ≡ source → (moment : ℕ) → delivered a bytes moment ≡ delivered_form a moment source
    formed source is moment =
        ap (λ (t : Bool). if t then refused a answer.IsMirror else delivered_form a moment (stored bytes)) (ap (λ (c : Config). c.mirror) known.config_is ∙ writable) ∙ ap (delivered_form a moment) is

    -- It goes by what the candidate ids decide.
    pub chosen : (source : List ℕ) (choice : Choice) → stored bytes ≡ Ok source → choice ≡ choice_of a source → (moment : ℕ) → delivered a bytes moment ≡ delivered_choice a moment choice
    chosen source choice is choice_is moment = formed (Ok source) is moment ∙ ap (delivered_choice a moment) (sym choice_is)

    module _ (source text : List ℕ) (ids : TextIds) (is : stored bytes ≡ Ok source) (takes : choice_of a source ≡ Take text) (ids_are : ids ≡ text_ids_of config.form text) where
      at_text : {X : Type 0} (f : ObjectId → X) → f (blob_id_of a.config.form text) ≡ f ids.blob
      at_text f = ap (λ (c : Config). f (blob_id_of c.form text)) known.config_is ∙ ap (λ (i : TextIds). f i.blob) (sym ids_are)

      -- The text of the first entry with the blob id decides.
      pub comparing : (n : ℕ) → Some n ≡ number_in index.blobs ids.blob → Compares a bytes text ids.blob n
      comparing n given =
          let first : blob_number a.config.form a.entries ids.blob ≡ Some n = sym (known.indexed.blobs ids.blob) ∙ sym given in
          record {
            first = first;
            known = ap (form_known a) is ∙ ap (keeps_known a.config.form a.entries) takes ∙ ap is_some (at_text (blob_number a.config.form a.entries) ∙ first);
            decides = λ agree kept kept_is moment.
                chosen source (Take text) is (sym takes) moment
                ∙ ap (delivered_kept a text moment)
                (collision-first a.config.form a.entries text kept n agree (at_text (blob_number a.config.form a.entries) ∙ first) (at_text (blob_text a.config.form a.entries) ∙ kept_is));
          }

      -- Without such an entry only want of numbers can refuse it.
      pub coming : None ≡ number_in index.blobs ids.blob → (moment : ℕ) → delivered a bytes moment ≡ delivered_new a text moment
      coming given moment =
          chosen source (Take text) is (sym takes) moment
          ∙ ap (delivered_kept a text moment) (collision-alone a.config.form a.entries text (at_text (blob_number a.config.form a.entries) ∙ sym (known.indexed.blobs ids.blob) ∙ sym given))

-- The number that is left decides.
module _ (a : Archive) (config : Config) (next : ℕ) (bytes text : List ℕ) (ids : TextIds) (config_is : a.config ≡ config) (next_is : a.next ≡ next) (comes : (moment : ℕ) → delivered a bytes moment ≡ delivered_new a text moment) (ids_are : ids ≡ text_ids_of config.form text) where
  test_of : nat_lt a.config.max a.next ≡ nat_lt config.max next
  test_of = ap (λ (c : Config). nat_lt c.max a.next) config_is ∙ ap (nat_lt config.max) next_is

  numbered : (t : Bool) → nat_lt config.max next ≡ t → (moment : ℕ)
      → delivered a bytes moment ≡ (if t then refused a (answer.Full a.config.max) else record { archive = with_entry a (new_epoch a) text moment; answer = answer.Ok a.next (blob_id_of a.config.form text) })
  numbered t test moment =
      comes moment
      ∙ ap (λ (u : Bool). if u then refused a (answer.Full a.config.max) else record { archive = with_entry a (new_epoch a) text moment; answer = answer.Ok a.next (blob_id_of a.config.form text) }) (test_of ∙ test)

  -- Where a number is left the text is kept.
  pub kept : next ≤ config.max → (moment : ℕ) → delivered a bytes moment ≡ record { archive = with_entry a (new_epoch a) text moment; answer = answer.Ok next ids.blob }
  kept room moment =
      let test : nat_lt config.max next ≡ false = grind (arith, nat_tests, room) in
      numbered false test moment
      ∙ (ap (λ (n : ℕ). record { archive = with_entry a (new_epoch a) text moment; answer = answer.Ok n (blob_id_of a.config.form text) }) next_is
      ∙ ap (λ (c : Config). record { archive = with_entry a (new_epoch a) text moment; answer = answer.Ok next (blob_id_of c.form text) }) config_is
      ∙ ap (λ (i : TextIds). record { archive = with_entry a (new_epoch a) text moment; answer = answer.Ok next i.blob }) (sym ids_are))

-- A text that was compared: it is the same, or it collides.
pub same-comes : (a : Archive) (bytes text kept : List ℕ) (number : ℕ) → ((moment : ℕ) → delivered a bytes moment ≡ delivered_kept a text moment (unless_same text kept number)) → bytes_eq text kept ≡ true → (moment : ℕ) → delivered a bytes moment ≡ delivered_new a text moment
same-comes a bytes text kept number is same moment = is moment ∙ ap (λ (t : Bool). delivered_kept a text moment (if t then None else Some number)) same

-- A text that is taken with a new blob id may be taken.
pub takes-new : (config : Config) (index : Index) (next : ℕ) (text : List ℕ) (ids : TextIds) (v : Verdict) → MayCome config index text ids → number_in index.blobs ids.blob ≡ None → TakesThis config next text ids v → MayTake config index next v
takes-new config index next text ids (Kept taken named number) may new takes =
    let kept : MayBeKept config index next text ids number = takes.2 index may in
    subst (λ (t : List ℕ). MayBeKept config index next t named number × (number_in index.blobs named.blob ≡ None)) (sym takes.0) (subst (λ (i : TextIds). MayBeKept config index next text i number × (number_in index.blobs i.blob ≡ None)) (sym takes.1) (kept, new))
takes-new config index next text ids (Refuse reply) may new takes = takes

-- After the form was found, want of numbers and another text with the blob id may refuse.
pub last-formed : (v : Verdict) → RefusesLast v → RefusesFormed (Final v)
last-formed (Kept text ids number) last = tt
last-formed (Refuse (answer.Full max)) last = tt
last-formed (Refuse (answer.Collision number)) last = tt
last-formed (Refuse (answer.Ok number id)) last = absurd last
last-formed (Refuse (answer.Duplicate number)) last = absurd last
last-formed (Refuse answer.NoFields) last = absurd last
last-formed (Refuse (answer.TooLarge len)) last = absurd last
last-formed (Refuse (answer.NotLive number)) last = absurd last
last-formed (Refuse (answer.NoText number)) last = absurd last
last-formed (Refuse answer.IsMirror) last = absurd last
last-formed (Refuse answer.DiskFault) last = absurd last
last-formed (Refuse (answer.Damaged file at)) last = absurd last
last-formed (Refuse answer.NoMemory) last = absurd last

-- What a text is known by.
pub known-by : (form : Form) (text spelled content : List ℕ) (blob : ObjectId) → blob ≡ blob_id_of form spelled → spelled ≡ text → content ≡ content_id_of text → let ids : TextIds = record { blob = blob; content = content } in ids ≡ text_ids_of form text
known-by form text spelled content blob blob_is spelled_is content_is = rw (blob_is ∙ ap (blob_id_of form) spelled_is, content_is) refl

-- What is known of an archive is known by its own next number.
pub known-anew : (config : Config) (index : Index) (next : ℕ) (a : Archive) → IsKnownBy config index next a → IsKnownBy config index a.next a
known-anew config index next a known = record { config_is = known.config_is; next_is = refl; indexed = known.indexed }

-- Bytes that don't differ are equal.
pub equal-text : (x text kept : List ℕ) (t : Bool) → t ≡ not (bytes_eq x kept) → t ≡ false → x ≡ text → bytes_eq text kept ≡ true
equal-text x text kept t is differs same = ap (λ (b : List ℕ). bytes_eq b kept) (sym same) ∙ yes (bytes_eq x kept) (sym is ∙ differs) where
  yes : (d : Bool) → not d ≡ false → d ≡ true
  yes true e = refl
  yes false e = absurd (let wrong : true ≡ false = e in cc)
