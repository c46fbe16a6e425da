-- What an archive in memory tells a verdict, what a verdict allows, and the answers to commands.
use Rattle.std.specs.Prelude.{◌≡◌, ◌+◌, ◌≤◌, ℕ, Bool, true, false, List, length, Option, Some, None, IsSome, refl, if◌then◌else◌}
use Rattle.std.proofs.Common.{◌∙◌, sym, ap, subst, arith}
use Rattle.arch_base.specs.declared.config.Config.{Config}
use Rattle.arch_base.specs.declared.ids.ObjectId.{ObjectId}
use Rattle.mail_reader.specs.Ids.{own_id}
use Rattle.mail_commits.specs.declared.ids.TextIds.{TextIds}
use Rattle.mail_commits.specs.Ids.{text_ids_of}
use Rattle.git_objects.specs.Objects.{blob_id_of}
use Rattle.arch_model.specs.Archives.{Archive, live, messages, text_of, owner, blob_number, with_deletion, IsFree}
use Rattle.arch_model.specs.Delivery.{Done, Delivers, delivered, delivered_kept, removed, removed_text, purged, purged_text, edited, edited_text, unless_refused, refused, collision, new_epoch}
use Rattle.arch_model.specs.Shelves.{blob_text}
use Rattle.arch_model.specs.Validity.{BlobsAgree}
use Rattle.arch_model.proofs.Owners.{bytes_eq-refl, collision-alone, collision-first}
use Rattle.arch_judge.specs.Judging.{IsKnownBy, RefusesBy, Compares, unless_same, MayCome, MayBeKept, MayTake, TakesThis, TakesSame}
use Rattle.arch_judge.specs.Indexes.{number_in}
use Rattle.arch_judge.specs.declared.judging.Verdict.{Verdict}
use Rattle.arch_judge.specs.declared.judging.Verdict.TheVariants.{Take, Refuse}
use Rattle.arch_judge.proofs.Indexes.{unowned}
use Rattle.mem_archive.specs.Memory.{IsKept, MayKeep, archive_of, entries_of}
use Rattle.arch_model.specs.Standing.{IsUntouched}
use Rattle.arch_model.specs.declared.answer.Answer.{Answer}
use Rattle.arch_model.specs.declared.answer.Answer.TheVariants as answer
use Rattle.arch_judge.specs.declared.index.Index.{Index}
use Rattle.mem_archive.specs.declared.kept.End.{End}
use Rattle.mem_archive.specs.declared.kept.Kept.{Kept}
use Rattle.mem_archive.specs.declared.kept.KeptPlace.{KeptPlace}
use Rattle.mem_archive.proofs.Lines.{blob_in-some}

pub some-of : {X : Type 0} (o : Option X) → IsSome o → (x : X) × (o ≡ Some x)
some-of None some = absurd (let wrong : false ≡ true = some in cc)
some-of (Some x) some = (x, refl)

module _ (config : Config) (ks : List Kept) (places : List (Option KeptPlace)) (index : Index) (end_ : End) (a : Archive) (is : archive_of config ks places ≡ a) (kept : IsKept config ks places index end_) where
  config_is : a.config ≡ config
  config_is = sym (ap (λ (b : Archive). b.config) is)

  -- What an archive in memory keeps tells its settings, messages and next number.
  pub kept_known : (next : ℕ) → next ≡ a.next → IsKnownBy config index next a
  kept_known next next_is =
      let here : IsKnownBy config index (length places + 1) (archive_of config ks places) = record { config_is = refl; next_is = refl; indexed = kept.indexed } in
      subst (λ (n : ℕ). IsKnownBy config index n a) (sym next_is) (subst (λ (b : Archive). IsKnownBy config index b.next b) is here)

  module _ (text : List ℕ) (ids : TextIds) (comes : MayCome config index text ids) where
    -- No live message has the own id of a text that may come.
    pub free-text : IsFree (live a.entries) text
    free-text =
        let own = some-of (own_id text) comes.storage.id in
        (own.0, own.1, ap (λ (b : Archive). owner (live b.entries) own.0) (sym is) ∙ unowned (entries_of ks) index own.0 kept.indexed (comes.new_id own.0 own.1))

    ids_here : ids ≡ text_ids_of a.config.form text
    ids_here = comes.ids_are ∙ ap (λ (c : Config). text_ids_of c.form text) (sym config_is)

    named : blob_number a.config.form a.entries (blob_id_of a.config.form text) ≡ number_in index.blobs ids.blob
    named = ap (λ (i : TextIds). blob_number a.config.form a.entries i.blob) (sym ids_here) ∙ ap (λ (b : Archive). blob_number b.config.form b.entries ids.blob) (sym is) ∙ sym (kept.indexed.blobs ids.blob)

    module _ (next : ℕ) (next_is : next ≡ a.next) where
      room : (number : ℕ) → MayBeKept config index next text ids number → a.next ≤ a.config.max
      room number may =
          let left : next ≤ config.max = may.number_left in
          let most : a.config.max ≡ config.max = ap (λ (c : Config). c.max) config_is in
          omega (arith, left, most, next_is)

      -- A text with a new blob id may be kept.
      pub keep-new : (number : ℕ) → MayBeKept config index next text ids number → number_in index.blobs ids.blob ≡ None → MayKeep a (Take text ids number)
      keep-new number may new = (free-text, ids_here, collision-alone a.config.form a.entries text (named ∙ new), room number may, may.number_is ∙ next_is)

      -- So may one that was compared with the same text.
      pub keep-same : (number : ℕ) (found : ℕ) → MayBeKept config index next text ids number → number_in index.blobs ids.blob ≡ Some found → blob_text a.config.form a.entries (blob_id_of a.config.form text) ≡ Some text → MayKeep a (Take text ids number)
      keep-same number found may first text_is =
          let agree = subst (λ (b : Archive). collision b.config.form b.entries text ≡ None) is
          (collision-first config.form (entries_of ks) text text found kept.blobs (ap (λ (b : Archive). blob_number b.config.form b.entries (blob_id_of b.config.form text)) is ∙ named ∙ first) (ap (λ (b : Archive). blob_text b.config.form b.entries (blob_id_of b.config.form text)) is ∙ text_is)
          ∙ ap (λ (t : Bool). if t then None else Some found) (bytes_eq-refl text text refl)) in
          (free-text, ids_here, agree, room number may, may.number_is ∙ next_is)

      -- What a comparison decides.
      pub compared-keeps : (found : ℕ) (held : List ℕ) (v : Verdict) → number_in index.blobs ids.blob ≡ Some found → blob_text a.config.form a.entries ids.blob ≡ Some held → TakesThis config next text ids v → TakesSame text held v → MayKeep a v
      compared-keeps found held (Take taken other number) first held_is takes same =
          let text_is : blob_text a.config.form a.entries (blob_id_of a.config.form text) ≡ Some text = ap (λ (i : TextIds). blob_text a.config.form a.entries i.blob) (sym ids_here) ∙ held_is ∙ ap Some same in
          let keeps : MayKeep a (Take text ids number) = keep-same number found (takes.2 index comes) first text_is in
          subst (λ (t : List ℕ). MayKeep a (Take t other number)) (sym takes.0) (subst (λ (i : TextIds). MayKeep a (Take text i number)) (sym takes.1) keeps)
      compared-keeps found held (Refuse reply) first held_is takes same = tt

  -- What needs no comparison.
  pub judged-keeps : (next : ℕ) → next ≡ a.next → (v : Verdict) → MayTake config index next v → MayKeep a v
  judged-keeps next next_is (Take text ids number) may = keep-new text ids may.0.comes next next_is number may.0 may.1
  judged-keeps next next_is (Refuse reply) may = tt

  -- The text that is compared is that of the first entry with the blob id.
  pub compared-with : (blob : ObjectId) (found : ℕ) (held : List ℕ) → number_in index.blobs blob ≡ Some found → Some held ≡ text_of (messages a.entries) found → blob_text a.config.form a.entries blob ≡ Some held
  compared-with blob found held first held_is = sym (blob_in-some config ks places index end_ a is kept blob found (Some held) (sym first) held_is)

  pub compared-decides : (bytes text : List ℕ) (blob : ObjectId) (found : ℕ) (held : List ℕ) → Compares a bytes text blob found → blob_text a.config.form a.entries blob ≡ Some held → (moment : ℕ) → delivered a bytes moment ≡ delivered_kept a text moment (unless_same text held found)
  compared-decides bytes text blob found held compares held_is moment = compares.decides (subst (λ (b : Archive). BlobsAgree b.config.form b.entries) is kept.blobs) held held_is moment

-- The answers to a removal.
pub removed-mirror : (a : Archive) (number moment : ℕ) → a.config.mirror ≡ true → removed a number moment ≡ record { archive = a; answer = answer.IsMirror }
removed-mirror a number moment mirror = ap (λ (t : Bool). if t then refused a answer.IsMirror else removed_text a number moment (text_of (live a.entries) number)) mirror

by_text : (a : Archive) (number moment : ℕ) (found : Option (List ℕ)) → a.config.mirror ≡ false → text_of (live a.entries) number ≡ found → removed a number moment ≡ removed_text a number moment found
by_text a number moment found writable is = ap (λ (t : Bool). if t then refused a answer.IsMirror else removed_text a number moment (text_of (live a.entries) number)) writable ∙ ap (removed_text a number moment) is

pub removed-none : (a : Archive) (number moment : ℕ) → a.config.mirror ≡ false → text_of (live a.entries) number ≡ None → removed a number moment ≡ record { archive = a; answer = answer.NotLive number }
removed-none a number moment writable none = by_text a number moment None writable none

pub removed-some : (a new : Archive) (number moment : ℕ) (text read : List ℕ) (id : ObjectId) → a.config.mirror ≡ false → text_of (live a.entries) number ≡ Some text → id ≡ blob_id_of a.config.form read → read ≡ text → new ≡ with_deletion a number (new_epoch a) text moment
    → removed a number moment ≡ record { archive = new; answer = answer.Ok number id }
removed-some a new number moment text read id writable is id_is read_is new_is =
    by_text a number moment (Some text) writable is
    ∙ ap (λ (b : Archive). record { archive = b; answer = answer.Ok number (blob_id_of a.config.form text) }) (sym new_is)
    ∙ ap (λ (i : ObjectId). record { archive = new; answer = answer.Ok number i }) (sym (id_is ∙ ap (blob_id_of a.config.form) read_is))

-- The answer of a mirror to a purge, and to an edit.
pub purged-mirror : (a : Archive) (number : ℕ) → a.config.mirror ≡ true → purged a number ≡ record { archive = a; answer = answer.IsMirror }
purged-mirror a number mirror = ap (λ (t : Bool). if t then refused a answer.IsMirror else purged_text a number (text_of (messages a.entries) number)) mirror

pub edited-mirror : (a : Archive) (number : ℕ) (bytes : List ℕ) (moment : ℕ) → a.config.mirror ≡ true → edited a number bytes moment ≡ record { archive = a; answer = answer.IsMirror }
edited-mirror a number bytes moment mirror = ap (λ (t : Bool). if t then refused a answer.IsMirror else edited_text a number bytes moment (text_of (live a.entries) number)) mirror

-- What was done on another archive counts if it was accepted.
pub unless-ok : (a other new : Archive) (number : ℕ) (id : ObjectId) (done : Done) → Delivers other (answer.Ok number id) new done → Delivers a (answer.Ok number id) new (unless_refused a done)
unless-ok a other new number id done is = ap (unless_refused a) is

-- A refusal is delivered as it is.
pub refuses : (a : Archive) (bytes : List ℕ) (moment : ℕ) (reply : Answer) → RefusesBy a bytes reply → Delivers a reply a (delivered a bytes moment)
refuses a bytes moment answer.NoMemory h = refl
refuses a bytes moment (answer.Ok number id) h = absurd h
refuses a bytes moment (answer.Duplicate number) h = h moment
refuses a bytes moment answer.NoFields h = h moment
refuses a bytes moment (answer.TooLarge len) h = h moment
refuses a bytes moment (answer.Full max) h = h moment
refuses a bytes moment (answer.Collision number) h = h moment
refuses a bytes moment (answer.NotLive number) h = absurd h
refuses a bytes moment (answer.NoText number) h = absurd h
refuses a bytes moment answer.IsMirror h = h moment
refuses a bytes moment answer.DiskFault h = h
refuses a bytes moment (answer.Damaged file offset) h = h

-- A keeper that stays the same is untouched, whatever the answer.
pub untouched-same : {K : Type 0} (reply : Answer) (k : K) → IsUntouched reply k k
untouched-same (answer.Ok number id) k = tt
untouched-same answer.DiskFault k = tt
untouched-same (answer.Damaged file at) k = tt
untouched-same (answer.Duplicate number) k = refl
untouched-same answer.NoFields k = refl
untouched-same (answer.TooLarge len) k = refl
untouched-same (answer.Full max) k = refl
untouched-same (answer.Collision number) k = refl
untouched-same (answer.NotLive number) k = refl
untouched-same (answer.NoText number) k = refl
untouched-same answer.IsMirror k = refl
untouched-same answer.NoMemory k = refl
