-- The bytes of an epoch, entry by entry.
use Rattle.std.proofs.Common.{◌≡◌, ◌+◌, ◌≤◌, ◌<◌, ◌==◌, ℕ, zero, suc, true, false, List, [], ◌∷◌, ◌++◌, length, take, get_or, Option, Some, None, is_some, refl, sym, ◌∙◌, ap, arith}
use Rattle.std.proofs.lemmas.List.{append-nil, append_assoc, take_more}
use Rattle.arch_base.specs.declared.config.Config.{Config}
use Rattle.arch_base.specs.declared.ids.ObjectId.{ObjectId}
use Rattle.arch_base.specs.declared.ids.Form.{Form}
use Rattle.arch_model.specs.Archives.{Entry, Archive, in_epoch, has_entry}
use Rattle.arch_model.specs.Epochs.{epoch_bytes, last_commit}
use Rattle.mail_commits.specs.Entries.{entry_bytes, commit_id}
use Rattle.mem_archive.specs.Memory.{archive_of, entry_of, entries_of, front_bytes}
use Rattle.mem_archive.specs.declared.kept.Kept.{Kept}
use Rattle.mem_archive.specs.declared.kept.KeptPlace.{KeptPlace}
use Rattle.arch_model.proofs.EpochLemmas.{last_commit-push}
use Rattle.mem_archive.proofs.Ends.{epoch_bytes-after, in_epoch-at, in_epoch-else}
use Rattle.mem_archive.proofs.Lines.{entries_of-push}

-- The entries of an epoch among the first `i` entries.
abbrev pub of_first : List Kept → ℕ → ℕ → List Entry
of_first items i epoch = in_epoch (entries_of (take i items)) epoch

-- The bytes of an epoch's entries among the first `i` ones are appended, and the last commit is
-- known.
abbrev pub HasPushed : Form → List Kept → ℕ → List ℕ → ℕ → List ℕ → Option ObjectId → Type 0
HasPushed form items epoch old i into parent = (into ≡ old ++ epoch_bytes form (of_first items i epoch)) × (parent ≡ last_commit form None (of_first items i epoch))

take-one : (items : List Kept) (i : ℕ) (k : Kept) → i < length items → k ≡ get_or items i k → take (i + 1) items ≡ take i items ++ k ∷ []
take-one items i k l is = take_more items i k l ∙ ap (λ (y : Kept). take i items ++ y ∷ []) (sym is)

pub pushed-none : (form : Form) (items : List Kept) (epoch : ℕ) (old : List ℕ) → HasPushed form items epoch old 0 old None
pushed-none form items epoch old = (sym (append-nil old), refl)

pub pushed-one : (form : Form) (items : List Kept) (epoch : ℕ) (old : List ℕ) (i : ℕ) (k : Kept) (into : List ℕ) (parent : Option ObjectId) → i < length items → k ≡ get_or items i k → k.epoch ≡ epoch → HasPushed form items epoch old i into parent
    → HasPushed form items epoch old (i + 1) (into ++ (front_bytes form parent ++ entry_bytes form k.kind k.text k.moment parent)) (Some (commit_id form k.kind k.text k.moment parent))
pushed-one form items epoch old i k into parent l is at has =
    let here : List Entry = of_first items i epoch in
    let e : Entry = entry_of k in
    let more : of_first items (i + 1) epoch ≡ here ++ e ∷ [] = ap (λ (ks : List Kept). in_epoch (entries_of ks) epoch) (take-one items i k l is) ∙ ap (λ (es : List Entry). in_epoch es epoch) (entries_of-push (take i items) k) ∙ in_epoch-at (entries_of (take i items)) e epoch at in (
      ap (λ (bs : List ℕ). bs ++ (front_bytes form parent ++ entry_bytes form k.kind k.text k.moment parent)) has.0
          ∙ append_assoc old (epoch_bytes form here) (front_bytes form parent ++ entry_bytes form k.kind k.text k.moment parent)
          ∙ ap (λ (p : Option ObjectId). old ++ (epoch_bytes form here ++ (front_bytes form p ++ entry_bytes form k.kind k.text k.moment p))) has.1
          ∙ ap (λ (bs : List ℕ). old ++ bs) (sym (epoch_bytes-after form here e))
          ∙ ap (λ (es : List Entry). old ++ epoch_bytes form es) (sym more),
      ap (λ (p : Option ObjectId). Some (commit_id form k.kind k.text k.moment p)) has.1 ∙ sym (last_commit-push form None here e) ∙ ap (last_commit form None) (sym more),
    )

pub pushed-else : (form : Form) (items : List Kept) (epoch : ℕ) (old : List ℕ) (i : ℕ) (k : Kept) (into : List ℕ) (parent : Option ObjectId) → i < length items → k ≡ get_or items i k → (k.epoch == epoch) ≡ false → HasPushed form items epoch old i into parent
    → HasPushed form items epoch old (i + 1) into parent
pushed-else form items epoch old i k into parent l is other has =
    let e : Entry = entry_of k in
    let more : of_first items (i + 1) epoch ≡ of_first items i epoch = ap (λ (ks : List Kept). in_epoch (entries_of ks) epoch) (take-one items i k l is) ∙ ap (λ (es : List Entry). in_epoch es epoch) (entries_of-push (take i items) k) ∙ in_epoch-else (entries_of (take i items)) e epoch other in
    (has.0 ∙ ap (λ (es : List Entry). old ++ epoch_bytes form es) (sym more), has.1 ∙ ap (last_commit form None) (sym more))

some_of : (form : Form) (id : ObjectId) (es : List Entry) → is_some (last_commit form (Some id) es) ≡ true
some_of form id [] = refl
some_of form id (e ∷ es) = some_of form (commit_id form e.kind e.text e.moment (Some id)) es

-- There is a last commit if there is an entry.
pub last_commit-some : (form : Form) (es : List Entry) → is_some (last_commit form None es) ≡ has_entry es
last_commit-some form [] = refl
last_commit-some form (e ∷ es) = some_of form (commit_id form e.kind e.text e.moment None) es

take-whole : (items : List Kept) (i : ℕ) → length items ≤ i → take i items ≡ items
take-whole [] i l = take_nil i where
  take_nil : (i : ℕ) → take {A = Kept} i [] ≡ []
  take_nil zero = refl
  take_nil (suc i) = refl
take-whole (x ∷ items) zero l = absurd (omega arith)
take-whole (x ∷ items) (suc i) l = ap (λ ks. x ∷ ks) (take-whole items i (omega arith))

-- All entries are appended.
pub pushed-all : (a : Archive) (config : Config) (items : List Kept) (places : List (Option KeptPlace)) (epoch : ℕ) (old : List ℕ) (i : ℕ) (into : List ℕ) (parent : Option ObjectId) → archive_of config items places ≡ a → length items ≤ i → HasPushed config.form items epoch old i into parent
    → (into ≡ old ++ epoch_bytes a.config.form (in_epoch a.entries epoch)) × (is_some parent ≡ has_entry (in_epoch a.entries epoch))
pushed-all a config items places epoch old i into parent is whole has =
    let all : of_first items i epoch ≡ in_epoch (entries_of items) epoch = ap (λ (ks : List Kept). in_epoch (entries_of ks) epoch) (take-whole items i whole) in (
      has.0 ∙ ap (λ (es : List Entry). old ++ epoch_bytes config.form es) all ∙ ap (λ (b : Archive). old ++ epoch_bytes b.config.form (in_epoch b.entries epoch)) is,
      ap is_some has.1
          ∙ ap (λ (es : List Entry). is_some (last_commit config.form None es)) all
          ∙ last_commit-some config.form (in_epoch (entries_of items) epoch)
          ∙ ap (λ (b : Archive). has_entry (in_epoch b.entries epoch)) is,
    )
