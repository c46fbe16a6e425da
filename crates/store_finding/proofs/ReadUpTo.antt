-- The turns of an opening: one more epoch is read, or damaged; or all are read.
use Rattle.std.specs.Prelude.{◌≡◌, ◌+◌, ◌<◌, ◌≤◌, ◌^◌, ℕ, List, [], ◌∷◌, ◌++◌, length, take, drop, Option, Some, None, Ok, Err, refl}
use Rattle.std.proofs.Common.{◌∙◌, sym, ap, subst, inl, inr, arith, append_assoc, length-append}
use Rattle.std.proofs.Math.Seq.{take-append_seam}
use Rattle.std.proofs.lemmas.List.{append-nil, append_cancel_left, length-take, take-append-drop, nil_from_length}
use Rattle.arch_base.specs.declared.ids.ObjectId.{ObjectId}
use Rattle.arch_base.specs.declared.ids.Form.{Form}
use Rattle.disk_model.specs.Disk.{File, Files, bytes_of}
use Rattle.mail_commits.specs.Entries.{magic}
use Rattle.number_map.specs.declared.line.Record.{Record}
use Rattle.epoch_file.specs.declared.entry.Seen.{Seen}
use Rattle.epoch_file.specs.Entries.{EntriesDiffer, EpochEntry, AreEpochEntries, bytes_after, commit_after, chain, last_of, epoch_of, EpochsDiffer}
use Rattle.epoch_file.specs.Walking.{IsEpoch, EndsEarly, IsDamagedEpochAt}
use Rattle.root_slots.specs.declared.root.Root.{Root}
use Rattle.root_slots.specs.Valid.{RootFits}
use Rattle.root_change.specs.Texts.{Fronts}
use Rattle.store_finding.specs.Files.{epoch_file_of}
use Rattle.store_finding.specs.declared.entries.StoredEntry.{StoredEntry}
use Rattle.store_finding.specs.declared.join_refusal.JoinRefusal.TheVariants.{Damaged}
use Rattle.store_finding.specs.declared.join_refusal.Unmatched.{Unmatched}
use Rattle.store_finding.specs.Damage.{AreFirst, named_length, IsFirstDamage}
use Rattle.store_finding.specs.Joined.{JoinedEntries, AreJoined, TakesEpoch, FinishesJoin}
use Rattle.store_finding.specs.Openings.{IsReadUpTo, AreRead}
use Rattle.store_finding.proofs.Magics.{magic_length, take_magic}
use Rattle.store_finding.proofs.Opening.{fronts_by, walked_whole, empty_whole, early_next, stops_next, entry_some, valid_after}
use Rattle.store_finding.proofs.Undamaged.{prefix_of}

-- The bytes of an epoch's file.
abbrev bytes_at : Root → Files → ℕ → List ℕ
bytes_at root files epoch = bytes_of (files (epoch_file_of root epoch))

-- The length of an epoch fits its field.
pub short : (root : Root) (epoch : ℕ) → RootFits root → epoch ≤ 63 → named_length root epoch < 2 ^ 64
short root epoch fits less = (fits.epochs epoch (omega (arith, less))).length

-- The bytes that a walk read are at the front of the file.
walked_fronts : (form : Form) (n : ℕ) (file : File) (seen : List Seen) → (walked : IsEpoch form n (bytes_of file) seen) → Fronts (epoch_of form walked.entries) file
walked_fronts form n file seen walked = fronts_by n (epoch_of form walked.entries) file walked.spelled walked.whole

-- An epoch of length 0 is read.
pub read_empty : (root : Root) (files : Files) (rs : List Record) (epoch : ℕ) (v : JoinedEntries) → IsReadUpTo root files rs epoch v → named_length root epoch ≡ 0 → IsReadUpTo root files rs (epoch + 1) v
read_empty root files rs epoch v up none = record { entries = up.entries; after = up.after; holds = up.holds; whole = empty_whole root files epoch up.entries up.whole none }

-- An epoch that a walk read and whose entries were all joined is read.
pub read_more : (root : Root) (files : Files) (rs : List Record) (epoch : ℕ) (old new : JoinedEntries) (seen : List Seen) → IsReadUpTo root files rs epoch old → IsEpoch root.config.form (named_length root epoch) (bytes_at root files epoch) seen → TakesEpoch root old epoch seen (Ok new) files
    → IsReadUpTo root files rs (epoch + 1) new
read_more root files rs epoch old new seen up walked takes =
    let joined : AreJoined root.config.form new rs up.entries epoch walked.entries = takes rs up.after up.entries walked.entries up.holds up.whole (walked_fronts root.config.form (named_length root epoch) (files (epoch_file_of root epoch)) seen walked) walked.valid walked.is in
    record { entries = up.entries ++ joined.more; after = joined.after; holds = joined.holds; whole = walked_whole root files epoch up.entries rs new seen up.whole walked joined }

-- An epoch whose entries could not all be joined is damaged.
pub read_stopped : EntriesDiffer → (root : Root) (files : Files) (rs : List Record) (epoch offset : ℕ) (old : JoinedEntries) (seen : List Seen) → RootFits root → epoch ≤ 63 → IsReadUpTo root files rs epoch old
    → IsEpoch root.config.form (named_length root epoch) (bytes_at root files epoch) seen → TakesEpoch root old epoch seen (Err (Damaged offset)) files → IsFirstDamage root files rs epoch offset
read_stopped differ root files rs epoch offset old seen fits less up walked takes =
    inr (inl (
      omega (arith, less),
      stops_next differ root files epoch offset up.entries rs walked.entries [] (short root epoch fits less) up.whole walked.valid (walked.spelled ∙ sym (append-nil (epoch_of root.config.form walked.entries)))
          (takes rs up.after up.entries walked.entries up.holds up.whole (walked_fronts root.config.form (named_length root epoch) (files (epoch_file_of root epoch)) seen walked) walked.valid walked.is),
    ))

-- Entries without bytes are none.
no_bytes : (form : Form) (parent : Option ObjectId) (es : List EpochEntry) → length (chain form parent es) ≡ 0 → es ≡ []
no_bytes form parent [] none = refl
no_bytes form parent (e ∷ es) none =
    let size = length-append (bytes_after form parent e) (chain form (Some (commit_after form parent e)) es) in
    absurd (entry_some form parent e (nil_from_length (bytes_after form parent e) (omega (arith, size, none))))

-- An epoch in which a walk ended at the front or after the magic is damaged there.
pub read_front : (root : Root) (files : Files) (rs : List Record) (epoch offset : ℕ) (old : JoinedEntries) → epoch ≤ 63 → 0 < named_length root epoch → offset ≤ 8 → IsReadUpTo root files rs epoch old
    → IsDamagedEpochAt root.config.form (named_length root epoch) (bytes_at root files epoch) offset → IsFirstDamage root files rs epoch offset
read_front root files rs epoch offset old less some low up (inl lacks) =
    inl (omega (arith, less), record { before = up.entries; after = up.after; first = up.holds.first; whole = up.whole; some = some; lacks = lacks.1; offset_is = lacks.0 })
read_front root files rs epoch offset old less some low up (inr ends) =
    let after = ends.offset_is in
    let none : ends.entries ≡ [] = no_bytes root.config.form None ends.entries (omega (arith, after, low)) in
    inr (inl (omega (arith, less), early_next root files epoch offset up.entries [] rs up.after up.whole tt (subst (AreFirst root.config.form rs up.after) (sym (append-nil up.entries)) up.holds.first) ends none))

-- The bytes up to the offset at which a walk ended are an epoch's.
left_bytes : (form : Form) (n offset : ℕ) (bytes : List ℕ) → (ends : EndsEarly form n bytes offset) → take offset bytes ≡ epoch_of form ends.entries
left_bytes form n offset bytes ends =
    let whole = epoch_of form ends.entries in
    let size : length whole ≡ offset = (let is = ends.offset_is in omega (arith, is, magic_length form, length-append (magic form) (chain form None ends.entries))) in
    let all : bytes ≡ whole ++ (ends.rest ++ drop n bytes) = sym (take-append-drop n bytes) ∙ (ap (λ (b : List ℕ). b ++ drop n bytes) ends.spelled ∙ append_assoc whole ends.rest (drop n bytes)) in
    ap (take offset) all ∙ (ap (λ (m : ℕ). take m (whole ++ (ends.rest ++ drop n bytes))) (sym size) ∙ take-append_seam whole (ends.rest ++ drop n bytes))

-- The offset at which a walk ended is within the bytes that count.
left_within : (form : Form) (n offset : ℕ) (bytes : List ℕ) → EndsEarly form n bytes offset → offset ≤ n
left_within form n offset bytes ends =
    let size : length (take n bytes) ≡ length (epoch_of form ends.entries ++ ends.rest) = ap (λ (b : List ℕ). length b) ends.spelled in
    let is = ends.offset_is in
    omega (arith, size, is, magic_length form, length-take n bytes, length-append (epoch_of form ends.entries) ends.rest, length-append (magic form) (chain form None ends.entries))

-- So a walk up to there reads the same entries.
again : (form : Form) → EpochsDiffer → (n offset : ℕ) (bytes : List ℕ) (seen : List Seen) → offset < 2 ^ 64 → (ends : EndsEarly form n bytes offset) → (walked : IsEpoch form offset bytes seen) → ends.entries ≡ walked.entries
again form differ n offset bytes seen short ends walked =
    let is = ends.offset_is in
    differ form ends.entries walked.entries ends.valid walked.valid (omega (arith, short, is, magic_length form, length-append (magic form) (chain form None ends.entries))) (sym (left_bytes form n offset bytes ends) ∙ walked.spelled)

-- An epoch in which a walk ended later is damaged there if all entries up to there were joined.
pub read_left : EpochsDiffer → (root : Root) (files : Files) (rs : List Record) (epoch offset : ℕ) (old new : JoinedEntries) (seen : List Seen) → RootFits root → epoch ≤ 63 → 8 < offset → IsReadUpTo root files rs epoch old
    → IsDamagedEpochAt root.config.form (named_length root epoch) (bytes_at root files epoch) offset → IsEpoch root.config.form offset (bytes_at root files epoch) seen → TakesEpoch root old epoch seen (Ok new) files → IsFirstDamage root files rs epoch offset
read_left differ root files rs epoch offset old new seen fits less high up (inl lacks) walked takes = absurd (let zero_is = lacks.0 in omega (arith, zero_is, high))
read_left differ root files rs epoch offset old new seen fits less high up (inr ends) walked takes =
    let joined : AreJoined root.config.form new rs up.entries epoch walked.entries = takes rs up.after up.entries walked.entries up.holds up.whole (walked_fronts root.config.form offset (files (epoch_file_of root epoch)) seen walked) walked.valid walked.is in
    let within = left_within root.config.form (named_length root epoch) offset (bytes_at root files epoch) ends in
    let same = again root.config.form differ (named_length root epoch) offset (bytes_at root files epoch) seen (let small = short root epoch fits less in omega (arith, within, small)) ends walked in
    inr (inl (omega (arith, less), early_next root files epoch offset up.entries joined.more rs joined.after up.whole joined.stand joined.holds.first ends (same ∙ joined.are)))

-- Otherwise it is damaged before, at the first that could not be joined.
pub read_left_stopped : EntriesDiffer → EpochsDiffer → (root : Root) (files : Files) (rs : List Record) (epoch left offset : ℕ) (old : JoinedEntries) (seen : List Seen) → RootFits root → epoch ≤ 63 → 8 < left → IsReadUpTo root files rs epoch old
    → IsDamagedEpochAt root.config.form (named_length root epoch) (bytes_at root files epoch) left → IsEpoch root.config.form left (bytes_at root files epoch) seen → TakesEpoch root old epoch seen (Err (Damaged offset)) files → IsFirstDamage root files rs epoch offset
read_left_stopped entry differ root files rs epoch left offset old seen fits less high up (inl lacks) walked takes = absurd (let zero_is = lacks.0 in omega (arith, zero_is, high))
read_left_stopped entry differ root files rs epoch left offset old seen fits less high up (inr ends) walked takes =
    let within = left_within root.config.form (named_length root epoch) left (bytes_at root files epoch) ends in
    let same = again root.config.form differ (named_length root epoch) left (bytes_at root files epoch) seen (let small = short root epoch fits less in omega (arith, within, small)) ends walked in
    inr (inl (
      omega (arith, less),
      stops_next entry root files epoch offset up.entries rs walked.entries ends.rest (short root epoch fits less) up.whole walked.valid (ends.spelled ∙ ap (λ (es : List EpochEntry). epoch_of root.config.form es ++ ends.rest) same)
          (takes rs up.after up.entries walked.entries up.holds up.whole (walked_fronts root.config.form left (files (epoch_file_of root epoch)) seen walked) walked.valid walked.is),
    ))

-- A walk up to the offset at which a walk ended isn't damaged.
pub left_undamaged : (form : Form) → EntriesDiffer → (n left offset : ℕ) (bytes : List ℕ) → n < 2 ^ 64 → 8 < left → IsDamagedEpochAt form n bytes left → IsDamagedEpochAt form left bytes offset → ⊥
left_undamaged form differ n left offset bytes short high (inl lacks) other = absurd (let zero_is = lacks.0 in omega (arith, zero_is, high))
left_undamaged form differ n left offset bytes short high (inr ends) (inl lacks) = lacks.1 (ap (take 8) (left_bytes form n left bytes ends) ∙ take_magic form (chain form None ends.entries))
left_undamaged form differ n left offset bytes short high (inr ends) (inr other) =
    let within = left_within form n left bytes ends in
    let is = ends.offset_is in
    let split : magic form ++ chain form None ends.entries ≡ magic form ++ (chain form None other.entries ++ other.rest) = sym (left_bytes form n left bytes ends) ∙ (other.spelled ∙ append_assoc (magic form) (chain form None other.entries) other.rest) in
    let prefix = prefix_of form differ None other.entries ends.entries other.rest other.valid ends.valid (omega (arith, within, short, is)) (append_cancel_left (magic form) (chain form None ends.entries) (chain form None other.entries ++ other.rest) split) in
    by prefix.more prefix.is prefix.rest_is
  where
    by : (more : List EpochEntry) → ends.entries ≡ other.entries ++ more → other.rest ≡ chain form (last_of form None other.entries) more → ⊥
    by [] same rest =
        let is = ends.offset_is in
        let was = other.offset_is in
        let equal : ends.entries ≡ other.entries = same ∙ append-nil other.entries in
        let size : length (chain form None ends.entries) ≡ length (chain form None other.entries) = ap (λ (es : List EpochEntry). length (chain form None es)) equal in
        elim other.wanted [
          | inl none ↦ absurd (let nothing : length (chain form None other.entries) ≡ 0 = ap (λ (es : List EpochEntry). length (chain form None es)) none in omega (arith, size, is, high, nothing))
          | inr fewer ↦ absurd (omega (arith, size, is, was, fewer))
        ]
    by (f ∷ fs) same rest = other.lacks f (chain form (Some (commit_after form (last_of form None other.entries) f)) fs) (valid_after other.entries f fs (subst AreEpochEntries same ends.valid)) rest

-- All epochs are read, and all messages of the map have an entry.
pub read_all : (root : Root) (files : Files) (rs : List Record) (v : JoinedEntries) (kept : List StoredEntry) → IsReadUpTo root files rs 64 v → FinishesJoin v (Ok kept) → AreRead root files rs kept
read_all root files rs v kept up ends =
    let all = ends root.config.form rs up.after up.entries up.holds in
    record { entries = up.entries; opened = record { first = all.1; whole = up.whole }; kept_are = all.0 }

-- All epochs are read, and a message of the map has no entry.
pub read_missing : (root : Root) (files : Files) (rs : List Record) (v : JoinedEntries) (refusal : Unmatched) → IsReadUpTo root files rs 64 v → FinishesJoin v (Err refusal) → IsFirstDamage root files rs refusal.epoch (named_length root refusal.epoch)
read_missing root files rs v refusal up ends =
    let one = ends root.config.form rs up.after up.entries up.holds in
    inr (inr (record { before = up.entries; next = one.0; after = one.1; first = one.2; whole = up.whole; stands = sym one.3; offset_is = refl }))
