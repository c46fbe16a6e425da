-- Entries one after the other.
use Rattle.std.proofs.Common.{◌≡◌, ℕ, ◌+◌, List, [], ◌∷◌, ◌++◌, length, Option, Some, None, refl, sym, ap, ◌∙◌, arith, length-append}
use Rattle.std.proofs.lemmas.List.{append_assoc, append-nil}
use Rattle.arch_base.specs.declared.ids.Form.{Form}
use Rattle.arch_base.specs.declared.ids.Form.TheVariants.{Sha1, Sha256}
use Rattle.arch_base.specs.declared.ids.ObjectId.{ObjectId}
use Rattle.mail_commits.specs.Entries.{magic}
use Rattle.epoch_file.specs.declared.entry.Seen.{Seen}
use Rattle.epoch_file.specs.Entries.{EpochEntry, IsEpochEntry, AreEpochEntries, bytes_after, commit_after, chain, last_of, epoch_of}
use Rattle.epoch_file.specs.Walking.{seen_at, seen_from}

-- The magic has eight bytes.
pub length-magic : (form : Form) → length (magic form) ≡ 8
length-magic Sha1 = refl
length-magic Sha256 = refl

-- One more entry after others.
pub chain-push : (form : Form) (parent : Option ObjectId) (es : List EpochEntry) (e : EpochEntry) → chain form parent (es ++ e ∷ []) ≡ chain form parent es ++ bytes_after form (last_of form parent es) e
chain-push form parent [] e = append-nil (bytes_after form parent e)
chain-push form parent (first ∷ es) e =
    ap (λ (bytes : List ℕ). bytes_after form parent first ++ bytes) (chain-push form (Some (commit_after form parent first)) es e)
    ∙ sym (append_assoc (bytes_after form parent first) (chain form (Some (commit_after form parent first)) es) (bytes_after form (last_of form (Some (commit_after form parent first)) es) e))

-- The appended entry is the last of them.
pub last-push : (form : Form) (parent : Option ObjectId) (es : List EpochEntry) (e : EpochEntry) → last_of form parent (es ++ e ∷ []) ≡ Some (commit_after form (last_of form parent es) e)
last-push form parent [] e = refl
last-push form parent (first ∷ es) e = last-push form (Some (commit_after form parent first)) es e

-- Entries that a file may have, with one more.
pub valid-push : (es : List EpochEntry) (e : EpochEntry) → AreEpochEntries es → IsEpochEntry e → AreEpochEntries (es ++ e ∷ [])
valid-push [] e h k = (k, tt)
valid-push (first ∷ es) e h k = (h.0, valid-push es e h.1 k)

-- The appended entry is recorded after them.
pub seen-push : (form : Form) (offset : ℕ) (parent : Option ObjectId) (es : List EpochEntry) (e : EpochEntry)
    → seen_from form offset parent (es ++ e ∷ []) ≡ seen_from form offset parent es ++ seen_at form (offset + length (chain form parent es)) (last_of form parent es) e ∷ []
seen-push form offset parent [] e = ap (λ (at : ℕ). seen_at form at parent e ∷ []) (omega arith)
seen-push form offset parent (first ∷ es) e =
    let next = Some (commit_after form parent first) in
    let size = length (bytes_after form parent first) in
    let at : offset + size + length (chain form next es) ≡ offset + length (chain form parent (first ∷ es)) = omega (arith, length-append (bytes_after form parent first) (chain form next es)) in
    let rest = seen-push form (offset + size) next es e in
    ap (λ (seen : List Seen). seen_at form offset parent first ∷ seen) (rest ∙ ap (λ (n : ℕ). seen_from form (offset + size) next es ++ seen_at form n (last_of form next es) e ∷ []) at)

-- The epoch ends with the appended entry's bytes.
pub epoch-push : (form : Form) (es : List EpochEntry) (e : EpochEntry) → epoch_of form (es ++ e ∷ []) ≡ epoch_of form es ++ bytes_after form (last_of form None es) e
epoch-push form es e = ap (λ (bytes : List ℕ). magic form ++ bytes) (chain-push form None es e) ∙ sym (append_assoc (magic form) (chain form None es) (bytes_after form (last_of form None es) e))

-- There are as many records as entries.
pub length-seen : (form : Form) (offset : ℕ) (parent : Option ObjectId) (es : List EpochEntry) → length (seen_from form offset parent es) ≡ length es
length-seen form offset parent [] = refl
length-seen form offset parent (e ∷ es) = omega (arith, length-seen form (offset + length (bytes_after form parent e)) (Some (commit_after form parent e)) es)
