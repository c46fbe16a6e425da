-- An archive with one more entry, and its bytes.
use Rattle.std.specs.Prelude.{◌≡◌, ◌≢◌, ◌+◌, ◌-◌, ◌<◌, ◌≤◌, ◌==◌, ℕ, zero, suc, Bool, false, List, [], ◌∷◌, ◌++◌, length, Option, Some, None, if◌then◌else◌, refl}
use Rattle.std.specs.List.{AllByRecursion, flat_map}
use Rattle.std.proofs.Common.{◌∙◌, sym, ap, arith, append_assoc, length-append}
use Rattle.std.proofs.lemmas.List.{append-nil}
use Rattle.std.proofs.lemmas.List.Elements.{filter-append}
use Rattle.std.proofs.lemmas.Grind.{flat_map-append}
use Rattle.arch_base.specs.declared.ids.ObjectId.{ObjectId}
use Rattle.arch_base.specs.declared.ids.Form.{Form}
use Rattle.arch_model.specs.Archives.{Entry, Archive, message, deletion, messages, in_epoch}
use Rattle.arch_model.proofs.LiveEntries.{messages-message, messages-deletion, messages-all}
use Rattle.arch_model.specs.Epochs.{epoch_bytes, entries_bytes, last_commit}
use Rattle.mail_commits.specs.Entries.{magic, entry_bytes, commit_id}
use Rattle.number_map.specs.declared.line.Record.{Record}
use Rattle.number_map.specs.Records.{record_bytes}
use Rattle.epoch_file.specs.Entries.{bytes_after}
use Rattle.epoch_file.specs.Appending.{front_at}
use Rattle.root_change.proofs.Roots.{same_test, other_test}
use Rattle.store_finding.specs.Recovery.{entry_of, record_for, records_from, records_of, map_bytes, bytes_in}
use Rattle.store_finding.specs.Kept.{in_file, stored_at, stored_after}
use Rattle.store_finding.specs.declared.entries.StoredEntry.{StoredEntry}
use Rattle.store_finding.proofs.Magics.{magic_length}

-- A number has no entry if all entries have lesser numbers.
no_entry : (es : List Entry) (n : ℕ) → AllByRecursion (λ (e : Entry). e.number < n) es → entry_of es n ≡ None
no_entry [] n below = refl
no_entry (e ∷ es) n below =
    let less : e.number < n = below.0 in
    rw (other_test e.number n (λ is. absurd (omega (arith, less, is)))) (no_entry es n below.1)

-- One more entry doesn't change the entries of other numbers.
entry_kept : (es : List Entry) (new : Entry) (n : ℕ) → new.number ≢ n → entry_of (es ++ new ∷ []) n ≡ entry_of es n
entry_kept [] new n apart = rw (other_test new.number n apart) refl
entry_kept (e ∷ es) new n apart = ap (λ (rest : Option Entry). if e.number == n then Some e else rest) (entry_kept es new n apart)

-- One more entry is the entry of its number.
entry_new : (es : List Entry) (new : Entry) → AllByRecursion (λ (e : Entry). e.number < new.number) es → entry_of (es ++ new ∷ []) new.number ≡ Some new
entry_new [] new below = rw (same_test new.number new.number refl) refl
entry_new (e ∷ es) new below =
    let less : e.number < new.number = below.0 in
    rw (other_test e.number new.number (λ is. absurd (omega (arith, less, is)))) (entry_new es new below.1)

-- The records of lesser numbers stay.
records_kept : (form : Form) (es : List Entry) (new : Entry) (n count : ℕ) → n + count ≤ new.number → records_from form (es ++ new ∷ []) n count ≡ records_from form es n count
records_kept form es new n zero less = refl
records_kept form es new n (suc count) less =
    ap (λ (e : Option Entry). record_for form n e ∷ records_from form (es ++ new ∷ []) (n + 1) count) (entry_kept es new n (λ is. absurd (omega (arith, less, is))))
    ∙ ap (λ (rs : List Record). record_for form n (entry_of es n) ∷ rs) (records_kept form es new (n + 1) count (omega (arith, less)))

-- The records of `count` numbers and of the next one.
records_more : (form : Form) (es : List Entry) (n count : ℕ) → records_from form es n (suc count) ≡ records_from form es n count ++ record_for form (n + count) (entry_of es (n + count)) ∷ []
records_more form es n zero = ap (λ (m : ℕ). record_for form m (entry_of es m) ∷ []) (let is : n ≡ n + 0 = omega arith in is)
records_more form es n (suc count) =
    ap (λ (rs : List Record). record_for form n (entry_of es n) ∷ rs)
    (records_more form es (n + 1) count ∙ ap (λ (m : ℕ). records_from form es (n + 1) count ++ record_for form m (entry_of es m) ∷ []) (let is : n + 1 + count ≡ n + suc count = omega arith in is))

-- A message of the next number is one more record.
pub map_grows : (a : Archive) (epoch : ℕ) (text : List ℕ) (moment : ℕ) → 1 ≤ a.next → AllByRecursion (λ (e : Entry). e.number < a.next) a.entries
    → flat_map record_bytes (records_from a.config.form (messages (a.entries ++ message a.next epoch text moment ∷ [])) 1 (a.next + 1 - 1)) ≡ map_bytes a ++ record_bytes (record_for a.config.form a.next (Some (message a.next epoch text moment)))
map_grows a epoch text moment least below =
    let form = a.config.form in
    let new : Entry = message a.next epoch text moment in
    let old = messages a.entries in
    let count : a.next + 1 - 1 ≡ suc (a.next - 1) = omega (arith, least) in
    let last : 1 + (a.next - 1) ≡ a.next = omega (arith, least) in
    let all = old ++ new ∷ [] in
    let found : entry_of all a.next ≡ Some new = entry_new old new (messages-all (λ (e : Entry). e.number < a.next) a.entries below) in
    let records : records_from form all 1 (a.next + 1 - 1) ≡ records_of a ++ record_for form a.next (Some new) ∷ [] =
    ap (records_from form all 1) count
    ∙ (records_more form all 1 (a.next - 1)
    ∙ (ap (λ (rs : List Record). rs ++ record_for form (1 + (a.next - 1)) (entry_of all (1 + (a.next - 1))) ∷ []) (records_kept form old new 1 (a.next - 1) (omega (arith, least)))
    ∙ (ap (λ (n : ℕ). records_of a ++ record_for form n (entry_of all n) ∷ []) last ∙ ap (λ (e : Option Entry). records_of a ++ record_for form a.next e ∷ []) found))) in
    ap (λ (es : List Entry). flat_map record_bytes (records_from form es 1 (a.next + 1 - 1))) (messages-message a.entries a.next epoch text moment)
    ∙ (ap (flat_map record_bytes) records ∙ (flat_map-append record_bytes (records_of a) (record_for form a.next (Some new) ∷ []) ∙ ap (λ (b : List ℕ). map_bytes a ++ b) (append-nil (record_bytes (record_for form a.next (Some new))))))

-- A deletion leaves the records.
pub map_stays : (a : Archive) (number epoch : ℕ) (text : List ℕ) (moment : ℕ) → flat_map record_bytes (records_from a.config.form (messages (a.entries ++ deletion number epoch text moment ∷ [])) 1 (a.next - 1)) ≡ map_bytes a
map_stays a number epoch text moment = ap (λ (es : List Entry). flat_map record_bytes (records_from a.config.form es 1 (a.next - 1))) (messages-deletion a.entries number epoch text moment)

-- The entries of an epoch and one more of it, or of another one.
pub in_epoch-here : (es : List Entry) (new : Entry) (epoch : ℕ) → new.epoch ≡ epoch → in_epoch (es ++ new ∷ []) epoch ≡ in_epoch es epoch ++ new ∷ []
in_epoch-here es new epoch is = filter-append (λ (e : Entry). e.epoch == epoch) es (new ∷ []) ∙ rw (same_test new.epoch epoch is) refl

in_epoch-other : (es : List Entry) (new : Entry) (epoch : ℕ) → new.epoch ≢ epoch → in_epoch (es ++ new ∷ []) epoch ≡ in_epoch es epoch
in_epoch-other es new epoch apart = filter-append (λ (e : Entry). e.epoch == epoch) es (new ∷ []) ∙ (rw (other_test new.epoch epoch apart) refl ∙ append-nil (in_epoch es epoch))

-- The bytes of entries with one appended.
entries_more : (form : Form) (parent : Option ObjectId) (es : List Entry) (new : Entry) → entries_bytes form parent (es ++ new ∷ []) ≡ entries_bytes form parent es ++ bytes_after form (last_commit form parent es) (in_file new)
entries_more form parent [] new = append-nil (bytes_after form parent (in_file new))
entries_more form parent (e ∷ es) new =
    let next : Option ObjectId = Some (commit_id form e.kind e.text e.moment parent) in
    ap (λ (b : List ℕ). entry_bytes form e.kind e.text e.moment parent ++ b) (entries_more form next es new)
    ∙ sym (append_assoc (entry_bytes form e.kind e.text e.moment parent) (entries_bytes form next es) (bytes_after form (last_commit form next es) (in_file new)))

-- The bytes of an epoch with one more entry.
epoch_more : (form : Form) (es : List Entry) (new : Entry) → epoch_bytes form (es ++ new ∷ []) ≡ epoch_bytes form es ++ (front_at form (length (epoch_bytes form es)) ++ bytes_after form (last_commit form None es) (in_file new))
epoch_more form [] new = ap (λ (b : List ℕ). magic form ++ b) (append-nil (bytes_after form None (in_file new)))
epoch_more form (e ∷ es) new =
    let all = entries_bytes form None (e ∷ es) in
    let more = bytes_after form (last_commit form None (e ∷ es)) (in_file new) in
    let size = length-append (magic form) all in
    let there : (length (magic form ++ all) == 0) ≡ false = other_test (length (magic form ++ all)) 0 (λ none. absurd (omega (arith, size, magic_length form, none))) in
    ap (λ (b : List ℕ). magic form ++ b) (entries_more form None (e ∷ es) new) ∙ (sym (append_assoc (magic form) all more) ∙ ap (λ (b : Bool). (magic form ++ all) ++ ((if b then magic form else []) ++ more)) (sym there))

pub bytes_here : (a : Archive) (new : Entry) → epoch_bytes a.config.form (in_epoch (a.entries ++ new ∷ []) new.epoch) ≡ bytes_in a new.epoch ++ (front_at a.config.form (length (bytes_in a new.epoch)) ++ bytes_after a.config.form (last_commit a.config.form None (in_epoch a.entries new.epoch)) (in_file new))
bytes_here a new = ap (epoch_bytes a.config.form) (in_epoch-here a.entries new new.epoch refl) ∙ epoch_more a.config.form (in_epoch a.entries new.epoch) new

pub bytes_other : (a : Archive) (new : Entry) (epoch : ℕ) → new.epoch ≢ epoch → epoch_bytes a.config.form (in_epoch (a.entries ++ new ∷ []) epoch) ≡ bytes_in a epoch
bytes_other a new epoch apart = ap (epoch_bytes a.config.form) (in_epoch-other a.entries new epoch apart)

-- What is kept of entries with one appended.
pub stored_more : (form : Form) (before es : List Entry) (new : Entry) → stored_after form before (es ++ new ∷ []) ≡ stored_after form before es ++ stored_at form (before ++ es) new ∷ []
stored_more form before [] new = ap (λ (b : List Entry). stored_at form b new ∷ []) (sym (append-nil before))
stored_more form before (e ∷ es) new = ap (λ (s : List StoredEntry). stored_at form before e ∷ s) (stored_more form (before ++ e ∷ []) es new ∙ ap (λ (b : List Entry). stored_after form (before ++ e ∷ []) es ++ stored_at form b new ∷ []) (append_assoc before (e ∷ []) es))
