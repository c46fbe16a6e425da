-- Entries are determined by what they are but for their numbers, and by the records of the messages.
use Rattle.std.specs.Prelude.{◌≡◌, ℕ, List, [], ◌∷◌, ◌++◌, map, IsSome, Some, if◌then◌else◌, refl}
use Rattle.std.specs.List.{AllByRecursion}
use Rattle.std.proofs.Common.{◌∙◌, sym, ap, subst}
use Rattle.std.proofs.lemmas.Option.{same_Some}
use Rattle.arch_base.specs.declared.ids.Form.{Form}
use Rattle.git_objects.specs.declared.entry_kind.EntryKind.{EntryKind}
use Rattle.git_objects.specs.declared.entry_kind.EntryKind.TheVariants.{Message, Deletion}
use Rattle.mail_reader.specs.Ids.{own_id}
use Rattle.arch_model.specs.Archives.{Entry, is_message, live, messages, text_of}
use Rattle.number_map.specs.declared.line.Record.{Record}
use Rattle.arch_model.specs.Validity.{IsEntry, AtEachPlace, EndsLive, IdsDiffer, LiveDiffer}
use Rattle.store_finding.specs.Damage.{record_of, AreFirst}
use Rattle.store_finding.proofs.Live.{Ending, found_owner}

-- An entry but for its number.
abbrev pub unnumbered : Entry → Entry
unnumbered e = record { kind = e.kind; number = 0; epoch = e.epoch; text = e.text; moment = e.moment }

-- If own ids differ, a text has one number.
one_number : (es : List Entry) (n m : ℕ) (text : List ℕ) → IsSome (own_id text) → IdsDiffer es → text_of es n ≡ Some text → text_of es m ≡ Some text → n ≡ m
one_number es n m text some differ one two =
    let first = found_owner es n text some differ one in
    let second = found_owner es m text some differ two in
    sym first.number_is ∙ (ap (λ (e : Entry). e.number) (same_Some first.entry second.entry (sym first.owns ∙ second.owns)) ∙ second.number_is)

-- The number of the next entry, and the records after it.
same_number : (form : Form) (k : EntryKind) (before : List Entry) (a x : Entry) (bs xs : List Entry) (p q : List Record) → IsSome (own_id a.text) → a.text ≡ x.text → IdsDiffer (live before) → EndsLive k before a → EndsLive k before x
    → map (record_of form) (if is_message k then a ∷ bs else bs) ++ p ≡ map (record_of form) (if is_message k then x ∷ xs else xs) ++ q → (a.number ≡ x.number) × (map (record_of form) bs ++ p ≡ map (record_of form) xs ++ q)
same_number form Message before a x bs xs p q some text differ ends also is = let head : record_of form a ≡ record_of form x = cc in (ap (λ (r : Record). r.number) head, cc)
same_number form Deletion before a x bs xs p q some text differ ends also is = (one_number (live before) a.number x.number a.text some differ ends (also ∙ ap Some (sym text)), is)

-- Entries that are the same but for their numbers, and have the same records, are equal.
same_entries : (form : Form) (before es xs : List Entry) (p q : List Record) → AllByRecursion IsEntry es → map unnumbered es ≡ map unnumbered xs → IdsDiffer (live before) → AtEachPlace Ending before es → AtEachPlace Ending before xs → AtEachPlace LiveDiffer before es
    → map (record_of form) (messages es) ++ p ≡ map (record_of form) (messages xs) ++ q → es ≡ xs
same_entries form before [] [] p q valid same differ ends also ids is = refl
same_entries form before [] (x ∷ xs) p q valid same differ ends also ids is = absurd (let wrong : [] ≡ unnumbered x ∷ map unnumbered xs = same in cc)
same_entries form before (a ∷ bs) [] p q valid same differ ends also ids is = absurd (let wrong : unnumbered a ∷ map unnumbered bs ≡ [] = same in cc)
same_entries form before (a ∷ bs) (x ∷ xs) p q valid same differ ends also ids is =
    let head : unnumbered a ≡ unnumbered x = cc in
    let kind = ap (λ (e : Entry). e.kind) head in
    let next = same_number form a.kind before a x (messages bs) (messages xs) p q valid.0.text.id (ap (λ (e : Entry). e.text) head) differ ends.0 (subst (λ (k : EntryKind). EndsLive k before x) (sym kind) also.0)
    (is ∙ ap (λ (k : EntryKind). map (record_of form) (if is_message k then x ∷ messages xs else messages xs) ++ q) (sym kind)) in
    let first : a ≡ x = λ i. record { kind = (head i).kind; number = next.0 i; epoch = (head i).epoch; text = (head i).text; moment = (head i).moment } in
    let rest = same_entries form (before ++ a ∷ []) bs xs p q valid.1 (cc) ids.0 ends.1 (subst (λ (e : Entry). AtEachPlace Ending (before ++ e ∷ []) xs) (sym first) also.1) ids.1 next.1 in
    λ i. first i ∷ rest i

-- So are the first entries of a map's records.
pub same_first : (form : Form) (rs p q : List Record) (xs ys : List Entry) → AreFirst form rs p xs → AreFirst form rs q ys → map unnumbered xs ≡ map unnumbered ys → xs ≡ ys
same_first form rs p q xs ys one two same = same_entries form [] xs ys p q one.valid same tt one.ends two.ends one.ids (sym one.records ∙ two.records)
