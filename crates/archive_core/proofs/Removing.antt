-- A removal from an archive on a disk: which entry it ends, its answers, and what is kept after it.
use Rattle.std.specs.Prelude.{◌≡◌, ◌+◌, ◌<◌, ◌==◌, ◌&&◌, ◌||◌, ℕ, zero, suc, Bool, true, false, not, List, [], ◌∷◌, ◌++◌, length, take, get_or, slice_get, Option, Some, None, IsSome, unwrap_or, if◌then◌else◌, refl}
use Rattle.std.specs.List.{AllByRecursion}
use Rattle.std.specs.Str.{bytes_eq}
use Rattle.std.proofs.Common.{◌∙◌, sym, ap, subst, arith}
use Rattle.std.proofs.lemmas.Bool.Decides.{nat_tests}
use Rattle.std.proofs.lemmas.Slice.Eq.{bytes_eq-Decides}
use Rattle.std.proofs.lemmas.Option.{slice_get-get_or, get_or_from_slice_get, same_Some}
use Rattle.git_objects.specs.Objects.{blob_id_of}
use Rattle.git_objects.specs.declared.entry_kind.EntryKind.{EntryKind}
use Rattle.git_objects.specs.declared.entry_kind.EntryKind.TheVariants.{Message, Deletion}
use Rattle.mail_reader.specs.Ids.{own_id}
use Rattle.arch_model.specs.Archives.{Entry, Archive, with_deletion, is_message, live, text_of}
use Rattle.arch_model.specs.Validity.{IsEntry}
use Rattle.arch_model.specs.Delivery.{removed, removed_text, refused, new_epoch}
use Rattle.arch_model.specs.declared.answer.Answer.TheVariants as answer
use Rattle.store_finding.specs.declared.entries.StoredEntry.{StoredEntry}
use Rattle.epoch_store.specs.Reads.{text_if}
use Rattle.store_finding.specs.Kept.{StoreState, KeepsArchive}
use Rattle.epoch_store.specs.Commands.{AddsEntry, EndsEntry, is_ended_in}
use Rattle.archive_core.specs.Commands.{IsNamed}
use Rattle.archive_core.specs.Numbers.{IsLiveAt}
use Rattle.archive_core.specs.Placing.{message_places, ends_place, ended_place}
use Rattle.archive_core.specs.declared.placing.MessagePlace.{MessagePlace}
use Rattle.archive_core.proofs.ByNumber.{entry-text}
use Rattle.archive_core.proofs.Places.{place_of}
use Rattle.archive_core.proofs.Stored.{kept-at}

-- The entry at an index has the own id of a text just if the two ids are equal.
pub named-yes : (seen entries : List StoredEntry) (i : ℕ) (e : StoredEntry) (text own id : List ℕ) (r : Bool) → seen ≡ entries → i < length entries → id ≡ (get_or seen i e).seen.id → Some own ≡ own_id text → r ≡ bytes_eq id own → r ≡ true → IsNamed entries i text
named-yes seen entries i e text own id r same less id_is own_is r_is hit =
    let equal : id ≡ own = (bytes_eq-Decides id own).0 (sym r_is ∙ hit) in
    (get_or entries i e, slice_get-get_or entries i e less, sym own_is ∙ ap Some (sym equal ∙ id_is ∙ ap (λ (l : List StoredEntry). (get_or l i e).seen.id) same))

pub named-no : (seen entries : List StoredEntry) (i : ℕ) (e : StoredEntry) (text own id : List ℕ) (r : Bool) → seen ≡ entries → id ≡ (get_or seen i e).seen.id → Some own ≡ own_id text → r ≡ bytes_eq id own → r ≡ false → IsNamed entries i text → ⊥
named-no seen entries i e text own id r same id_is own_is r_is miss named =
    let at : get_or entries i e ≡ named.0 = get_or_from_slice_get entries i named.0 e named.1 in
    let both : own ≡ named.0.seen.id = same_Some own named.0.seen.id (own_is ∙ named.2) in
    let equal : id ≡ own = id_is ∙ ap (λ (l : List StoredEntry). (get_or l i e).seen.id) same ∙ ap (λ (s : StoredEntry). s.seen.id) at ∙ sym both in
    let hit : true ≡ false = sym ((bytes_eq-Decides id own).1 equal) ∙ sym r_is ∙ miss in
    absurd (cc)

pub all_at : (P : Entry → Type 0) (es : List Entry) (i : ℕ) (e : Entry) → AllByRecursion P es → slice_get es i ≡ Some e → P e
all_at P [] i e all there = absurd (cc)
all_at P (x ∷ es) zero e all there = subst P (same_Some x e there) all.0
all_at P (x ∷ es) (suc i) e all there = all_at P es i e all.1 there

id_of : (o : Option (List ℕ)) → IsSome o → o ≡ Some (unwrap_or o [])
id_of None some = absurd (let wrong : false ≡ true = some in cc)
id_of (Some id) some = refl

-- The entry of a live message has the own id of the text that is shown.
pub named-at : (v : StoreState) (a : Archive) (n i : ℕ) (text : List ℕ) → KeepsArchive v a → IsLiveAt v.entries n i → text_of (live a.entries) n ≡ Some text → IsNamed v.entries i text
named-at v a n i text keeps at shown =
    let found = kept-at a.config.form [] a.entries i at.message.entry (ap (λ (es : List StoredEntry). slice_get es i) (sym keeps.kept) ∙ at.message.there) in
    let e : Entry = found.entry in
    let read : text_of (live a.entries) n ≡ Some e.text = entry-text v a keeps n i at e.text (ap text_if found.there) in
    let same : text ≡ e.text = same_Some text e.text (sym shown ∙ read) in
    let own : own_id e.text ≡ Some (unwrap_or (own_id e.text) []) = id_of (own_id e.text) (all_at IsEntry a.entries i e keeps.valid.entries found.there).text.id in
    (at.message.entry, at.message.there, ap own_id same ∙ own ∙ ap (λ (s : StoredEntry). Some s.seen.id) (sym found.kept.1))

-- What a removal does.
shown_by : (v : StoreState) (a : Archive) (number moment : ℕ) (found : Option (List ℕ)) → KeepsArchive v a → v.root.config.mirror ≡ false → text_of (live a.entries) number ≡ found → removed a number moment ≡ removed_text a number moment found
shown_by v a number moment found keeps is shown =
    ap (λ (t : Bool). if t then refused a answer.IsMirror else removed_text a number moment (text_of (live a.entries) number)) (ap (λ c. c.mirror) (sym keeps.names.config) ∙ is)
    ∙ ap (removed_text a number moment) shown

pub removed-is : (v : StoreState) (a : Archive) (number moment : ℕ) (text : List ℕ) → KeepsArchive v a → v.root.config.mirror ≡ false → text_of (live a.entries) number ≡ Some text
    → removed a number moment ≡ record { archive = with_deletion a number (new_epoch a) text moment; answer = answer.Ok number (blob_id_of a.config.form text) }
removed-is v a number moment text keeps is shown = shown_by v a number moment (Some text) keeps is shown

-- The places after one more entry.
or_none : (b : Bool) → (b || false) ≡ b
or_none true = refl
or_none false = refl

or_assoc : (x e b : Bool) → (x || (e || b)) ≡ ((x || e) || b)
or_assoc true e b = refl
or_assoc false e b = refl

ended_push : (es : List StoredEntry) (s : StoredEntry) (n : ℕ) → is_ended_in (es ++ s ∷ []) n ≡ (is_ended_in es n || (not (is_message s.seen.kind) && s.number == n))
ended_push [] s n = or_none (not (is_message s.seen.kind) && s.number == n)
ended_push (e ∷ es) s n =
    ap (λ (b : Bool). (not (is_message e.seen.kind) && e.number == n) || b) (ended_push es s n)
    ∙ or_assoc (not (is_message e.seen.kind) && e.number == n) (is_ended_in es n) (not (is_message s.seen.kind) && s.number == n)

-- A message has the next place.
more_step : (m : Bool) (p : MessagePlace) (ps qs : List MessagePlace) (last : MessagePlace) → qs ≡ ps ++ last ∷ [] → (if m then p ∷ qs else qs) ≡ (if m then p ∷ ps else ps) ++ last ∷ []
more_step true p ps qs last is = ap (λ (l : List MessagePlace). p ∷ l) is
more_step false p ps qs last is = is

last_is : (s : StoredEntry) (index : ℕ) (m : Bool) → m ≡ true → (if m then place_of s.number index true ∷ [] else []) ≡ place_of s.number index true ∷ []
last_is s index true one = refl
last_is s index false one = absurd (cc)

pub places-message : (index : ℕ) (es : List StoredEntry) (s : StoredEntry) → s.seen.kind ≡ Message → message_places index (es ++ s ∷ []) ≡ message_places index es ++ place_of s.number (index + length es) true ∷ []
places-message index [] s one =
    let at : index + 0 ≡ index = omega arith in
    last_is s index (is_message s.seen.kind) (ap is_message one) ∙ ap (λ (i : ℕ). place_of s.number i true ∷ []) (sym at)
places-message index (e ∷ es) s one =
    let at : index + 1 + length es ≡ index + length (e ∷ es) = omega arith in
    let none : (not (is_message s.seen.kind) && s.number == e.number) ≡ false = ap (λ (k : EntryKind). not (is_message k) && s.number == e.number) one in
    let ended : is_ended_in (es ++ s ∷ []) e.number ≡ is_ended_in es e.number = ended_push es s e.number ∙ ap (λ (b : Bool). is_ended_in es e.number || b) none ∙ or_none (is_ended_in es e.number) in
    ap (λ (b : Bool). if is_message e.seen.kind then place_of e.number index (not b) ∷ message_places (index + 1) (es ++ s ∷ []) else message_places (index + 1) (es ++ s ∷ [])) ended
    ∙ more_step (is_message e.seen.kind) (place_of e.number index (not (is_ended_in es e.number))) (message_places (index + 1) es) (message_places (index + 1) (es ++ s ∷ [])) (place_of s.number (index + 1 + length es) true) (places-message (index + 1) es s one)
    ∙ ap (λ (i : ℕ). message_places index (e ∷ es) ++ place_of s.number i true ∷ []) at

-- A deletion ends the places of its number.
same_test : (m n : ℕ) → (m == n) ≡ (n == m)
same_test m n = by (m == n) (n == m) refl refl where
  by : (t u : Bool) → (m == n) ≡ t → (n == m) ≡ u → t ≡ u
  by true true a b = refl
  by false false a b = refl
  by true false a b = absurd (let same : m ≡ n = grind (arith, nat_tests, a) in let hit : (n == m) ≡ true = grind (arith, nat_tests, same) in let wrong : true ≡ false = sym hit ∙ b in cc)
  by false true a b = absurd (let same : n ≡ m = grind (arith, nat_tests, b) in let hit : (m == n) ≡ true = grind (arith, nat_tests, same) in let wrong : true ≡ false = sym hit ∙ a in cc)

dead_step : (ended t : Bool) → not (ended || t) ≡ (if t then false else not ended)
dead_step true true = refl
dead_step true false = refl
dead_step false true = refl
dead_step false false = refl

end_step : (m : Bool) (n : ℕ) (p q : MessagePlace) (ps qs : List MessagePlace) → q ≡ ended_place n p → qs ≡ ends_place n ps → (if m then q ∷ qs else qs) ≡ ends_place n (if m then p ∷ ps else ps)
end_step true n p q ps qs one rest = ap (λ (l : List MessagePlace). q ∷ l) rest ∙ ap (λ (r : MessagePlace). r ∷ ends_place n ps) one
end_step false n p q ps qs one rest = rest

none_is : (s : StoredEntry) (index : ℕ) (m : Bool) → m ≡ false → (if m then place_of s.number index true ∷ [] else []) ≡ []
none_is s index true gone = absurd (cc)
none_is s index false gone = refl

pub places-deletion : (index : ℕ) (es : List StoredEntry) (s : StoredEntry) → s.seen.kind ≡ Deletion → message_places index (es ++ s ∷ []) ≡ ends_place s.number (message_places index es)
places-deletion index [] s gone = none_is s index (is_message s.seen.kind) (ap is_message gone)
places-deletion index (e ∷ es) s gone =
    let test : (not (is_message s.seen.kind) && s.number == e.number) ≡ (e.number == s.number) = ap (λ (k : EntryKind). not (is_message k) && s.number == e.number) gone ∙ same_test s.number e.number in
    let ended : is_ended_in (es ++ s ∷ []) e.number ≡ (is_ended_in es e.number || e.number == s.number) = ended_push es s e.number ∙ ap (λ (b : Bool). is_ended_in es e.number || b) test in
    let dead : not (is_ended_in (es ++ s ∷ []) e.number) ≡ (if e.number == s.number then false else not (is_ended_in es e.number)) = ap not ended ∙ dead_step (is_ended_in es e.number) (e.number == s.number) in
    end_step (is_message e.seen.kind) s.number (place_of e.number index (not (is_ended_in es e.number))) (place_of e.number index (not (is_ended_in (es ++ s ∷ []) e.number))) (message_places (index + 1) es) (message_places (index + 1) (es ++ s ∷ []))
    (ap (place_of e.number index) dead) (places-deletion (index + 1) es s gone)

-- What is written back of a slice that is whole.
pub written-back : (xs ys : List MessagePlace) (n : ℕ) → n ≡ length xs → take n (xs ++ ys) ≡ xs
written-back xs ys n is = ap (λ (k : ℕ). take k (xs ++ ys)) is ∙ whole xs where
  whole : (l : List MessagePlace) → take (length l) (l ++ ys) ≡ l
  whole [] = refl
  whole (x ∷ l) = ap (λ (r : List MessagePlace). x ∷ r) (whole l)

-- The places after a removal, and after a delivery.
pub places-ended : (old new : StoreState) (number : ℕ) (text : List ℕ) → EndsEntry old new number text → ends_place number (message_places 0 old.entries) ≡ message_places 0 new.entries
places-ended old new number text ends =
    ap (λ (n : ℕ). ends_place n (message_places 0 old.entries)) (sym ends.number_is)
    ∙ sym (ap (message_places 0) ends.entries ∙ places-deletion 0 old.entries ends.entry ends.kind)

pub places-added : (old new : StoreState) (text : List ℕ) (count : ℕ) → count ≡ length old.entries → AddsEntry old new text → message_places 0 old.entries ++ place_of old.root.next count true ∷ [] ≡ message_places 0 new.entries
places-added old new text count count_is adds =
    let at : count ≡ 0 + length old.entries = omega (arith, count_is) in
    ap (λ (n : ℕ). message_places 0 old.entries ++ place_of n count true ∷ []) (sym adds.number)
    ∙ ap (λ (i : ℕ). message_places 0 old.entries ++ place_of adds.entry.number i true ∷ []) at
    ∙ sym (ap (message_places 0) adds.entries ∙ places-message 0 old.entries adds.entry adds.kind)
