-- What is kept of an archive without the entries of a text: their index, their places, and which live
-- number had the text.
use Rattle.std.specs.Prelude.{◌≡◌, ◌+◌, ◌-◌, ◌<◌, ◌≤◌, ◌==◌, ◌&&◌, ◌||◌, ℕ, zero, suc, Bool, true, false, not, List, [], ◌∷◌, ◌++◌, length, take, drop, reverse, get_or, slice_get, Some, None, if◌then◌else◌, refl}
use Rattle.std.specs.List.{AllZip}
use Rattle.std.proofs.Common.{◌⊎◌, ◌∙◌, sym, ap, subst, inl, inr, cond, arith, rules}
use Rattle.std.specs.BTreeSet.{BTreeSet, IsEmpty}
use Rattle.std.proofs.lemmas.List.{drop_more, drop_all, take_all, reverse-append, reverse-reverse}
use Rattle.std.proofs.lemmas.List.Elements.{filter_more, length_all_zip}
use Rattle.std.proofs.lemmas.Option.{slice_get_within, slice_get-get_or, same_Some}
use Rattle.arch_base.specs.Ids.{id_eq}
use Rattle.arch_base.specs.declared.ids.ObjectId.{ObjectId}
use Rattle.arch_base.specs.contracts.ids.ObjectIdPartialEq.TheImpl as code
use Rattle.arch_base.proofs.IdOrder.{id_eq-flip, same_ids}
use Rattle.git_objects.specs.Objects.{blob_id_of}
use Rattle.git_objects.specs.declared.entry_kind.EntryKind.{EntryKind}
use Rattle.git_objects.specs.declared.entry_kind.EntryKind.TheVariants.{Message, Deletion}
use Rattle.mail_reader.specs.Content.{content_id_of}
use Rattle.arch_model.specs.Archives.{is_message}
use Rattle.arch_judge.specs.Indexes.{IndexPuts, IndexLoses}
use Rattle.arch_judge.specs.declared.index.Index.{Index}
use Rattle.store_finding.specs.declared.entries.StoredEntry.{StoredEntry}
use Rattle.store_finding.specs.Kept.{StoreState}
use Rattle.epoch_store.specs.Commands.{DropsEntries, EditsEntries, is_ended_in}
use Rattle.store_planning.specs.Dropping.{KeptOf, without_blob}
use Rattle.store_finding.specs.Indexes.{IndexesStored, TakesBy, IndexTakes, owner_kept}
use Rattle.archive_core.specs.Kept.{IndexesKept, PutsText}
use Rattle.archive_core.specs.Placing.{message_places, has_ended, PlacesBy, PlacesFrom, has_blob_at, IsLiveWith}
use Rattle.archive_core.specs.declared.placing.MessagePlace.{MessagePlace}
use Rattle.store_finding.proofs.Indexes.{indexes_none, indexes_more}
use Rattle.archive_core.proofs.Places.{place_of, places-low}
use Rattle.archive_core.proofs.Removing.{places-message}

-- A test of two blob ids, here of an entry and of the one that goes.
pub is-other : (x y : ObjectId) (r : Bool) → r ≡ not (code.ghosts.eq x y) → r ≡ true → id_eq y x ≡ false
is-other x y r is told = id_eq-flip y x ∙ by (id_eq x y) (sym (is ∙ ap not (same_ids x y)) ∙ told) where
  by : (t : Bool) → not t ≡ true → t ≡ false
  by true wrong = absurd (cc)
  by false right = refl

pub is-same : (x y : ObjectId) (r : Bool) → r ≡ not (code.ghosts.eq x y) → r ≡ false → id_eq y x ≡ true
is-same x y r is told = id_eq-flip y x ∙ by (id_eq x y) (sym (is ∙ ap not (same_ids x y)) ∙ told) where
  by : (t : Bool) → not t ≡ false → t ≡ true
  by true right = refl
  by false wrong = absurd (cc)

-- An entry with another blob id stays, and one with this blob id goes.
pub first-stays : (blob : ObjectId) (s : StoredEntry) (ss : List StoredEntry) → id_eq blob s.seen.blob ≡ false → without_blob (s ∷ ss) blob ≡ s ∷ without_blob ss blob
first-stays blob s ss other = ap (λ (t : Bool). if not t then s ∷ without_blob ss blob else without_blob ss blob) other

pub first-goes : (blob : ObjectId) (s : StoredEntry) (ss : List StoredEntry) → id_eq blob s.seen.blob ≡ true → without_blob (s ∷ ss) blob ≡ without_blob ss blob
first-goes blob s ss same = ap (λ (t : Bool). if not t then s ∷ without_blob ss blob else without_blob ss blob) same

append_none : (ss : List StoredEntry) → ss ++ [] ≡ ss
append_none [] = refl
append_none (s ∷ ss) = ap (λ (l : List StoredEntry). s ∷ l) (append_none ss)

-- The same of the next entry after some.
pub next-stays : (blob : ObjectId) (es : List StoredEntry) (i : ℕ) (s : StoredEntry) → i < length es → s ≡ get_or es i s → id_eq blob s.seen.blob ≡ false → without_blob (take (i + 1) es) blob ≡ without_blob (take i es) blob ++ s ∷ []
next-stays blob es i s less is other =
    let test : id_eq blob (get_or es i s).seen.blob ≡ false = ap (λ (x : StoredEntry). id_eq blob x.seen.blob) (sym is) ∙ other in
    filter_more (λ (e : StoredEntry). not (id_eq blob e.seen.blob)) es i s less
    ∙ ap (λ (t : Bool). without_blob (take i es) blob ++ cond (not t) (get_or es i s ∷ []) []) test
    ∙ ap (λ (x : StoredEntry). without_blob (take i es) blob ++ x ∷ []) (sym is)

pub next-goes : (blob : ObjectId) (es : List StoredEntry) (i : ℕ) (s : StoredEntry) → i < length es → s ≡ get_or es i s → id_eq blob s.seen.blob ≡ true → without_blob (take (i + 1) es) blob ≡ without_blob (take i es) blob
next-goes blob es i s less is same =
    let test : id_eq blob (get_or es i s).seen.blob ≡ true = ap (λ (x : StoredEntry). id_eq blob x.seen.blob) (sym is) ∙ same in
    filter_more (λ (e : StoredEntry). not (id_eq blob e.seen.blob)) es i s less
    ∙ ap (λ (t : Bool). without_blob (take i es) blob ++ cond (not t) (get_or es i s ∷ []) []) test
    ∙ append_none (without_blob (take i es) blob)

-- What is taken into an index of an entry is what is taken of one that was kept of it.
takes-kept : (s t : StoredEntry) (old new : Index) → KeptOf s t → IndexTakes old new s → IndexTakes old new t
takes-kept s t old new kept takes = subst (λ (k : EntryKind). TakesBy k old new t) (sym kept.kind) (by s.seen.kind takes) where
  by : (k : EntryKind) → TakesBy k old new s → TakesBy k old new t
  by Message puts =
      subst (λ (id : List ℕ). IndexPuts old new id t.seen.blob (owner_kept t)) (sym kept.id)
      (subst (λ (b : ObjectId). IndexPuts old new s.seen.id b (owner_kept t)) (sym kept.blob)
      (subst (λ (n : ℕ). IndexPuts old new s.seen.id s.seen.blob (record { number = n; content = t.seen.content })) (sym kept.number)
      (subst (λ (c : List ℕ). IndexPuts old new s.seen.id s.seen.blob (record { number = s.number; content = c })) (sym kept.content) puts)))
  by Deletion loses = subst (λ (id : List ℕ). IndexLoses old new id) (sym kept.id) loses

-- Entries that were kept of some and one more are such and one more.
pub record LastKept (ss : List StoredEntry) (s : StoredEntry) (kept : List StoredEntry) : Type 0 where
  pub front : List StoredEntry
  pub last : StoredEntry
  pub is : kept ≡ front ++ last ∷ []
  pub all : AllZip KeptOf ss front
  pub one : KeptOf s last

last-kept : (ss : List StoredEntry) (s : StoredEntry) (kept : List StoredEntry) → AllZip KeptOf (ss ++ s ∷ []) kept → LastKept ss s kept
last-kept [] s [] zip = absurd zip
last-kept [] s (t ∷ []) zip = record { front = []; last = t; is = refl; all = tt; one = zip.0 }
last-kept [] s (t ∷ (u ∷ ts)) zip = absurd zip.1
last-kept (x ∷ ss) s [] zip = absurd zip
last-kept (x ∷ ss) s (t ∷ ts) zip =
    let rest = last-kept ss s ts zip.1 in
    record { front = t ∷ rest.front; last = rest.last; is = ap (λ (l : List StoredEntry). t ∷ l) rest.is; all = (zip.0, rest.all); one = rest.one }

-- The index of entries, by what was kept of them: of none, and with one more.
pub kept-none : (index : Index) → index.owners.entries ≡ [] → index.blobs.entries ≡ [] → IndexesKept [] index
kept-none index no_owners no_blobs [] zip = indexes_none index no_owners no_blobs
kept-none index no_owners no_blobs (t ∷ ts) zip = absurd zip

kept-more : (ss : List StoredEntry) (s : StoredEntry) (old new : Index) → IndexesKept ss old → IndexTakes old new s → IndexesKept (ss ++ s ∷ []) new
kept-more ss s old new indexed takes kept zip =
    let parts = last-kept ss s kept zip in
    subst (λ (l : List StoredEntry). IndexesStored l new) (sym parts.is) (indexes_more parts.front parts.last old new (indexed parts.front parts.all) (takes-kept s parts.last old new parts.one takes))

pub kept-stays : (blob : ObjectId) (es : List StoredEntry) (i : ℕ) (s : StoredEntry) (old new : Index) → i < length es → s ≡ get_or es i s → id_eq blob s.seen.blob ≡ false → IndexesKept (without_blob (take i es) blob) old → IndexTakes old new s → IndexesKept (without_blob (take (i + 1) es) blob) new
kept-stays blob es i s old new less is other indexed takes = subst (λ (l : List StoredEntry). IndexesKept l new) (sym (next-stays blob es i s less is other)) (kept-more (without_blob (take i es) blob) s old new indexed takes)

pub kept-goes : (blob : ObjectId) (es : List StoredEntry) (i : ℕ) (s : StoredEntry) (index : Index) → i < length es → s ≡ get_or es i s → id_eq blob s.seen.blob ≡ true → IndexesKept (without_blob (take i es) blob) index → IndexesKept (without_blob (take (i + 1) es) blob) index
kept-goes blob es i s index less is same indexed = subst (λ (l : List StoredEntry). IndexesKept l index) (sym (next-goes blob es i s less is same)) indexed

-- Entries that were kept of others have the same places.
ended-kept : (ss ts : List StoredEntry) (n : ℕ) → AllZip KeptOf ss ts → is_ended_in ts n ≡ is_ended_in ss n
ended-kept [] [] n zip = refl
ended-kept [] (t ∷ ts) n zip = absurd zip
ended-kept (s ∷ ss) [] n zip = absurd zip
ended-kept (s ∷ ss) (t ∷ ts) n zip =
    ap (λ (k : EntryKind). (not (is_message k) && t.number == n) || is_ended_in ts n) zip.0.kind
    ∙ ap (λ (m : ℕ). (not (is_message s.seen.kind) && m == n) || is_ended_in ts n) zip.0.number
    ∙ ap (λ (b : Bool). (not (is_message s.seen.kind) && s.number == n) || b) (ended-kept ss ts n zip.1)

pub places-kept : (index : ℕ) (ss ts : List StoredEntry) → AllZip KeptOf ss ts → message_places index ts ≡ message_places index ss
places-kept index [] [] zip = refl
places-kept index [] (t ∷ ts) zip = absurd zip
places-kept index (s ∷ ss) [] zip = absurd zip
places-kept index (s ∷ ss) (t ∷ ts) zip =
    ap (λ (k : EntryKind). if is_message k then place_of t.number index (not (is_ended_in ts t.number)) ∷ message_places (index + 1) ts else message_places (index + 1) ts) zip.0.kind
    ∙ ap (λ (m : ℕ). if is_message s.seen.kind then place_of m index (not (is_ended_in ts m)) ∷ message_places (index + 1) ts else message_places (index + 1) ts) zip.0.number
    ∙ ap (λ (b : Bool). if is_message s.seen.kind then place_of s.number index (not b) ∷ message_places (index + 1) ts else message_places (index + 1) ts) (ended-kept ss ts s.number zip.1)
    ∙ ap (λ (ps : List MessagePlace). if is_message s.seen.kind then place_of s.number index (not (is_ended_in ss s.number)) ∷ ps else ps) (places-kept (index + 1) ss ts zip.1)

-- Numbers still rise in the places of the entries that stay.
rise_step : (m : Bool) (number own i j : ℕ) (alive lives : Bool) (ps qs : List MessagePlace) → PlacesFrom number (if m then place_of own i alive ∷ ps else ps) → (PlacesFrom (own + 1) ps → PlacesFrom (own + 1) qs) → (PlacesFrom number ps → PlacesFrom number qs) → PlacesFrom number (if m then place_of own j lives ∷ qs else qs)
rise_step true number own i j alive lives ps qs rise more other = (rise.0, more rise.1)
rise_step false number own i j alive lives ps qs rise more other = other rise

skip_step : (m : Bool) (number own i : ℕ) (alive : Bool) (ps : List MessagePlace) → PlacesFrom number (if m then place_of own i alive ∷ ps else ps) → PlacesFrom number ps
skip_step true number own i alive ps rise = places-low number (own + 1) ps (let low : number ≤ own = rise.0 in omega (arith, low)) rise.1
skip_step false number own i alive ps rise = rise

pub rises-without : (blob : ObjectId) (es : List StoredEntry) (number i j : ℕ) → PlacesFrom number (message_places i es) → PlacesFrom number (message_places j (without_blob es blob))
rises-without blob [] number i j rise = tt
rises-without blob (s ∷ ss) number i j rise = by (id_eq blob s.seen.blob) refl (λ n k l up. rises-without blob ss n k l up) where
  by : (t : Bool) → id_eq blob s.seen.blob ≡ t → ((n k l : ℕ) → PlacesFrom n (message_places k ss) → PlacesFrom n (message_places l (without_blob ss blob))) → PlacesFrom number (message_places j (without_blob (s ∷ ss) blob))
  by true same ih =
      subst (λ (l : List StoredEntry). PlacesFrom number (message_places j l)) (sym (first-goes blob s ss same))
      (ih number (i + 1) j (skip_step (is_message s.seen.kind) number s.number i (not (is_ended_in ss s.number)) (message_places (i + 1) ss) rise))
  by false other ih =
      subst (λ (l : List StoredEntry). PlacesFrom number (message_places j l)) (sym (first-stays blob s ss other))
      (rise_step (is_message s.seen.kind) number s.number i j (not (is_ended_in ss s.number)) (not (is_ended_in (without_blob ss blob) s.number)) (message_places (i + 1) ss) (message_places (j + 1) (without_blob ss blob)) rise (ih (s.number + 1) (i + 1) (j + 1)) (ih number (i + 1) (j + 1)))

-- The places, from the last to the first, of the entries from an index on that stay, the numbers that
-- these end, and how many stay before them.
pub record FrontWithout (entries : List StoredEntry) (blob : ObjectId) (index left : ℕ) (places : List MessagePlace) (ended : BTreeSet ℕ) : Type 0 where
  pub left_is : left ≡ length (without_blob (take index entries) blob)
  pub places_are : places ≡ reverse (message_places left (without_blob (drop index entries) blob))
  pub ended_are : (q : ℕ) → has_ended ended q ≡ is_ended_in (without_blob (drop index entries) blob) q

pub front-none : (entries : List StoredEntry) (blob : ObjectId) (index left : ℕ) (places : List MessagePlace) (ended : BTreeSet ℕ) → index ≡ length entries → left ≡ length (without_blob entries blob) → places ≡ [] → ((q : ℕ) → has_ended ended q ≡ false) → FrontWithout entries blob index left places ended
front-none entries blob index left places ended at left_is none empty =
    let whole : take index entries ≡ entries = take_all index entries (omega (arith, at)) in
    let past : drop index entries ≡ [] = drop_all index entries (omega (arith, at)) in
    record {
      left_is = left_is ∙ ap (λ (es : List StoredEntry). length (without_blob es blob)) (sym whole);
      places_are = none ∙ ap (λ (es : List StoredEntry). reverse (message_places left (without_blob es blob))) (sym past);
      ended_are = λ q. empty q ∙ ap (λ (es : List StoredEntry). is_ended_in (without_blob es blob) q) (sym past);
    }

pub none-ended : (ended : BTreeSet ℕ) → IsEmpty ended → (q : ℕ) → has_ended ended q ≡ false
none-ended ended empty q = search rules

-- An entry that goes changes nothing.
pub front-goes : (entries : List StoredEntry) (blob : ObjectId) (i left : ℕ) (s : StoredEntry) (places : List MessagePlace) (ended : BTreeSet ℕ) → i < length entries → s ≡ get_or entries i s → id_eq blob s.seen.blob ≡ true → FrontWithout entries blob (i + 1) left places ended → FrontWithout entries blob i left places ended
front-goes entries blob i left s places ended less is same front =
    let rest : without_blob (drop i entries) blob ≡ without_blob (drop (i + 1) entries) blob =
    ap (λ (es : List StoredEntry). without_blob es blob) (drop_more entries i s less ∙ ap (λ (x : StoredEntry). x ∷ drop (i + 1) entries) (sym is)) ∙ first-goes blob s (drop (i + 1) entries) same in
    record {
      left_is = front.left_is ∙ ap length (next-goes blob entries i s less is same);
      places_are = front.places_are ∙ ap (λ (es : List StoredEntry). reverse (message_places left es)) (sym rest);
      ended_are = λ q. front.ended_are q ∙ ap (λ (es : List StoredEntry). is_ended_in es q) (sym rest);
    }

length_more : (ss : List StoredEntry) (s : StoredEntry) → length (ss ++ s ∷ []) ≡ length ss + 1
length_more [] s = refl
length_more (x ∷ ss) s = let rest : length (ss ++ s ∷ []) ≡ length ss + 1 = length_more ss s in omega (arith, rest)

-- One that stays has been counted among those before.
pub left-some : (entries : List StoredEntry) (blob : ObjectId) (i left : ℕ) (s : StoredEntry) (places : List MessagePlace) (ended : BTreeSet ℕ) → i < length entries → s ≡ get_or entries i s → id_eq blob s.seen.blob ≡ false → FrontWithout entries blob (i + 1) left places ended → left ≡ length (without_blob (take i entries) blob) + 1
left-some entries blob i left s places ended less is other front = front.left_is ∙ ap length (next-stays blob entries i s less is other) ∙ length_more (without_blob (take i entries) blob) s

reversed_first : (p : MessagePlace) (ps : List MessagePlace) → reverse (p ∷ ps) ≡ reverse ps ++ p ∷ []
reversed_first p ps = reverse-append (p ∷ []) ps

places_turn : (k : EntryKind) (s : StoredEntry) (index : ℕ) (rest : List StoredEntry) (old new : List MessagePlace) (ended more : BTreeSet ℕ) → s.seen.kind ≡ k → old ≡ reverse (message_places (index + 1) rest) → ((q : ℕ) → has_ended ended q ≡ is_ended_in rest q) → PlacesBy k old new ended more s index
    → (new ≡ reverse (message_places index (s ∷ rest))) × ((q : ℕ) → has_ended more q ≡ is_ended_in (s ∷ rest) q)
places_turn Message s index rest old new ended more kind old_is ended_is by = (
  by.0
      ∙ ap (λ (ps : List MessagePlace). ps ++ place_of s.number index (not (has_ended ended s.number)) ∷ []) old_is
      ∙ ap (λ (b : Bool). reverse (message_places (index + 1) rest) ++ place_of s.number index (not b) ∷ []) (ended_is s.number)
      ∙ sym (reversed_first (place_of s.number index (not (is_ended_in rest s.number))) (message_places (index + 1) rest))
      ∙ sym (ap (λ (m : EntryKind). reverse (if is_message m then place_of s.number index (not (is_ended_in rest s.number)) ∷ message_places (index + 1) rest else message_places (index + 1) rest)) kind),
  λ q. by.1 q ∙ ended_is q ∙ sym (ap (λ (m : EntryKind). (not (is_message m) && s.number == q) || is_ended_in rest q) kind),
)
places_turn Deletion s index rest old new ended more kind old_is ended_is by = (
  by.0
      ∙ old_is
      ∙ sym (ap (λ (m : EntryKind). reverse (if is_message m then place_of s.number index (not (is_ended_in rest s.number)) ∷ message_places (index + 1) rest else message_places (index + 1) rest)) kind),
  λ q. by.1 q ∙ ap (λ (b : Bool). s.number == q || b) (ended_is q) ∙ sym (ap (λ (m : EntryKind). (not (is_message m) && s.number == q) || is_ended_in rest q) kind),
)

pub front-stays : (entries : List StoredEntry) (blob : ObjectId) (i left index : ℕ) (s : StoredEntry) (old new : List MessagePlace) (ended more : BTreeSet ℕ) → i < length entries → s ≡ get_or entries i s → id_eq blob s.seen.blob ≡ false → index ≡ left - 1 → FrontWithout entries blob (i + 1) left old ended → PlacesBy s.seen.kind old new ended more s index
    → FrontWithout entries blob i index new more
front-stays entries blob i left index s old new ended more less is other index_is front by =
    let some : left ≡ length (without_blob (take i entries) blob) + 1 = left-some entries blob i left s old ended less is other front in
    let up : left ≡ index + 1 = omega (arith, some, index_is) in
    let rest : without_blob (drop i entries) blob ≡ s ∷ without_blob (drop (i + 1) entries) blob =
    ap (λ (es : List StoredEntry). without_blob es blob) (drop_more entries i s less ∙ ap (λ (x : StoredEntry). x ∷ drop (i + 1) entries) (sym is)) ∙ first-stays blob s (drop (i + 1) entries) other in
    let both = places_turn s.seen.kind s index (without_blob (drop (i + 1) entries) blob) old new ended more refl (front.places_are ∙ ap (λ (n : ℕ). reverse (message_places n (without_blob (drop (i + 1) entries) blob))) up) front.ended_are by in
    record {
      left_is = (let same : index ≡ length (without_blob (take i entries) blob) = omega (arith, some, index_is) in same);
      places_are = both.0 ∙ ap (λ (es : List StoredEntry). reverse (message_places index es)) (sym rest);
      ended_are = λ q. both.1 q ∙ ap (λ (es : List StoredEntry). is_ended_in es q) (sym rest);
    }

-- All entries have been looked at.
pub front-all : (entries : List StoredEntry) (blob : ObjectId) (index left : ℕ) (places last : List MessagePlace) (ended : BTreeSet ℕ) → index ≡ 0 → FrontWithout entries blob index left places ended → last ≡ reverse places → last ≡ message_places 0 (without_blob entries blob)
front-all entries blob index left places last ended start front last_is =
    let front_is : FrontWithout entries blob 0 left places ended = subst (λ (n : ℕ). FrontWithout entries blob n left places ended) start front in
    last_is
    ∙ ap reverse front_is.places_are
    ∙ reverse-reverse (message_places left (without_blob entries blob))
    ∙ ap (λ (n : ℕ). message_places n (without_blob entries blob)) front_is.left_is

-- No place before an index is live with an entry that has a blob id.
abbrev pub NoneLive : List MessagePlace → List StoredEntry → ObjectId → ℕ → Type 0
NoneLive places entries blob index = (i : ℕ) (p : MessagePlace) → i < index → slice_get places i ≡ Some p → p.live ≡ true → has_blob_at entries p.entry blob ≡ false

at_or_before : (i index : ℕ) → i < index + 1 → (i < index) ⊎ (i ≡ index)
at_or_before zero zero less = inr refl
at_or_before zero (suc index) less = inl (omega arith)
at_or_before (suc i) zero less = absurd (omega (arith, less))
at_or_before (suc i) (suc index) less = elim (at_or_before i index (omega (arith, less))) [ inl before ↦ inl (omega (arith, before)) | inr at ↦ inr (omega (arith, at)) ]

-- The place at an index is no such one either: it is dead, or its entry has another blob id.
pub none-first : (places : List MessagePlace) (entries : List StoredEntry) (blob : ObjectId) → NoneLive places entries blob 0
none-first places entries blob i p before there lives = absurd (omega (arith, before))

none_at : (places : List MessagePlace) (entries : List StoredEntry) (blob : ObjectId) (index : ℕ) (d : MessagePlace) → index < length places → ((get_or places index d).live ≡ true → has_blob_at entries (get_or places index d).entry blob ≡ false) → NoneLive places entries blob index
    → NoneLive places entries blob (index + 1)
none_at places entries blob index d less one none i p before there lives = elim (at_or_before i index before) [
  | inl earlier ↦ none i p earlier there lives
  | inr at ↦
      (let same : get_or places index d ≡ p = same_Some (get_or places index d) p (sym (slice_get-get_or places index d less) ∙ ap (slice_get places) (sym at) ∙ there) in
      ap (λ (q : MessagePlace). has_blob_at entries q.entry blob) (sym same) ∙ one (ap (λ (q : MessagePlace). q.live) same ∙ lives))
]

pub none-more : (places : List MessagePlace) (entries : List StoredEntry) (blob : ObjectId) (index : ℕ) (d : MessagePlace) → index < length places → has_blob_at entries (get_or places index d).entry blob ≡ false → NoneLive places entries blob index → NoneLive places entries blob (index + 1)
none-more places entries blob index d less other none = none_at places entries blob index d less (λ lives. other) none

pub none-dead : (places : List MessagePlace) (entries : List StoredEntry) (blob : ObjectId) (index : ℕ) (d : MessagePlace) → index < length places → (get_or places index d).live ≡ false → NoneLive places entries blob index → NoneLive places entries blob (index + 1)
none-dead places entries blob index d less dead none = none_at places entries blob index d less (λ lives. absurd (let wrong : true ≡ false = sym lives ∙ dead in cc)) none

pub none-all : (places : List MessagePlace) (entries : List StoredEntry) (blob : ObjectId) (index : ℕ) → length places ≤ index → NoneLive places entries blob index → IsLiveWith places entries blob None
none-all places entries blob index past none i p there lives = let inside : i < length places = slice_get_within places i p there in none i p (omega (arith, inside, past)) there lives

-- The place at an index is such a one.
pub found-live : (places : List MessagePlace) (entries : List StoredEntry) (blob : ObjectId) (index : ℕ) (d : MessagePlace) → index < length places → (get_or places index d).live ≡ true → has_blob_at entries (get_or places index d).entry blob ≡ true → IsLiveWith places entries blob (Some (get_or places index d).number)
found-live places entries blob index d less lives has = (index, get_or places index d, slice_get-get_or places index d less, refl, lives, has)

-- What is kept after an edit: the index and the places of the entries that stay, and of one more.
pub indexes-edited : (old new : StoreState) (before after : Index) (gone blob : ObjectId) (text : List ℕ) → IndexesKept (without_blob old.entries gone) before → blob ≡ blob_id_of old.root.config.form text → PutsText before after text blob old.root.next → EditsEntries old new gone text → IndexesStored new.entries after
indexes-edited old new before after gone blob text indexed blob_is puts edits =
    let s = edits.entry in
    let put : IndexPuts before after s.seen.id blob (record { number = old.root.next; content = content_id_of text }) = puts s.seen.id edits.id in
    let at_blob : IndexPuts before after s.seen.id s.seen.blob (record { number = old.root.next; content = content_id_of text }) = subst (λ (i : ObjectId). IndexPuts before after s.seen.id i (record { number = old.root.next; content = content_id_of text })) (blob_is ∙ sym edits.blob_is) put in
    let at_number : IndexPuts before after s.seen.id s.seen.blob (record { number = s.number; content = content_id_of text }) = subst (λ (n : ℕ). IndexPuts before after s.seen.id s.seen.blob (record { number = n; content = content_id_of text })) (sym edits.number) at_blob in
    let message_put : IndexPuts before after s.seen.id s.seen.blob (owner_kept s) = subst (λ (c : List ℕ). IndexPuts before after s.seen.id s.seen.blob (record { number = s.number; content = c })) (sym edits.content) at_number in
    subst (λ (es : List StoredEntry). IndexesStored es after) (sym edits.entries)
    (indexes_more edits.front s before after (indexed edits.front edits.kept) (subst (λ (k : EntryKind). TakesBy k before after s) (sym edits.kind) message_put))

pub places-edited : (old new : StoreState) (gone : ObjectId) (text : List ℕ) (count : ℕ) → count ≡ length (without_blob old.entries gone) → EditsEntries old new gone text → message_places 0 (without_blob old.entries gone) ++ place_of old.root.next count true ∷ [] ≡ message_places 0 new.entries
places-edited old new gone text count count_is edits =
    let at : count ≡ 0 + length edits.front = (let same : length (without_blob old.entries gone) ≡ length edits.front = length_all_zip KeptOf (without_blob old.entries gone) edits.front edits.kept in omega (arith, count_is, same)) in
    ap (λ (ps : List MessagePlace). ps ++ place_of old.root.next count true ∷ []) (sym (places-kept 0 (without_blob old.entries gone) edits.front edits.kept))
    ∙ ap (λ (n : ℕ). message_places 0 edits.front ++ place_of n count true ∷ []) (sym edits.number)
    ∙ ap (λ (i : ℕ). message_places 0 edits.front ++ place_of edits.entry.number i true ∷ []) at
    ∙ sym (ap (message_places 0) edits.entries ∙ places-message 0 edits.front edits.entry edits.kind)

-- What is kept after a purge.
pub indexes-dropped : (old new : StoreState) (index : Index) (gone : ObjectId) → IndexesKept (without_blob old.entries gone) index → DropsEntries old new gone → IndexesStored new.entries index
indexes-dropped old new index gone indexed drops = indexed new.entries drops.entries

pub places-dropped : (old new : StoreState) (places : List MessagePlace) (gone : ObjectId) → places ≡ message_places 0 (without_blob old.entries gone) → DropsEntries old new gone → places ≡ message_places 0 new.entries
places-dropped old new places gone is drops = is ∙ sym (places-kept 0 (without_blob old.entries gone) new.entries drops.entries)
