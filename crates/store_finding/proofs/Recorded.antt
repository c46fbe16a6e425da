-- The records and the index of entries that are joined: each number that the index names is that of a
-- record whose message is among them.
use Rattle.std.specs.Prelude.{◌≡◌, ◌⊎◌, ◌+◌, ◌<◌, ◌≤◌, nat_lt, ℕ, zero, suc, Bool, true, false, if◌then◌else◌, List, [], ◌∷◌, ◌++◌, length, get_or, slice_get, Option, Some, None, refl}
use Rattle.std.specs.Global.{Vec}
use Rattle.std.specs.List.Sorted.{IsPartitionedBy, IsPartitionPoint}
use Rattle.std.specs.Map.{lookup}
use Rattle.std.specs.BTreeMap.{is_at}
use Rattle.std.specs.Ordering.{nat_cmp}
use Rattle.std.specs.Cmp.Lexicographic.{slice_cmp}
use Rattle.std.specs.Str.{bytes_eq}
use Rattle.std.proofs.Common.{◌∙◌, sym, ap, subst, inl, inr, arith, length-append}
use Rattle.std.proofs.lemmas.Bool.{cases_lt}
use Rattle.std.proofs.lemmas.Bool.Decides.{nat_tests}
use Rattle.std.proofs.lemmas.Option.{same_Some, slice_get-get_or, slice_get_within}
use Rattle.arch_base.specs.declared.ids.Form.{Form}
use Rattle.arch_base.specs.Ids.{id_eq, id_cmp}
use Rattle.arch_base.proofs.IdOrder.{id_eq-Decides}
use Rattle.arch_base.specs.declared.ids.ObjectId.{ObjectId}
use Rattle.arch_judge.specs.Indexes.{IndexLoses, IndexPuts, first_found, number_in, owner_in}
use Rattle.arch_judge.specs.declared.index.Index.{Index}
use Rattle.arch_judge.specs.declared.index.Owner.{Owner}
use Rattle.git_objects.specs.declared.entry_kind.EntryKind.{EntryKind}
use Rattle.git_objects.specs.declared.entry_kind.EntryKind.TheVariants.{Message, Deletion}
use Rattle.number_map.specs.declared.line.Record.{Record}
use Rattle.number_map.specs.Records.{AreRecordsFrom}
use Rattle.root_change.proofs.PlanParts.{last_there, still_there}
use Rattle.epoch_file.specs.declared.entry.Seen.{Seen}
use Rattle.store_finding.specs.declared.entries.StoredEntry.{StoredEntry}
use Rattle.store_finding.specs.Damage.{has_message, messages}
use Rattle.store_finding.specs.Indexes.{IndexTakes, TakesBy, owner_kept}
use Rattle.store_finding.specs.Joined.{IsJoining, IsMessageOf, IsJoinedAt, IsRecorded, IsWantedRecord, JoinedEntries, NumbersRise, entry_seen, message_count, places_with, with_seen}
use Rattle.store_finding.proofs.Joins.{count_by}

-- The records of a valid map that have a message rise.
record RiseFrom (n : ℕ) (rs : List Record) : Type 0 where
  rise : NumbersRise rs
  least : (i : ℕ) (r : Record) → slice_get rs i ≡ Some r → n ≤ r.number

rise_step : (t : Bool) (n : ℕ) (line : Record) (rs : List Record) → line.number ≡ n → RiseFrom (n + 1) rs → RiseFrom n (if t then line ∷ rs else rs)
rise_step false n line rs is rest = record { rise = rest.rise; least = λ i r here. (let low = rest.least i r here in omega (arith, low)) }
rise_step true n line rs is rest = record { rise = rise; least = least } where
  least : (i : ℕ) (r : Record) → slice_get (line ∷ rs) i ≡ Some r → n ≤ r.number
  least zero r here = (let same = ap (λ (l : Record). l.number) (same_Some line r here) in omega (arith, same, is))
  least (suc i) r here = (let low = rest.least i r here in omega (arith, low))

  rise : NumbersRise (line ∷ rs)
  rise zero zero r s less one two = absurd (omega (arith, less))
  rise zero (suc j) r s less one two =
      let same = ap (λ (l : Record). l.number) (same_Some line r one) in
      let low = rest.least j s two in
      omega (arith, same, is, low)
  rise (suc i) zero r s less one two = absurd (omega (arith, less))
  rise (suc i) (suc j) r s less one two = rest.rise i j r s (omega (arith, less)) one two

rise_from : (form : Form) (n : ℕ) (rs : List Record) → AreRecordsFrom form n rs → RiseFrom n (messages rs)
rise_from form n [] valid = record { rise = λ i j r s less one two. absurd (let wrong : None ≡ Some r = one in cc); least = λ i r here. absurd (let wrong : None ≡ Some r = here in cc) }
rise_from form n (line ∷ rs) valid = rise_step (has_message line) n line (messages rs) valid.0.number (rise_from form (n + 1) rs valid.1)

-- Before the first entry.
pub joining_none : (form : Form) (rs records : List Record) (entries : List StoredEntry) (places : List ℕ) (index : Index) → records ≡ messages rs → AreRecordsFrom form 1 rs → places ≡ [] → index.owners.entries ≡ [] → index.blobs.entries ≡ [] → IsJoining (record { records = records; entries = entries }) places index
joining_none form rs records entries places index is valid none no_owners no_blobs = record {
  rise = subst NumbersRise (sym is) (rise_from form 1 rs valid).rise;
  placed = λ i at here. absurd (let wrong : None ≡ Some at = ap (λ (l : List ℕ). slice_get l i) (sym none) ∙ here in cc);
  indexes = record {
    owners = λ id o here. absurd (let wrong : None ≡ Some o = sym (ap (λ (l : List (Vec ℕ × Owner)). lookup (is_at (λ (k : Vec ℕ). slice_cmp nat_cmp id k.items)) l) no_owners) ∙ here in cc);
    blobs = λ blob n here. absurd (let wrong : None ≡ Some n = sym (ap (λ (l : List (ObjectId × ℕ)). lookup (is_at (id_cmp blob)) l) no_blobs) ∙ here in cc);
  };
}

-- A binary search for the number of a record finds it.
pub parted : (records : List Record) (number : ℕ) → NumbersRise records → IsPartitionedBy (λ (r : Record). nat_lt r.number number) records
parted records number rise = λ i j d low within holds. elim (cases_lt i j) [
  | inl under ↦
      let one = slice_get-get_or records i d (omega (arith, under, within)) in
      let two = slice_get-get_or records j d within in
      let less = rise i j (get_or records i d) (get_or records j d) under one two in
      let high : (get_or records j d).number < number = grind (arith, nat_tests, holds) in
      let low_one : (get_or records i d).number < number = omega (arith, less, high) in
      grind (arith, nat_tests, low_one)
  | inr over ↦
      let same : j ≡ i = omega (arith, low, over) in
      subst (λ (n : ℕ). nat_lt (get_or records n d).number number ≡ true) same holds
]

abbrev pub IsPoint : List Record → ℕ → ℕ → Type 0
IsPoint records number point = IsPartitionPoint (λ (r : Record). nat_lt r.number number ≡ true) (λ (r : Record). nat_lt r.number number ≡ false) records point

module _ (v : JoinedEntries) (number point : ℕ) (line : Record) (rise : NumbersRise v.records) (of : IsRecorded v number line) (parts : IsPoint v.records number point) where
  within : of.index < length v.records
  within = slice_get_within v.records of.index line of.there

  its_number : (get_or v.records of.index line).number ≡ number
  its_number = ap (λ (r : Record). r.number) (same_Some (get_or v.records of.index line) line (sym (slice_get-get_or v.records of.index line within) ∙ of.there)) ∙ of.number_is

  not_before : of.index < point → ⊥
  not_before less =
      let test = parts.0 of.index line (omega arith) less in
      let low : (get_or v.records of.index line).number < number = grind (arith, nat_tests, test) in
      let is = its_number in
      absurd (omega (arith, low, is))

  not_after : point < of.index → ⊥
  not_after less =
      let fits = within in
      let there = slice_get-get_or v.records point line (omega (arith, less, fits)) in
      let rises = rise point of.index (get_or v.records point line) line less there of.there in
      let test = parts.1 point line (omega arith) (omega (arith, less, fits)) in
      let high : number ≤ (get_or v.records point line).number = grind (arith, nat_tests, test) in
      let is = of.number_is in
      absurd (omega (arith, rises, high, is))

  pub point_is : point ≡ of.index
  point_is = elim (cases_lt point of.index) [
    | inl less ↦ absurd (not_after less)
    | inr most ↦ elim (cases_lt of.index point) [ inl less ↦ absurd (not_before less) | inr same ↦ omega (arith, most, same) ]
  ]

-- So the message of a number that is recorded is found at its place.
module _ (v : JoinedEntries) (places : List ℕ) (index : Index) (number point : ℕ) (line : Record) (joining : IsJoining v places index) (count : length places ≡ message_count v.entries) (of : IsRecorded v number line) (parts : IsPoint v.records number point) where
  pub point_within : point < length places
  point_within = (let is = point_is v number point line joining.rise of parts in let before = of.before in omega (arith, is, before, count))

  module _ (at : ℕ) (at_is : slice_get places point ≡ Some at) where
    placed : IsJoinedAt v point at
    placed = joining.placed point at at_is

    pub place_within : at < length v.entries
    place_within = slice_get_within v.entries at placed.entry placed.among

    pub found_message : (e : StoredEntry) → slice_get v.entries at ≡ Some e → IsMessageOf v.entries number e
    found_message e here =
        let same : placed.entry ≡ e = same_Some placed.entry e (sym placed.among ∙ here) in
        let recorded = ap (slice_get v.records) (point_is v number point line joining.rise of parts) ∙ of.there in
        let line_is : placed.line ≡ line = same_Some placed.line line (sym placed.recorded ∙ recorded) in
        record {
          index = at;
          among = here;
          message = ap (λ (f : StoredEntry). f.seen.kind) (sym same) ∙ placed.message;
          number_is = ap (λ (f : StoredEntry). f.number) (sym same) ∙ (placed.number ∙ (ap (λ (l : Record). l.number) line_is ∙ of.number_is));
        }

    pub found_blob : (e : StoredEntry) → slice_get v.entries at ≡ Some e → (other : Record) → IsRecorded v number other → e.seen.blob ≡ other.blob
    found_blob e here other also =
        let same : placed.entry ≡ e = same_Some placed.entry e (sym placed.among ∙ here) in
        let recorded = ap (slice_get v.records) (point_is v number point other joining.rise also parts) ∙ also.there in
        let line_is : placed.line ≡ other = same_Some placed.line other (sym placed.recorded ∙ recorded) in
        ap (λ (f : StoredEntry). f.seen.blob) (sym same) ∙ (placed.blob ∙ ap (λ (l : Record). l.blob) line_is)

-- An item of a list with one more.
item_of : {X : Type 0} (xs : List X) (x : X) (i : ℕ) (y : X) → slice_get (xs ++ x ∷ []) i ≡ Some y → (slice_get xs i ≡ Some y) ⊎ ((i ≡ length xs) × (x ≡ y))
item_of {X} [] x zero y here = inr (refl, same_Some x y here)
item_of {X} [] x (suc i) y here = absurd (let wrong : None ≡ Some y = here in cc)
item_of {X} (z ∷ zs) x zero y here = inl here
item_of {X} (z ∷ zs) x (suc i) y here = elim (item_of zs x i y here) [
  | inl old ↦ inl old
  | inr last ↦ inr ((let is = last.0 in omega (arith, is)), last.1)
]

-- One more entry is joined.
recorded_more : (v : JoinedEntries) (e : StoredEntry) (n : ℕ) (line : Record) → message_count v.entries ≤ message_count (v.entries ++ e ∷ []) → IsRecorded v n line → IsRecorded (record { records = v.records; entries = v.entries ++ e ∷ [] }) n line
recorded_more v e n line more of = record { index = of.index; before = (let before = of.before in omega (arith, before, more)); there = of.there; number_is = of.number_is }

placed_more : (v : JoinedEntries) (e : StoredEntry) (i at : ℕ) → IsJoinedAt v i at → IsJoinedAt (record { records = v.records; entries = v.entries ++ e ∷ [] }) i at
placed_more v e i at placed = record {
  entry = placed.entry;
  line = placed.line;
  among = still_there v.entries e at placed.entry placed.among;
  recorded = placed.recorded;
  message = placed.message;
  number = placed.number;
  blob = placed.blob;
}

some_owner : (t : Bool) (o p : Owner) (old : Option Owner) → (if t then Some o else old) ≡ Some p → (o ≡ p) ⊎ (old ≡ Some p)
some_owner true o p old is = inl (same_Some o p is)
some_owner false o p old is = inr is

some_left : (t : Bool) (p : Owner) (old : Option Owner) → (if t then None else old) ≡ Some p → old ≡ Some p
some_left true p old is = absurd (let wrong : None ≡ Some p = is in cc)
some_left false p old is = is

some_number : (old : Option ℕ) (t : Bool) (n m : ℕ) → first_found old (if t then Some n else None) ≡ Some m → (old ≡ Some m) ⊎ ((t ≡ true) × (n ≡ m))
some_number (Some k) t n m is = inl is
some_number None true n m is = inr (refl, same_Some n m is)
some_number None false n m is = absurd (let wrong : None ≡ Some m = is in cc)

module _ (v : JoinedEntries) (places : List ℕ) (old new : Index) (number epoch : ℕ) (seen : Seen) (joining : IsJoining v places old) (count : length places ≡ message_count v.entries) where
  abbrev e : StoredEntry
  e = entry_seen number epoch seen

  abbrev after : JoinedEntries
  after = with_seen v number epoch seen

  message_joins : seen.kind ≡ Message → IsWantedRecord v epoch seen number → IndexPuts old new seen.id seen.blob (owner_kept e) → IsJoining after (places ++ length v.entries ∷ []) new
  message_joins kind wanted puts = record {
    rise = joining.rise;
    placed = λ i at here. elim (item_of places (length v.entries) i at here) [
      | inl was ↦ placed_more v e i at (joining.placed i at was)
      | inr is ↦ subst (λ (j : ℕ). IsJoinedAt after j at) (sym (is.0 ∙ count)) (subst (IsJoinedAt after (message_count v.entries)) is.1 (record {
        entry = e;
        line = record { number = number; epoch = epoch; blob = seen.blob };
        among = last_there v.entries e;
        recorded = wanted.next;
        message = kind;
        number = refl;
        blob = refl;
      }))
    ];
    indexes = record {
      owners = λ id o here. elim (some_owner (bytes_eq id seen.id) (owner_kept e) o (owner_in old.owners id) (sym (puts.owners id) ∙ here)) [
        | inl its ↦ (record { number = number; epoch = epoch; blob = seen.blob }, subst (λ (p : Owner). IsRecorded after p.number (record { number = number; epoch = epoch; blob = seen.blob })) its new_one)
        | inr was ↦ (let so = joining.indexes.owners id o was in (so.0, recorded_more v e o.number so.0 more so.1))
      ];
      blobs = λ blob n here. elim (some_number (number_in old.blobs blob) (id_eq blob seen.blob) number n (sym (puts.blobs blob) ∙ here)) [
        | inl was ↦ (let so = joining.indexes.blobs blob n was in (so.0, recorded_more v e n so.0 more so.1, so.2))
        | inr its ↦ (record { number = number; epoch = epoch; blob = seen.blob }, subst (λ (m : ℕ). IsRecorded after m (record { number = number; epoch = epoch; blob = seen.blob })) its.1 new_one, sym ((id_eq-Decides blob seen.blob).0 its.0))
      ];
    };
  } where
    grows : message_count (v.entries ++ e ∷ []) ≡ message_count v.entries + 1
    grows = count_by Message v.entries e kind

    more : message_count v.entries ≤ message_count (v.entries ++ e ∷ [])
    more = (let is = grows in omega (arith, is))

    new_one : IsRecorded after number (record { number = number; epoch = epoch; blob = seen.blob })
    new_one = record { index = message_count v.entries; before = (let is = grows in omega (arith, is)); there = wanted.next; number_is = refl }

  deletion_joins : seen.kind ≡ Deletion → IndexLoses old new seen.id → IsJoining after places new
  deletion_joins kind lost = record {
    rise = joining.rise;
    placed = λ i at here. placed_more v e i at (joining.placed i at here);
    indexes = record {
      owners = λ id o here. (let so = joining.indexes.owners id o (some_left (bytes_eq id seen.id) o (owner_in old.owners id) (sym (lost.owners id) ∙ here)) in (so.0, recorded_more v e o.number so.0 more so.1));
      blobs = λ blob n here. (let so = joining.indexes.blobs blob n (sym (lost.blobs blob) ∙ here) in (so.0, recorded_more v e n so.0 more so.1, so.2));
    };
  } where
    more : message_count v.entries ≤ message_count (v.entries ++ e ∷ [])
    more = (let is = count_by Deletion v.entries e kind in omega (arith, is))

  joins_by : (k : EntryKind) → seen.kind ≡ k → (seen.kind ≡ Message → IsWantedRecord v epoch seen number) → TakesBy k old new e → IsJoining after (places_with k places (length v.entries)) new
  joins_by Message kind wanted takes = message_joins kind (wanted kind) takes
  joins_by Deletion kind wanted takes = deletion_joins kind takes

  pub joining_more : (seen.kind ≡ Message → IsWantedRecord v epoch seen number) → IndexTakes old new e → IsJoining after (places_with seen.kind places (length v.entries)) new
  joining_more wanted takes = joins_by seen.kind refl wanted takes

-- The length of the places then.
pub places_count : (k : EntryKind) (places : List ℕ) (at : ℕ) (entries : List StoredEntry) (e : StoredEntry) → e.seen.kind ≡ k → length places ≡ message_count entries → length (places_with k places at) ≡ message_count (entries ++ e ∷ [])
places_count k places at entries e kind count = by k kind where
  by : (j : EntryKind) → e.seen.kind ≡ j → length (places_with j places at) ≡ message_count (entries ++ e ∷ [])
  by Message is = (let grows = count_by Message entries e is in let size = length-append places (at ∷ []) in omega (arith, count, grows, size))
  by Deletion is = (let stays = count_by Deletion entries e is in omega (arith, count, stays))
