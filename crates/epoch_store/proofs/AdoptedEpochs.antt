-- Own entries of an adoption stay or are left out, until all were taken.
use Rattle.std.specs.Prelude.{◌≡◌, ◌≢◌, ◌+◌, ◌-◌, ◌<◌, ◌≤◌, nat_lt, true, false, ℕ, suc, List, [], ◌∷◌, ◌++◌, length, take, drop, get_or, slice_get, Option, Some, None, Result, Ok, Err, refl}
use Rattle.std.proofs.Common.{◌∙◌, sym, ap, subst, inl, inr, arith}
use Rattle.std.proofs.lemmas.Bool.{cases_lt}
use Rattle.std.proofs.lemmas.List.{take_all}
use Rattle.std.proofs.lemmas.Option.{same_Some, slice_get-get_or, slice_get_within}
use Rattle.arch_base.specs.declared.ids.Form.{Form}
use Rattle.arch_base.specs.declared.ids.ObjectId.{ObjectId}
use Rattle.disk_model.specs.Disk.{Content}
use Rattle.disk_model.specs.declared.name.FileKind.TheVariants as kind
use Rattle.disk_model.specs.declared.name.FileName.{FileName}
use Rattle.git_objects.specs.Objects.{blob_id_of}
use Rattle.root_slots.specs.RootName.{root_name}
use Rattle.root_slots.specs.declared.root.Root.{Root}
use Rattle.root_change.specs.Parts.{texts_of}
use Rattle.root_change.specs.Rewriting.{Plan, AreApart, file_by, plan_of}
use Rattle.root_change.specs.Texts.{Texts}
use Rattle.root_change.proofs.Pushes.{each_more}
use Rattle.root_change.proofs.Roots.{less_test}
use Rattle.arch_model.specs.Archives.{Entry, Archive}
use Rattle.arch_model.specs.declared.line.EntryLine.{EntryLine}
use Rattle.epoch_file.specs.Planning.{Planned, texts_in}
use Rattle.epoch_file.specs.declared.refusal.StoreRefusal.{StoreRefusal}
use Rattle.epoch_file.specs.declared.refusal.StoreRefusal.TheVariants.{DiskFault, NoMemory, Damaged}
use Rattle.store_finding.specs.Extents.{AreNamed}
use Rattle.store_finding.specs.Files.{epoch_file_of}
use Rattle.store_finding.specs.Kept.{InEpochs, IsDiskWith, StoreState}
use Rattle.store_finding.specs.Recovery.{bytes_in, parts_of}
use Rattle.store_finding.specs.declared.entries.StoredEntry.{StoredEntry}
use Rattle.store_planning.specs.Dropping.{KeptOf}
use Rattle.store_planning.specs.Epochs.{PlansEpochs, commit_if}
use Rattle.store_planning.specs.Planning.{AreFrom, ArePlansIn, ClosesAs, ClosesLast, ComesNext, DropsStored, IsKeptUpTo, KeepsStored, PlansApart, PlanTakes, Planning, no_planning, without_current}
use Rattle.store_planning.proofs.Apart.{taken_apart}
use Rattle.store_planning.proofs.Ends.{last_item}
use Rattle.store_planning.proofs.ReadyEpochs.{epochs_ready}
use Rattle.store_planning.proofs.Taken.{taken_more, taken_none}
use Rattle.epoch_store.specs.AdoptedLines.{ClosesAdoption, PlansLine}
use Rattle.epoch_store.specs.Adopting.{AddsLine, AdoptionState, GivesOwn, IsAdding, IsAdoptionOf, IsKeeping, IsKeptOn, IsOnLine, IsOwnOnLine, KeepsLine, NoneOnLine, PlansAdopted, PlansMore, PlansSame}
use Rattle.epoch_store.proofs.Finished.{all_shut, by_plan, epochs_shut, part_isnt_root, whole_same}
use Rattle.epoch_store.proofs.Purged.{IsNth, length_stored, nth, plans_none}

-- An adoption of so many entries.
abbrev pub taking : Planning → ℕ → AdoptionState
taking p n = record { planned = p; taken = n }

-- Before the first line.
pub starts_adoption : (v : StoreState) → AreNamed v.root v.entries → IsAdoptionOf v (taking (no_planning v.root.config.form) 0)
starts_adoption v named = record {
  low = λ i e here. absurd (let wrong : None ≡ Some e = here in cc);
  most = omega arith;
  way = inl (record {
    plans = plans_none v.root;
    taken = record { epoch = 0; from = 0; taken = taken_none v.root.config.form v.root; lie = named.lie; ends = named.ends };
  });
}

-- The current epoch isn't planned yet.
pub adoption_apart : (v : StoreState) (s : AdoptionState) → IsAdoptionOf v s → PlansApart s.planned.plans s.planned.current
adoption_apart v s of = elim of.way [
  | inl keeping ↦ taken_apart v.root keeping.taken.epoch keeping.taken.from s.planned keeping.taken.taken
  | inr adding ↦ subst (PlansApart s.planned.plans) (sym adding.none) tt
]

-- An own entry that is looked up.
pub found_at : (es list : List StoredEntry) (i : ℕ) (e : StoredEntry) → list ≡ es → i < length list → e ≡ get_or list i e → slice_get es i ≡ Some e
found_at es list i e same below is = ap (λ (l : List StoredEntry). slice_get l i) (sym same) ∙ (slice_get-get_or list i e below ∙ ap (λ (s : StoredEntry). Some s) (sym is))

-- Before the first index none is on a line, and one more isn't.
pub none_on_line : (es : List StoredEntry) (from : ℕ) (line : EntryLine) → NoneOnLine es from from line
none_on_line es from line = λ i s least below here on. omega (arith, least, below)

pub more_off_line : (es : List StoredEntry) (from at : ℕ) (e : StoredEntry) (line : EntryLine) → slice_get es at ≡ Some e → (IsOnLine e line → ⊥) → NoneOnLine es from at line → NoneOnLine es from (at + 1) line
more_off_line es from at e line here off passed = λ i s least below there on. elim (cases_lt i at) [
  | inl before ↦ passed i s least before there on
  | inr high ↦ (let is : i ≡ at = omega (arith, below, high) in off (subst (λ (x : StoredEntry). IsOnLine x line) (same_Some s e (sym there ∙ (ap (slice_get es) is ∙ here))) on))
]

-- From the first index on none is on a line.
least_by : (m n : ℕ) → false ≡ nat_lt m n → n ≤ m
least_by m n test = elim (cases_lt m n) [
  | inl low ↦ absurd (let wrong : false ≡ true = test ∙ less_test m n low in cc)
  | inr high ↦ high
]

pub takes_none : (es list : List StoredEntry) (from at : ℕ) (line : EntryLine) → list ≡ es → false ≡ nat_lt at (length list) → NoneOnLine es from at line → (length es ≤ at) × NoneOnLine es from (length es) line
takes_none es list from at line same test passed =
    let high = least_by at (length list) test in
    let size : length list ≡ length es = ap length same in
    let all : length es ≤ at = omega (arith, high, size) in (
      all,
      λ i s least below here on. passed i s least (omega (arith, below, all)) here on,
    )

-- The next own entry was taken.
module _ (v : StoreState) (i : ℕ) (e : StoredEntry) (here : slice_get v.entries i ≡ Some e) (file : FileName) (file_is : file ≡ epoch_file_of v.root e.epoch) (old new : Planning) where
  within : i < length v.entries
  within = slice_get_within v.entries i e here

  keeping_next : IsAdoptionOf v (taking old i) → ((root : Root) → file ≡ epoch_file_of root e.epoch → ArePlansIn root old → ArePlansIn root new) → PlanTakes old file e new → IsKeeping v (taking new (i + 1))
  keeping_next of plans takes = elim of.way [
    | inl keeping ↦ record { plans = plans v.root file_is keeping.plans; taken = taken_more v.root v.entries i e file old new here file_is keeping.taken takes }
    | inr adding ↦ absurd (let all = adding.all in let less = within in omega (arith, all, less))
  ]

  pub form_of_keeping : IsAdoptionOf v (taking old i) → old.form ≡ v.root.config.form
  form_of_keeping of = elim of.way [
    | inl keeping ↦ keeping.plans.form
    | inr adding ↦ absurd (let all = adding.all in let less = within in omega (arith, all, less))
  ]

  pub dropped_of : IsAdoptionOf v (taking old i) → new.entries ≡ old.entries → ((root : Root) → file ≡ epoch_file_of root e.epoch → ArePlansIn root old → ArePlansIn root new) → PlanTakes old file e new → IsAdoptionOf v (taking new (i + 1))
  dropped_of of same plans takes = record {
    low = subst InEpochs (sym same) of.low;
    most = (let less = within in omega (arith, less));
    way = inl (keeping_next of plans takes);
  }

  pub kept_of : IsAdoptionOf v (taking old i) → InEpochs v.entries → (made : StoredEntry) × KeptOf e made × (new.entries ≡ old.entries ++ made ∷ []) → ((root : Root) → file ≡ epoch_file_of root e.epoch → ArePlansIn root old → ArePlansIn root new) → PlanTakes old file e new → IsAdoptionOf v (taking new (i + 1))
  kept_of of low made plans takes = record {
    low = subst InEpochs (sym made.2) (each_more (λ (s : StoredEntry). s.epoch ≤ 63) old.entries made.0 of.low (let own = low i e here in let same = made.1.epoch in omega (arith, own, same)));
    most = (let less = within in omega (arith, less));
    way = inl (keeping_next of plans takes);
  }

  -- On the disk of an archive it is the next one.
  module _ (k : Content) (cache : List ℕ) (a : Archive) (es : List Entry) (own : IsDiskWith v cache a k) where
    at : IsNth a.config.form [] a.entries i e
    at = nth a.config.form [] a.entries i e (ap (λ (l : List StoredEntry). slice_get l i) (sym own.keeps.kept) ∙ here)

    count : suc i ≡ i + 1
    count = omega arith

    comes : IsKeptUpTo (texts_in k) v.root a (take i a.entries) es old → ComesNext file e k v cache a (take i a.entries) (drop (suc i) a.entries) es at.entry old
    comes up = record { own = own; is = at.is; stored_is = at.kept; file_is = file_is ∙ ap (λ (s : StoredEntry). epoch_file_of v.root s.epoch) at.kept; up = up }

    up_of : PlansAdopted v cache a k es (taking old i) → IsKeptUpTo (texts_in k) v.root a (take i a.entries) es old
    up_of (inl up) = up
    up_of (inr done) = absurd (let all = done.0 in let less = within in omega (arith, all, less))

    dropped_up : DropsStored old file e new → PlansAdopted v cache a k es (taking old i) → PlansAdopted v cache a k es (taking new (i + 1))
    dropped_up drops plans =
        inl (subst (λ (l : List Entry). IsKeptUpTo (texts_in k) v.root a l es new) (sym at.more ∙ ap (λ (j : ℕ). take j a.entries) count)
        (drops k v cache a (take i a.entries) (drop (suc i) a.entries) es at.entry (comes (up_of plans))))

    kept_up : (line : EntryLine) → IsOnLine e line → KeepsStored old file e (Some k) new (Ok tt) → PlansAdopted v cache a k es (taking old i) → (f : Entry) × IsOwnOnLine a line f × PlansAdopted v cache a k (es ++ f ∷ []) (taking new (i + 1))
    kept_up line on keeps plans =
        let f = at.entry in
        let kind_is : f.kind ≡ line.kind = sym (ap (λ (s : StoredEntry). s.seen.kind) at.kept) ∙ on.kind in
        let number_is : f.number ≡ line.number = sym (ap (λ (s : StoredEntry). s.number) at.kept) ∙ on.number in
        let epoch_is : f.epoch ≡ line.epoch = sym (ap (λ (s : StoredEntry). s.epoch) at.kept) ∙ on.epoch in
        let moment_is : f.moment ≡ line.secs = sym (ap (λ (s : StoredEntry). s.seen.moment) at.kept) ∙ on.moment in
        let blob_is : blob_id_of a.config.form f.text ≡ line.blob = sym (ap (λ (s : StoredEntry). s.seen.blob) at.kept) ∙ on.blob in (
          f,
          record {
            before = take i a.entries;
            rest = drop (suc i) a.entries;
            is = at.is;
            kind = kind_is;
            number = number_is;
            epoch = epoch_is;
            moment = moment_is;
            blob = blob_is;
          },
          inl (subst (λ (l : List Entry). IsKeptUpTo (texts_in k) v.root a l (es ++ f ∷ []) new) (sym at.more ∙ ap (λ (j : ℕ). take j a.entries) count)
              (keeps v cache a (take i a.entries) (drop (suc i) a.entries) es f (comes (up_of plans)))),
        )

    stopped_up : (why : StoreRefusal) (line : EntryLine) (s : AdoptionState) → KeepsStored old file e (Some k) new (Err why) → PlansAdopted v cache a k es (taking old i) → GivesOwn v cache a k es line s (Err why)
    stopped_up DiskFault line s keeps plans = tt
    stopped_up NoMemory line s keeps plans = tt
    stopped_up (Damaged f n) line s keeps plans = keeps v cache a (take i a.entries) (drop (suc i) a.entries) es at.entry (comes (up_of plans))

  pub dropped_same : DropsStored old file e new → PlansSame v (taking old i) (taking new (i + 1))
  dropped_same drops = λ k cache a es own plans. dropped_up k cache a es own drops plans

  -- So a line was kept, or reading failed.
  pub keeps_line : (first : AdoptionState) (line : EntryLine) (commit : ObjectId) (content : Option Content) → IsOnLine e line → PlansSame v first (taking old i) → KeepsStored old file e content new (Ok tt) → KeepsLine v line first (taking new (i + 1)) (Ok (Some commit)) content
  keeps_line first line commit None on same keeps = tt
  keeps_line first line commit (Some k) on same keeps = λ cache a es own plans. kept_up k cache a es own line on keeps (same k cache a es own plans)

  pub stops_line : (first last : AdoptionState) (line : EntryLine) (content : Option Content) (why : StoreRefusal) → PlansSame v first (taking old i) → KeepsStored old file e content new (Err why) → KeepsLine v line first last (Err why) content
  stops_line first last line None why same keeps = tt
  stops_line first last line (Some k) why same keeps = λ cache a es own plans. stopped_up k cache a es own why line last keeps (same k cache a es own plans)

-- No own entry is on a line.
pub skips_line : (v : StoreState) (first last : AdoptionState) (line : EntryLine) (content : Option Content) → PlansSame v first last → KeepsLine v line first last (Ok None) content
skips_line v first last line None same = tt
skips_line v first last line (Some k) same = λ cache a es own plans. same k cache a es own plans

-- Memory ran out.
starved : (v : StoreState) (first last : AdoptionState) (line : EntryLine) (content : Option Content) → KeepsLine v line first last (Err NoMemory) content
starved v first last line None = tt
starved v first last line (Some k) = λ cache a es own plans. tt

pub starves_line : (v : StoreState) (first last : AdoptionState) (line : EntryLine) (content : Option Content) (result : Result (Option ObjectId) StoreRefusal) → result ≡ Err NoMemory → KeepsLine v line first last result content
starves_line v first last line content result is = subst (λ (r : Result (Option ObjectId) StoreRefusal). KeepsLine v line first last r content) (sym is) (starved v first last line content)

-- The commit of the last entry.
pub last_kept : (front entries : List StoredEntry) (made : StoredEntry) → entries ≡ front ++ made ∷ [] → commit_if (slice_get entries (length entries - 1)) ≡ Some made.seen.commit
last_kept front entries made is = ap (λ (l : List StoredEntry). commit_if (slice_get l (length l - 1))) is ∙ ap commit_if (last_item front made)

pub on_kept : (e made : StoredEntry) (line : EntryLine) → IsOnLine e line → KeptOf e made → IsOnLine made line
on_kept e made line on kept = record {
  kind = kept.kind ∙ on.kind;
  number = kept.number ∙ on.number;
  epoch = kept.epoch ∙ on.epoch;
  moment = kept.moment ∙ on.moment;
  blob = kept.blob ∙ on.blob;
}

pub is_kept_on : (e : StoredEntry) (line : EntryLine) (front entries : List StoredEntry) (commit : Option ObjectId) → IsOnLine e line → (made : StoredEntry) × KeptOf e made × (entries ≡ front ++ made ∷ []) → commit ≡ commit_if (slice_get entries (length entries - 1)) → IsKeptOn line commit front entries
is_kept_on e line front entries commit on made is =
    subst (λ (o : Option ObjectId). IsKeptOn line o front entries) (sym (is ∙ last_kept front entries made.0 made.2)) (made.0, on_kept e made.0 line on made.1, refl, made.2)

-- All own entries were taken: the last epoch is closed.
module _ (v : StoreState) (n : ℕ) (all : length v.entries ≤ n) (old mid : Planning) (closes : ClosesLast old old.current mid) where
  pub closes_adding : IsAdoptionOf v (taking old n) → mid.current ≡ None → AreApart mid.plans → IsAdding v (taking mid n)
  closes_adding of none apart = elim of.way [
    | inl keeping ↦ record {
      all = all;
      none = none;
      ready = epochs_ready v.root old mid keeping.plans (record { epoch = keeping.taken.epoch; from = keeping.taken.from; taken = keeping.taken.taken }) closes apart;
    }
    | inr adding ↦ (let is : mid ≡ old = subst (λ (o : Option Planned). ClosesLast old o mid) adding.none closes in subst (λ (p : Planning). IsAdding v (taking p n)) (sym is) adding)
  ]

  by_way : (k : Content) (cache : List ℕ) (a : Archive) (es : List Entry) → IsDiskWith v cache a k → IsAdding v (taking mid n) → PlansAdopted v cache a k es (taking old n) → PlansEpochs v.root cache a es mid
  by_way k cache a es own adding (inr done) =
      let is : mid ≡ old = subst (λ (o : Option Planned). ClosesLast old o mid) done.1 closes in
      subst (PlansEpochs v.root cache a es) (sym is) done.2
  by_way k cache a es own adding (inl up) =
      let size : length v.entries ≡ length a.entries = ap length own.keeps.kept ∙ length_stored a.config.form [] a.entries in
      let whole : take n a.entries ≡ a.entries = take_all n a.entries (omega (arith, all, size)) in
      let up_all = subst (λ (l : List Entry). IsKeptUpTo (texts_in k) v.root a l es old) whole up in
      let shut_so = all_shut k v cache a es old up_all mid closes in
      let t : Texts = texts_of v.root (parts_of a cache) in
      let reads : (name : FileName) → name ≢ root_name → texts_in k name ≡ t name = (λ name apart. own.on.exact.ends name apart) in
      let from : AreFrom v.root mid.plans = (λ i q here. (let may = adding.ready.may.each i q here in (may.part, may.comes))) in
      record {
        entries = shut_so.entries;
        parts = λ x. sym (by_plan t (texts_in k) v.root mid.plans kind.Epoch x (plan_of mid.plans kind.Epoch x) (bytes_in a x) refl from reads) ∙ epochs_shut k v cache a es old up_all mid closes x;
        map = shut_so.map;
        whole = λ i q here. (
            let own_file = from i q here in
            whole_same t (texts_in k) (file_by v.root q.kind q.number) q (reads (file_by v.root q.kind q.number) (part_isnt_root v.root q.kind q.number own_file.0)) own_file.1 (shut_so.whole i q here)
            );
      }

  shut_same : (finished : Option Plan) → ClosesAs (without_current old) finished mid → mid.entries ≡ old.entries
  shut_same None is = ap (λ (p : Planning). p.entries) is
  shut_same (Some plan) pushed = ap (λ (p : Planning). p.entries) pushed.0

  closed_same : (current : Option Planned) → ClosesLast old current mid → mid.entries ≡ old.entries
  closed_same None is = ap (λ (p : Planning). p.entries) is
  closed_same (Some c) done = shut_same done.0 done.3

  pub closes_adoption : (first : AdoptionState) → PlansSame v first (taking old n) → old.entries ≡ first.planned.entries → IsAdoptionOf v (taking old n) → mid.current ≡ None → AreApart mid.plans → ClosesAdoption v first (taking mid n)
  closes_adoption first same entries of none apart =
      let adding = closes_adding of none apart in
      record {
        adding = adding;
        entries = closed_same old.current closes ∙ entries;
        epochs = λ k cache a es own plans. by_way k cache a es own adding (same k cache a es own plans);
      }

-- A new entry was added.
pub added_of : (v : StoreState) (first : AdoptionState) (mid : Planning) (line : EntryLine) (text : List ℕ) (new : Planning) → InEpochs first.planned.entries → ClosesAdoption v first (taking mid (length v.entries)) → line.epoch ≤ 63 → PlansLine v.root mid line text new → IsAdoptionOf v (taking new (length v.entries))
added_of v first mid line text new low closed small added = record {
  low = subst InEpochs (sym added.added.entries)
      (each_more (λ (s : StoredEntry). s.epoch ≤ 63) mid.entries added.added.stored (subst InEpochs (sym closed.entries) low) (let same = added.added.epoch in omega (arith, small, same)));
  most = omega arith;
  way = inr (record { all = omega arith; none = added.current ∙ closed.adding.none; ready = added.ready });
}

pub added_more : (v : StoreState) (first : AdoptionState) (mid : Planning) (line : EntryLine) (text : List ℕ) (new : Planning) → ClosesAdoption v first (taking mid (length v.entries)) → PlansLine v.root mid line text new → PlansMore v line text first (taking new (length v.entries))
added_more v first mid line text new closed added = λ k cache a es own plans.
    inr (omega arith, added.current ∙ closed.adding.none, added.archive cache a es own.keeps.names (closed.epochs k cache a es own plans))

pub added_line : (form : Form) (line : EntryLine) (text : List ℕ) (first mid new : List StoredEntry) → mid ≡ first → AddsLine form line text mid new → AddsLine form line text first new
added_line form line text first mid new same added = subst (λ (l : List StoredEntry). AddsLine form line text l new) same added
