-- The epochs of a root, read one after the other: each is whole, or the first that is damaged.
use Rattle.std.specs.Prelude.{◌≡◌, ◌≢◌, ◌⊎◌, ◌+◌, ◌<◌, ◌==◌, ◌^◌, ℕ, zero, suc, false, List, [], ◌∷◌, ◌++◌, length, take, map, Option, Some, None, refl}
use Rattle.std.specs.List.{AllByRecursion}
use Rattle.std.proofs.Common.{◌∙◌, sym, ap, subst, inl, inr, arith, append_assoc, length-append}
use Rattle.std.proofs.lemmas.List.{append-nil, length-map, length-take, nil_from_length}
use Rattle.std.proofs.lemmas.List.Elements.{filter-append}
use Rattle.std.proofs.lemmas.Bool.Decides.{nat_tests}
use borrow.Author.Count.{below_more}
use Rattle.arch_base.specs.declared.ids.ObjectId.{ObjectId}
use Rattle.arch_base.specs.declared.ids.Form.{Form}
use Rattle.disk_model.specs.Disk.{Files, File, bytes_of}
use Rattle.arch_model.specs.Archives.{Entry, in_epoch}
use Rattle.mail_commits.specs.Entries.{magic}
use Rattle.arch_model.specs.Epochs.{epoch_bytes, entries_bytes, last_commit}
use Rattle.number_map.specs.declared.line.Record.{Record}
use Rattle.epoch_file.specs.declared.entry.Seen.{Seen}
use Rattle.epoch_file.specs.Entries.{EntriesDiffer, EpochEntry, IsEpochEntry, AreEpochEntries, bytes_after, commit_after, chain, last_of, epoch_of}
use Rattle.epoch_file.specs.Walking.{IsEpoch, EndsEarly}
use Rattle.root_slots.specs.declared.root.Root.{Root}
use Rattle.root_change.specs.Texts.{Fronts}
use Rattle.store_finding.specs.Files.{epoch_file_of}
use Rattle.arch_model.specs.Validity.{IsEntry}
use Rattle.store_finding.specs.Kept.{in_file}
use Rattle.store_finding.specs.Damage.{AreFirst, named_length, named_bytes, AreWhole, LacksNext}
use Rattle.store_finding.specs.Joined.{JoinedEntries, AreJoined, StopsAt}
use Rattle.arch_model.proofs.ValidArchives.{all_weaker}
use Rattle.store_finding.proofs.Magics.{magic_length}
use Rattle.store_finding.proofs.Firsts.{all_last}
use Rattle.store_finding.proofs.Joins.{all_joined, only_here}

-- The bytes of entries are those of their records in the file.
pub chain_of : (form : Form) (parent : Option ObjectId) (es : List Entry) → entries_bytes form parent es ≡ chain form parent (map in_file es)
chain_of form parent [] = refl
chain_of form parent (e ∷ es) = ap (λ (b : List ℕ). bytes_after form parent (in_file e) ++ b) (chain_of form (Some (commit_after form parent (in_file e))) es)

pub last_is : (form : Form) (parent : Option ObjectId) (es : List Entry) → last_commit form parent es ≡ last_of form parent (map in_file es)
last_is form parent [] = refl
last_is form parent (e ∷ es) = last_is form (Some (commit_after form parent (in_file e))) es

-- The bytes of two lists of entries, one after the other.
pub chain_joined : (form : Form) (parent : Option ObjectId) (xs ys : List EpochEntry) → chain form parent (xs ++ ys) ≡ chain form parent xs ++ chain form (last_of form parent xs) ys
chain_joined form parent [] ys = refl
chain_joined form parent (x ∷ xs) ys =
    let next : Option ObjectId = Some (commit_after form parent x) in
    ap (λ (b : List ℕ). bytes_after form parent x ++ b) (chain_joined form next xs ys) ∙ sym (append_assoc (bytes_after form parent x) (chain form next xs) (chain form (last_of form next xs) ys))

-- The last of valid entries, and the one after some.
pub valid_after : (xs : List EpochEntry) (y : EpochEntry) (ys : List EpochEntry) → AreEpochEntries (xs ++ y ∷ ys) → IsEpochEntry y
valid_after [] y ys valid = valid.0
valid_after (x ∷ xs) y ys valid = valid_after xs y ys valid.1

pub file_valid : (e : Entry) → IsEntry e → IsEpochEntry (in_file e)
file_valid e valid = record { text = valid.text; moment = valid.moment }

-- The entries of an epoch are not changed by those of others.
pub none_apart : (es : List Entry) (epoch : ℕ) → AllByRecursion (λ (e : Entry). e.epoch ≢ epoch) es → in_epoch es epoch ≡ []
none_apart [] epoch all = refl
none_apart (e ∷ es) epoch all =
    let test : (e.epoch == epoch) ≡ false = (let apart : e.epoch ≢ epoch = all.0 in grind (arith, nat_tests)) in
    rw test (none_apart es epoch all.1)

not_here : (others more : List Entry) (epoch other : ℕ) → other < epoch → AllByRecursion (λ (e : Entry). e.epoch ≡ epoch) more → in_epoch (others ++ more) other ≡ in_epoch others other
not_here others more epoch other less stand =
    filter-append (λ (e : Entry). e.epoch == other) others more
    ∙ (ap (λ (l : List Entry). in_epoch others other ++ l) (none_apart more other (all_weaker (λ (e : Entry). e.epoch ≡ epoch) _ more (λ e same is. absurd (omega (arith, same, is, less))) stand)) ∙ append-nil (in_epoch others other))

-- The bytes of an epoch that has an entry.
some_bytes : (form : Form) (more : List Entry) → 0 < length more → epoch_bytes form more ≡ magic form ++ entries_bytes form None more
some_bytes form [] some = absurd (omega (arith, some))
some_bytes form (e ∷ es) some = refl

-- One more epoch is whole.
pub whole_more : (root : Root) (files : Files) (epoch : ℕ) (others more : List Entry) → AreWhole root files epoch others → AllByRecursion (λ (e : Entry). e.epoch ≡ epoch) more
    → named_length root epoch ≡ length (epoch_bytes root.config.form more) → Fronts (epoch_bytes root.config.form more) (files (epoch_file_of root epoch)) → AreWhole root files (epoch + 1) (others ++ more)
whole_more root files epoch others more whole stand long front =
    let all = others ++ more in
    let here : in_epoch all epoch ≡ more = only_here others more epoch whole.below stand in
    record {
      below = all_joined (λ (e : Entry). e.epoch < epoch + 1) others more
          (all_weaker (λ (e : Entry). e.epoch < epoch) (λ (e : Entry). e.epoch < epoch + 1) others (λ e less. omega (arith, less)) whole.below)
          (all_weaker (λ (e : Entry). e.epoch ≡ epoch) (λ (e : Entry). e.epoch < epoch + 1) more (λ e same. omega (arith, same)) stand);
      lengths = below_more (λ (e : ℕ). named_length root e ≡ length (epoch_bytes root.config.form (in_epoch all e))) epoch
          (λ e less. whole.lengths e less ∙ ap (λ (l : List Entry). length (epoch_bytes root.config.form l)) (sym (not_here others more epoch e less stand)))
          (long ∙ ap (λ (l : List Entry). length (epoch_bytes root.config.form l)) (sym here));
      fronts = below_more (λ (e : ℕ). Fronts (epoch_bytes root.config.form (in_epoch all e)) (files (epoch_file_of root e))) epoch
          (λ e less. subst (λ (l : List Entry). Fronts (epoch_bytes root.config.form l) (files (epoch_file_of root e))) (sym (not_here others more epoch e less stand)) (whole.fronts e less))
          (subst (λ (l : List Entry). Fronts (epoch_bytes root.config.form l) (files (epoch_file_of root epoch))) (sym here) front);
    }

-- Bytes that a file starts with.
pub fronts_by : (n : ℕ) (bytes : List ℕ) (file : File) → take n (bytes_of file) ≡ bytes → n ≡ length bytes → Fronts bytes file
fronts_by n bytes file is size =
    let long = length-take n (bytes_of file) in
    let same : length (take n (bytes_of file)) ≡ length bytes = ap (λ (b : List ℕ). length b) is in
    record { long = omega (arith, long, same, size); front = ap (λ (m : ℕ). take m (bytes_of file)) (sym size) ∙ is }

-- An epoch that a walk read and whose entries were all joined is whole.
pub walked_whole : (root : Root) (files : Files) (epoch : ℕ) (others : List Entry) (rs : List Record) (new : JoinedEntries) (seen : List Seen) → AreWhole root files epoch others
    → (walked : IsEpoch root.config.form (named_length root epoch) (bytes_of (files (epoch_file_of root epoch))) seen) → (joined : AreJoined root.config.form new rs others epoch walked.entries) → AreWhole root files (epoch + 1) (others ++ joined.more)
walked_whole root files epoch others rs new seen whole walked joined =
    let form = root.config.form in
    let count = walked.some in
    let files_are : length walked.entries ≡ length joined.more = ap (λ (l : List EpochEntry). length l) joined.are ∙ length-map joined.more in_file in
    let bytes : epoch_of form walked.entries ≡ epoch_bytes form joined.more =
    ap (λ (l : List EpochEntry). magic form ++ chain form None l) joined.are ∙ (ap (λ (b : List ℕ). magic form ++ b) (sym (chain_of form None joined.more)) ∙ sym (some_bytes form joined.more (omega (arith, count, files_are)))) in
    let long : named_length root epoch ≡ length (epoch_bytes form joined.more) = walked.whole ∙ ap (λ (b : List ℕ). length b) bytes in
    whole_more root files epoch others joined.more whole joined.stand long
    (fronts_by (named_length root epoch) (epoch_bytes form joined.more) (files (epoch_file_of root epoch)) (walked.spelled ∙ bytes) long)

-- An epoch of length 0 is whole.
pub empty_whole : (root : Root) (files : Files) (epoch : ℕ) (others : List Entry) → AreWhole root files epoch others → named_length root epoch ≡ 0 → AreWhole root files (epoch + 1) others
empty_whole root files epoch others whole none =
    subst (AreWhole root files (epoch + 1)) (append-nil others) (whole_more root files epoch others [] whole tt none (record { long = omega arith; front = refl }))

-- An entry has a byte.
pub entry_some : (form : Form) (parent : Option ObjectId) (e : EpochEntry) → bytes_after form parent e ≢ []
unfolding Rattle.mail_commits.specs.Entries.entry_bytes
entry_some form parent e is = absurd (cc)

-- An epoch in which a walk ended early, and whose entries up to there were all joined, is damaged
-- there.
pub early_next : (root : Root) (files : Files) (epoch offset : ℕ) (others more : List Entry) (rs after : List Record) → AreWhole root files epoch others → AllByRecursion (λ (e : Entry). e.epoch ≡ epoch) more
    → AreFirst root.config.form rs after (others ++ more) → (ends : EndsEarly root.config.form (named_length root epoch) (bytes_of (files (epoch_file_of root epoch))) offset) → ends.entries ≡ map in_file more → LacksNext root files rs epoch offset
early_next root files epoch offset others more rs after whole stand first ends are =
    let form = root.config.form in
    let chains : chain form None ends.entries ≡ entries_bytes form None more = ap (chain form None) are ∙ sym (chain_of form None more) in
    let parents : last_of form None ends.entries ≡ last_commit form None more = ap (last_of form None) are ∙ sym (last_is form None more) in
    record {
      before = others;
      here = more;
      after = after;
      rest = ends.rest;
      first = first;
      whole = whole;
      stand = stand;
      spelled = ends.spelled ∙ ap (λ (b : List ℕ). (magic form ++ b) ++ ends.rest) chains;
      offset_is = ends.offset_is ∙ ap (λ (b : List ℕ). 8 + length b) chains;
      wanted = elim ends.wanted [ inl none ↦ inl (nil_from_length more (sym (length-map more in_file) ∙ ap (λ (l : List EpochEntry). length l) (sym are ∙ none))) | inr less ↦ inr less ];
      lacks = λ next left tail same valid is.
          ends.lacks (in_file next) tail (file_valid next (all_last IsEntry (others ++ more) next valid.valid)) (is ∙ ap (λ (p : Option ObjectId). bytes_after form p (in_file next) ++ tail) (sym parents));
    }

-- An epoch whose entries could not all be joined is damaged at the first that could not.
pub stops_next : EntriesDiffer → (root : Root) (files : Files) (epoch offset : ℕ) (others : List Entry) (rs : List Record) (here : List EpochEntry) (after : List ℕ) → named_length root epoch < 2 ^ 64
    → AreWhole root files epoch others → AreEpochEntries here → named_bytes root files epoch ≡ epoch_of root.config.form here ++ after → StopsAt root.config.form rs others epoch here offset → LacksNext root files rs epoch offset
stops_next differ root files epoch offset others rs here after short whole valid spelled stops =
    let form = root.config.form in
    let parent = last_commit form None stops.more in
    let wrong = bytes_after form parent stops.wrong in
    let tail = chain form (Some (commit_after form parent stops.wrong)) stops.rest in
    let parents : last_of form None (map in_file stops.more) ≡ parent = sym (last_is form None stops.more) in
    let chains : chain form None here ≡ entries_bytes form None stops.more ++ (wrong ++ tail) =
    ap (chain form None) stops.are ∙ (chain_joined form None (map in_file stops.more) (stops.wrong ∷ stops.rest)
    ∙ (ap (λ (b : List ℕ). b ++ chain form (last_of form None (map in_file stops.more)) (stops.wrong ∷ stops.rest)) (sym (chain_of form None stops.more))
    ∙ ap (λ (p : Option ObjectId). entries_bytes form None stops.more ++ chain form p (stops.wrong ∷ stops.rest)) parents)) in
    let rest = wrong ++ (tail ++ after) in
    let split : named_bytes root files epoch ≡ (magic form ++ entries_bytes form None stops.more) ++ rest =
    spelled ∙ (ap (λ (b : List ℕ). (magic form ++ b) ++ after) chains ∙ (ap (λ (b : List ℕ). b ++ after) (sym (append_assoc (magic form) (entries_bytes form None stops.more) (wrong ++ tail)))
    ∙ (append_assoc (magic form ++ entries_bytes form None stops.more) (wrong ++ tail) after ∙ ap (λ (b : List ℕ). (magic form ++ entries_bytes form None stops.more) ++ b) (append_assoc wrong tail after)))) in
    let size : length (named_bytes root files epoch) ≡ length ((magic form ++ entries_bytes form None stops.more) ++ rest) = ap (λ (b : List ℕ). length b) split in
    let most = length-take (named_length root epoch) (bytes_of (files (epoch_file_of root epoch))) in
    let front = length-append (magic form ++ entries_bytes form None stops.more) rest in
    let head = length-append (magic form) (entries_bytes form None stops.more) in
    let step = length-append wrong (tail ++ after) in
    let is = stops.offset_is in
    let valid_wrong : IsEpochEntry stops.wrong = valid_after (map in_file stops.more) stops.wrong stops.rest (subst AreEpochEntries stops.are valid) in
    record {
      before = others;
      here = stops.more;
      after = stops.after;
      rest = rest;
      first = stops.first;
      whole = whole;
      stand = stops.stand;
      spelled = split;
      offset_is = is;
      wanted = inr (elim (zero_or_not (length wrong)) [ inl none ↦ absurd (entry_some form parent stops.wrong (nil_from_length wrong none)) | inr some ↦ omega (arith, size, most, front, head, magic_length form, step, is, some) ]);
      lacks = λ next left more same first stands.
          let one = differ form parent stops.wrong (in_file next) (tail ++ after) more valid_wrong (file_valid next (all_last IsEntry (others ++ stops.more) next first.valid)) (omega (arith, size, most, front, short)) stands in
          stops.no_next next left same (sym one.0) first;
    } where
      zero_or_not : (n : ℕ) → (n ≡ 0) ⊎ (0 < n)
      zero_or_not zero = inl refl
      zero_or_not (suc n) = inr (omega arith)
