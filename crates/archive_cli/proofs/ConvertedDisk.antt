-- What `convert` does, by the calls below it.
use Rattle.std.specs.Prelude.{◌≡◌, ◌≢◌, ◌⊎◌, ◌↔◌, ◌-◌, ◌≤◌, ℕ, Bool, true, false, List, [], ◌∷◌, length, Option, Some, None, Result, Ok, Err, OnOk, refl}
use Rattle.std.proofs.Common.{◌∙◌, sym, ap, subst, inl, inr, arith}
use Rattle.arch_base.specs.Counts.{RoseIf}
use Rattle.arch_base.specs.declared.config.Config.{Config}
use Rattle.arch_base.specs.declared.ids.Form.{Form}
use Rattle.arch_base.specs.declared.ids.Form.TheVariants.{Sha1, Sha256}
use Rattle.disk_model.specs.declared.disk.Disk.{Ghosts as Disk}
use Rattle.disk_model.specs.Disk.{Files, Content, Image, WhereTold, ReadsFit}
use Rattle.disk_model.specs.Moments.{LeavesOnly, weaker}
use Rattle.root_slots.specs.OneRoot.{BeginsOneRoot}
use Rattle.root_slots.specs.Sizes.{spelling_least}
use Rattle.root_slots.specs.Spelling.{spelling}
use Rattle.arch_model.specs.Archives.{Archive}
use Rattle.arch_model.specs.Keeping.{Settles}
use Rattle.arch_model.specs.Standing.{LastKnown, standing, one_of, IsFound}
use Rattle.arch_model.specs.declared.opening.OpenRefusal.{OpenRefusal}
use Rattle.arch_model.specs.declared.opening.OpenRefusal.TheVariants as opening
use Rattle.store_finding.specs.declared.entries.StoredEntry.{StoredEntry}
use Rattle.store_finding.specs.Files.{as_read}
use Rattle.store_finding.specs.Kept.{StoreState, IsStoreWith}
use Rattle.store_finding.proofs.FrontParts.{store_keeps}
use Rattle.convert_planning.specs.Collisions.{NoneCollides, collision_of}
use Rattle.convert_planning.specs.Converting.{converted}
use Rattle.epoch_file.specs.Runs.{OnlyReads}
use Rattle.epoch_store.specs.Commands.{RecoversOneOf}
use Rattle.epoch_store.specs.Converting.{CollidesAs, ConvertsAny, GoesOnConverted, IsOfOpened, UnlessFaulted}
use Rattle.epoch_store.specs.Opens.{IsWant, OpensFiles, ReadsWith}
use Rattle.epoch_store.specs.Promises.{OpensArchive}
use Rattle.epoch_store.specs.declared.convert_refusal.ConvertRefusal.{ConvertRefusal}
use Rattle.epoch_store.specs.declared.convert_refusal.ConvertRefusal.TheVariants as converting
use Rattle.archive_core.specs.Engines.{unchanged-is}
use Rattle.archive_core.specs.Openings.{LeavesKindly}
use Rattle.archive_core.proofs.Engines.{all_or_bare, either_of, stands_for}
use Rattle.archive_core.proofs.Stored.{stored-length}
use Rattle.archive_cli.specs.Conversions.{MayConvert, RefusesConversion, SettingsRefuse, TakesConversion}
use Rattle.archive_cli.specs.DiskCommands.{ConvertsOn, ConvertsOpened, ConvertsTo, IsConversion, IsFault, IsOpenedAs, IsReadAs, LeavesConverted, RunsOrStays, StandsAs, conversion_outcome}
use Rattle.archive_cli.specs.OpenedFiles.{CommitsIfConverted, LeavesFiles, OnlySettled}
use Rattle.archive_cli.specs.declared.outcome.Outcome.{Outcome}
use Rattle.archive_cli.specs.declared.outcome.Outcome.TheVariants.{Converted, Unconverted, Unopened}
use Rattle.archive_cli.proofs.Committing.{opened-begins, rooted-over}
use Rattle.archive_cli.proofs.OnDisk.{converted-cause, found-at, now-left, one-stands, opened-leaves}

-- What a refusal to open leaves of an archive that was to be converted.
pub unopened-converts : (cache : List ℕ) (a : Archive) (why : OpenRefusal) (old new : Option Content) → ReadsWith cache a old → IsWant why → LeavesKindly why old new → ConvertsTo cache a (Unopened why) new
unopened-converts cache a opening.NoArchive old new reads want kind = absurd want
unopened-converts cache a (opening.Damaged file at) old new reads want kind = absurd want
unopened-converts cache a opening.DiskFault old new reads want kind = tt
unopened-converts cache a opening.NoMemory old new reads want kind = kind.0 a cache reads

-- The refusals by the settings, as an answer has them.
abbrev SettingsAgree : Config → Result (Unit {0}) ConvertRefusal → Type 0
SettingsAgree config (Ok done) = MayConvert config
SettingsAgree config (Err why) = SettingsRefuse config why

module _ (config : Config) (result : Result (Unit {0}) ConvertRefusal) (mirror : (result ≡ Err converting.IsMirror) ↔ (config.mirror ≡ true)) (already : (result ≡ Err converting.Already) ↔ ((config.mirror ≡ false) × (config.form ≡ Sha256))) (opened : IsOfOpened result) where
  no_mirror : result ≢ Err converting.IsMirror → (b : Bool) → config.mirror ≡ b → config.mirror ≡ false
  no_mirror other false is = is
  no_mirror other true is = absurd (other (mirror.1 is))

  old_form : result ≢ Err converting.IsMirror → result ≢ Err converting.Already → (f : Form) → config.form ≡ f → config.form ≡ Sha1
  old_form other apart Sha1 is = is
  old_form other apart Sha256 is = absurd (apart (already.1 (no_mirror other config.mirror refl, is)))

  may_convert : result ≢ Err converting.IsMirror → result ≢ Err converting.Already → MayConvert config
  may_convert other apart = (no_mirror other config.mirror refl, old_form other apart config.form refl)

  others : (why : ConvertRefusal) → result ≡ Err why → why ≢ converting.IsMirror → why ≢ converting.Already → MayConvert config
  others why is other apart = may_convert (λ same. other (err_same (sym is ∙ same))) (λ same. apart (err_same (sym is ∙ same))) where
    err_same : {x y : ConvertRefusal} → ◌≡◌ {A = Result (Unit {0}) ConvertRefusal} (Err x) (Err y) → x ≡ y
    err_same same = cc same

  settings_agree : (r : Result (Unit {0}) ConvertRefusal) → result ≡ r → SettingsAgree config r
  settings_agree (Ok done) is = may_convert (λ same. (let no : ◌≡◌ {A = Result (Unit {0}) ConvertRefusal} (Ok done) (Err converting.IsMirror) = sym is ∙ same in cc)) (λ same. (let no : ◌≡◌ {A = Result (Unit {0}) ConvertRefusal} (Ok done) (Err converting.Already) = sym is ∙ same in cc))
  settings_agree (Err converting.IsMirror) is = mirror.0 is
  settings_agree (Err converting.Already) is = already.0 is
  settings_agree (Err (converting.Collision n)) is = others (converting.Collision n) is (λ same. cc same) (λ same. cc same)
  settings_agree (Err converting.DiskFault) is = others converting.DiskFault is (λ same. cc same) (λ same. cc same)
  settings_agree (Err converting.NoMemory) is = others converting.NoMemory is (λ same. cc same) (λ same. cc same)
  settings_agree (Err (converting.Damaged file at)) is = others (converting.Damaged file at) is (λ same. cc same) (λ same. cc same)
  settings_agree (Err (converting.Open why)) is = subst (λ (r : Result (Unit {0}) ConvertRefusal). IsOfOpened r) is opened

module _ {D : Type 0} (g : Disk D)
    (counts_now : (disk : D) (t : ℕ) (image : Files) → t ≤ g.moment disk → Image (g.content disk) image → g.left_since disk t image)
    (reads_fit : (disk : D) → ReadsFit (g.content disk))
    (old opened new : D) (v : StoreState) (opens : OpensArchive g old opened (Ok v)) (o : Outcome) (did : ConvertsOpened g v opened new o) where
  agree : SettingsAgree v.root.config did.result
  agree = settings_agree v.root.config did.result did.mirror did.already did.changes.opened did.result refl

  -- The disk of the archive that was found, if nothing was written.
  unwritten : (a : Archive) (cache : List ℕ) → OnlyReads g opened new → ReadsWith cache a (g.content old) → IsStoreWith v cache a (g.content new)
  unwritten a cache only reads = subst (IsStoreWith v cache a) (sym (unchanged-is (g.content opened) (g.content new) only.same)) (opens.done a cache reads)

  untouched : (why : ConvertRefusal) → did.result ≡ Err why → UnlessFaulted {T = Unit {0}} (Err why) (OnlyReads g opened new)
  untouched why is = subst (λ (r : Result (Unit {0}) ConvertRefusal). UnlessFaulted r (OnlyReads g opened new)) is did.changes.untouched

  -- Its settings allow it, or nothing was written.
  may_or_looked : (r : Result (Unit {0}) ConvertRefusal) → did.result ≡ r → MayConvert v.root.config ⊎ OnlyReads g opened new
  may_or_looked (Ok done) is = inl (subst (SettingsAgree v.root.config) is agree)
  may_or_looked (Err converting.IsMirror) is = inr (untouched converting.IsMirror is)
  may_or_looked (Err converting.Already) is = inr (untouched converting.Already is)
  may_or_looked (Err (converting.Collision n)) is = inl (subst (SettingsAgree v.root.config) is agree)
  may_or_looked (Err converting.DiskFault) is = inl (subst (SettingsAgree v.root.config) is agree)
  may_or_looked (Err converting.NoMemory) is = inl (subst (SettingsAgree v.root.config) is agree)
  may_or_looked (Err (converting.Damaged file at)) is = inl (subst (SettingsAgree v.root.config) is agree)
  may_or_looked (Err (converting.Open why)) is = absurd (subst (SettingsAgree v.root.config) is agree)

  -- The archive is one that is converted, if its settings allow it and none collides.
  takes : (a : Archive) (cache : List ℕ) → IsStoreWith v cache a (g.content opened) → MayConvert v.root.config → collision_of Sha256 a ≡ None → TakesConversion a
  takes a cache own may none = (subst MayConvert (store_keeps v cache a (g.content opened) own).names.config may, none)

  done_takes : (a : Archive) (cache : List ℕ) → IsStoreWith v cache a (g.content opened) → (done : Unit {0}) → did.result ≡ Ok done → TakesConversion a
  done_takes a cache own done is = takes a cache own (subst (SettingsAgree v.root.config) is agree) (subst (λ (r : Result (Unit {0}) ConvertRefusal). CollidesAs Sha256 a r) is (did.collision a cache own))

  -- The converted archive is left only of such a one, as it is valid.
  left : NoneCollides → (a : Archive) (cache : List ℕ) → IsStoreWith v cache a (g.content opened) → LeavesOnly g opened new (LeavesConverted cache a)
  left collisions a cache own = elim (may_or_looked did.result refl) [
    | inl may ↦ weaker g opened new (RecoversOneOf cache a [] (converted Sha256 a)) (LeavesConverted cache a) (did.changes.crash a cache own tt) (λ image either. elim either [
      | inl one ↦ inl one
      | inr other ↦ inr (takes a cache own may ((collisions Sha256 a (store_keeps v cache a (g.content opened) own).valid).1 other.1.valid.blobs), other)
    ])
    | inr only ↦ weaker g opened new (Image (g.content opened)) (LeavesConverted cache a) only.crash (λ image now. inl (stands_for v cache a (g.content opened) image own now))
  ]

  pub conversion-runs : NoneCollides → RunsOrStays g old new LeavesConverted
  conversion-runs collisions = opened-leaves g counts_now reads_fit old opened v opens.done opens.first new LeavesConverted (λ cache a image one. inl one) (left collisions) opens.answer

  -- How it ended on the archive's own disk.
  module _ (a : Archive) (cache : List ℕ) (reads : ReadsWith cache a (g.content old)) where
    own : IsStoreWith v cache a (g.content opened)
    own = opens.done a cache reads

    config_is : v.root.config ≡ a.config
    config_is = (store_keeps v cache a (g.content opened) own).names.config

    count_is : length v.entries ≡ length a.entries
    count_is = ap (λ (es : List StoredEntry). length es) (store_keeps v cache a (g.content opened) own).kept ∙ stored-length a.config.form [] a.entries

    refused : (why : ConvertRefusal) → did.result ≡ Err why → RefusesConversion a why
    refused why is = (
      subst (λ (c : Config). SettingsRefuse c why) config_is (subst (SettingsAgree v.root.config) is agree),
      subst (λ (r : Result (Unit {0}) ConvertRefusal). CollidesAs Sha256 a r) is (did.collision a cache own),
    )

    ends : (r : Result (Unit {0}) ConvertRefusal) → did.result ≡ r → ConvertsTo cache a (conversion_outcome (length v.entries) r) (g.content new)
    ends (Ok done) is = (
      done_takes a cache own done is,
      count_is,
      (did.made, subst (λ (r : Result (Unit {0}) ConvertRefusal). OnOk r (IsStoreWith did.made [] (converted Sha256 a) (g.content new))) is (did.changes.done a cache own tt)),
    )
    ends (Err converting.DiskFault) is = subst MayConvert config_is (subst (SettingsAgree v.root.config) is agree)
    ends (Err converting.IsMirror) is = (refused converting.IsMirror is, (v, unwritten a cache (untouched converting.IsMirror is) reads))
    ends (Err converting.Already) is = (refused converting.Already is, (v, unwritten a cache (untouched converting.Already is) reads))
    ends (Err (converting.Collision n)) is = (refused (converting.Collision n) is, (v, unwritten a cache (untouched (converting.Collision n) is) reads))
    ends (Err converting.NoMemory) is = (refused converting.NoMemory is, (v, unwritten a cache (untouched converting.NoMemory is) reads))
    ends (Err (converting.Damaged file at)) is = (refused (converting.Damaged file at) is, (v, unwritten a cache (untouched (converting.Damaged file at) is) reads))
    ends (Err (converting.Open why)) is = (refused (converting.Open why) is, (v, unwritten a cache (untouched (converting.Open why) is) reads))

    pub conversion-ends : ConvertsTo cache a o (g.content new)
    conversion-ends = subst (λ (p : Outcome). ConvertsTo cache a p (g.content new)) (sym did.outcome) (ends did.result refl)

  -- For what the disk stands then.
  module _ (collisions : NoneCollides) (s : LastKnown) (cache : List ℕ) (all : StandsAs cache s (g.content old)) where
    abbrev Left : Result (Unit {0}) ConvertRefusal → Type 0
    Left r = (t : LastKnown) × StandsAs cache t (g.content new) × ConvertsOn s (g.content old) (conversion_outcome (length v.entries) r) t

    module _ (b : Archive) (own : List ℕ) (found : IsFound s b) (reads : ReadsWith own b (g.content old)) (kept : (own ≡ cache) ⊎ (own ≡ [])) where
      stays : OnlyReads g opened new → (t : LastKnown) × StandsAs cache t (g.content new) × (Settles s t × IsReadAs t.archive (g.content old))
      stays only = (
        standing b None,
        one-stands g counts_now reads_fit b own cache kept new (λ image now. stands_for v own b (g.content new) image (unwritten b own only reads) now),
        (record { found = found; sure = refl }, (own, reads)),
      )

      abbrev unsure : LastKnown
      unsure = standing b (Some (converted Sha256 b))

      -- After a fault it is in doubt, unless messages collide.
      doubts : did.result ≡ Err converting.DiskFault → (c : Option ℕ) → collision_of Sha256 b ≡ c → Left (Err converting.DiskFault)
      doubts is None none = (
        unsure,
        all_or_bare unsure cache (g.content new) (λ image now. either_of own [] cache (one_of unsure) b (converted Sha256 b) image kept (inr refl) (0, omega arith, refl) (1, omega arith, refl) (now-left g counts_now reads_fit opened new (RecoversOneOf own b [] (converted Sha256 b)) (did.changes.crash b own (opens.done b own reads) tt) image now)),
        record { found = b; is_found = found; reads = (own, reads); stands = inr (takes b own (opens.done b own reads) (subst (SettingsAgree v.root.config) is agree) none, refl) },
      )
      doubts is (Some n) some = (
        standing b None,
        one-stands g counts_now reads_fit b own cache kept new (λ image now. elim (now-left g counts_now reads_fit opened new (LeavesConverted own b) (left collisions b own (opens.done b own reads)) image now) [
          | inl one ↦ one
          | inr other ↦ absurd (let wrong : None ≡ Some n = sym other.0.1 ∙ some in cc)
        ]),
        record { found = b; is_found = found; reads = (own, reads); stands = inl refl },
      )

      leads : (r : Result (Unit {0}) ConvertRefusal) → did.result ≡ r → Left r
      leads (Ok done) is =
          let store = subst (λ (r : Result (Unit {0}) ConvertRefusal). OnOk r (IsStoreWith did.made [] (converted Sha256 b) (g.content new))) is (did.changes.done b own (opens.done b own reads) tt) in (
            standing (converted Sha256 b) None,
            one-stands g counts_now reads_fit (converted Sha256 b) [] cache (inr refl) new (λ image now. stands_for did.made [] (converted Sha256 b) (g.content new) image store now),
            record { found = b; is_found = found; reads = (own, reads); stands = (done_takes b own (opens.done b own reads) done is, refl) },
          )
      leads (Err converting.DiskFault) is = doubts is (collision_of Sha256 b) refl
      leads (Err converting.IsMirror) is = stays (untouched converting.IsMirror is)
      leads (Err converting.Already) is = stays (untouched converting.Already is)
      leads (Err (converting.Collision n)) is = stays (untouched (converting.Collision n) is)
      leads (Err converting.NoMemory) is = stays (untouched converting.NoMemory is)
      leads (Err (converting.Damaged file at)) is = stays (untouched (converting.Damaged file at) is)
      leads (Err (converting.Open why)) is = stays (untouched (converting.Open why) is)

    pub conversion-stands : (t : LastKnown) × StandsAs cache t (g.content new) × ConvertsOn s (g.content old) o t
    conversion-stands =
        let (b, own, found, reads, kept) = found-at g counts_now reads_fit s cache old all in
        subst (λ (p : Outcome). (t : LastKnown) × StandsAs cache t (g.content new) × ConvertsOn s (g.content old) p t) (sym did.outcome) (leads b own found reads kept did.result refl)

  -- What is said of whatever the files held.
  as_opened : (k : Option Content) → WhereTold (λ (c : Content). OpensFiles (as_read c) (Ok v)) k → (r : Result (Unit {0}) ConvertRefusal) → SettingsAgree v.root.config r → WhereTold (λ (c : Content). IsOpenedAs (as_read c) (conversion_outcome (length v.entries) r)) k
  as_opened None answer r settings = tt
  as_opened (Some k) answer (Ok done) settings = (v, answer, refl, settings)
  as_opened (Some k) answer (Err why) settings = (v, answer, settings)

  pub conversion-answer : WhereTold (λ (c : Content). IsOpenedAs (as_read c) o) (g.content old)
  conversion-answer = subst (λ (p : Outcome). WhereTold (λ (c : Content). IsOpenedAs (as_read c) p) (g.content old)) (sym did.outcome) (as_opened (g.content old) opens.answer did.result agree)

  settled : OnlyReads g opened new → OnlySettled (g.content old) (g.content new)
  settled only = subst (λ (k : Option Content). OnlySettled (g.content old) k) (sym (unchanged-is (g.content opened) (g.content new) only.same)) (v, opens.answer, opens.kept, opens.done, opens.settled)

  kept_files : (r : Result (Unit {0}) ConvertRefusal) → did.result ≡ r → LeavesFiles (conversion_outcome (length v.entries) r) (g.content old) (g.content new)
  kept_files (Ok done) is = tt
  kept_files (Err converting.DiskFault) is = tt
  kept_files (Err converting.IsMirror) is = settled (untouched converting.IsMirror is)
  kept_files (Err converting.Already) is = settled (untouched converting.Already is)
  kept_files (Err (converting.Collision n)) is = settled (untouched (converting.Collision n) is)
  kept_files (Err converting.NoMemory) is = settled (untouched converting.NoMemory is)
  kept_files (Err (converting.Damaged file at)) is = settled (untouched (converting.Damaged file at) is)
  kept_files (Err (converting.Open why)) is = settled (untouched (converting.Open why) is)

  pub conversion-files : LeavesFiles o (g.content old) (g.content new)
  conversion-files = subst (λ (p : Outcome). LeavesFiles p (g.content old) (g.content new)) (sym did.outcome) (kept_files did.result refl)

  commits : (r : Result (Unit {0}) ConvertRefusal) → did.result ≡ r → CommitsIfConverted (conversion_outcome (length v.entries) r) (g.content old) (g.content new)
  commits (Err why) is = tt
  commits (Ok done) is =
      let all : ConvertsAny g opened new v did.made Sha256 (Ok done) = subst (ConvertsAny g opened new v did.made Sha256) is did.changes in (
        v,
        opens.answer,
        record {
          made = did.made;
          kept = tt;
          root = all.goes_on;
          slot = all.slot;
          rooted = rooted-over v did.made.slot (spelling did.made.root) (g.content old) (g.content opened) (g.content new) all.slot (spelling_least did.made.root) opens.answer opens.kept all.rooted;
          settled = all.settled;
        },
      )

  pub conversion-commits : CommitsIfConverted o (g.content old) (g.content new)
  conversion-commits = subst (λ (p : Outcome). CommitsIfConverted p (g.content old) (g.content new)) (sym did.outcome) (commits did.result refl)

  pub conversion-begins : BeginsOneRoot g old new
  conversion-begins = opened-begins g v old opened new (reads_fit old) opens.answer opens.kept opens.settled opens.crash_root did.changes.crash_root

  pub conversion-cause : RoseIf (IsFault o) (g.faults old) (g.faults new)
  conversion-cause = converted-cause (g.faults old) (g.faults opened) (g.faults new) (length v.entries) did.result o did.outcome (opens.cause.kept (λ fault. absurd (cc fault))) did.changes.cause

  kind_of : (r : Result (Unit {0}) ConvertRefusal) → IsConversion (conversion_outcome (length v.entries) r)
  kind_of (Ok done) = tt
  kind_of (Err why) = tt

  pub conversion-kind : IsConversion o
  conversion-kind = subst IsConversion (sym did.outcome) (kind_of did.result)
