-- The list of a valid archive is valid.
use Rattle.std.proofs.Common.{◌⊎◌, inl, inr, ◌≡◌, ◌≢◌, ◌+◌, ◌≤◌, ◌<◌, ◌==◌, ℕ, Bool, true, false, List, [], ◌∷◌, ◌++◌, length, Some, None, refl, sym, ap, subst, ◌∙◌, arith, if◌then◌else◌}
use Rattle.std.specs.List.{AllByRecursion}
use Rattle.std.proofs.lemmas.Bool.{cases_eq}
use Rattle.std.proofs.lemmas.Bool.Decides.{nat_tests}
use Rattle.arch_base.specs.declared.ids.Form.{Form}
use Rattle.arch_base.specs.Ids.{IsObjectId}
use Rattle.git_objects.specs.declared.entry_kind.EntryKind.{EntryKind}
use Rattle.git_objects.specs.declared.entry_kind.EntryKind.TheVariants.{Message, Deletion}
use Rattle.git_objects.specs.Objects.{blob_id_of}
use Rattle.git_objects.proofs.ObjectIds.{IsObjectId-id_of}
use Rattle.mail_commits.specs.Entries.{commit_id, commit_text}
use Rattle.thread_model.specs.Members.{Among}
use Rattle.arch_model.specs.declared.line.EntryLine.{EntryLine}
use Rattle.arch_model.specs.Archives.{Entry, message, deletion, live, text_of, in_epoch}
use Rattle.arch_model.specs.Epochs.{last_commit}
use Rattle.arch_model.specs.Shelves.{line_after, lines_after}
use Rattle.arch_model.specs.Validity.{IsEntry, NumberIsFrom, number_after, Rise, AtEachPlace, EndsLive, BlobsAgree}
use Rattle.arch_model.proofs.LiveEntries.{live-message, live-deletion, without, text-without-other, text-without-own}
use Rattle.arch_model.proofs.ValidArchives.{all_after, all_weaker}
use Rattle.arch_model.proofs.Shelving.{lines_after-push}
use Rattle.mirror_wire.specs.Rules.{NumberMayFollow, MayFollow, EachMayFollow}
use Rattle.mirror_wire.specs.Laws.{ListsAreValid}
use Rattle.mirror_wire.proofs.Among.{all-among, among-before, among-last}

-- A commit's id is one of its form.
commit-valid : (form : Form) (before : List Entry) (e : Entry) → IsObjectId form (line_after form before e).commit
unfolding commit_id
commit-valid form before e = IsObjectId-id_of form (commit_text form e.kind e.text e.moment (last_commit form None (in_epoch before e.epoch)))

-- What each entry has, each line has.
lines-all : (form : Form) (P : Entry → Type 0) (Q : EntryLine → Type 0) → ((before : List Entry) (e : Entry) → P e → Q (line_after form before e)) → (before es : List Entry) → AllByRecursion P es → AllByRecursion Q (lines_after form before es)
lines-all form P Q gives before [] all = tt
lines-all form P Q gives before (e ∷ es) all = (gives before e all.0, lines-all form P Q gives (before ++ e ∷ []) es all.1)

-- The line of one of some entries.
pub record HasLine (form : Form) (lines : List EntryLine) (e : Entry) : Type 0 where
  pub before : List Entry
  pub there : Among lines (line_after form before e)

line-there : (form : Form) (before es : List Entry) (e : Entry) → Among es e → HasLine form (lines_after form before es) e
line-there form before [] e among = absurd among
line-there form before (x ∷ xs) e (inl is) = record { before = before; there = inl (ap (line_after form before) is) }
line-there form before (x ∷ xs) e (inr more) = let later = line-there form (before ++ x ∷ []) xs e more in record { before = later.before; there = inr later.there }

-- A live number is that of a message among the entries, and of no deletion.
pub record LiveThere (es : List Entry) (n : ℕ) (text : List ℕ) : Type 0 where
  pub entry : Entry
  pub there : Among es entry
  pub kind : entry.kind ≡ Message
  pub number : entry.number ≡ n
  pub text_is : entry.text ≡ text
  pub stays : AllByRecursion (λ (e : Entry). e.kind ≡ Deletion → e.number ≢ n) es

found-step : (t : Bool) (e : Entry) (n : ℕ) (text : List ℕ) → (e.number == n) ≡ t → (if t then Some e.text else None) ≡ Some text → (e.number ≡ n) × (e.text ≡ text)
found-step true e n text test is = (grind (arith, nat_tests, test), cc)
found-step false e n text test is = absurd (cc)

over-step : (t : Bool) (x e : Entry) (xs : List Entry) (n : ℕ) (text : List ℕ) → (text_of (xs ++ e ∷ []) n ≡ Some text → (text_of xs n ≡ Some text) ⊎ ((e.number ≡ n) × (e.text ≡ text)))
    → (if t then Some x.text else text_of (xs ++ e ∷ []) n) ≡ Some text → ((if t then Some x.text else text_of xs n) ≡ Some text) ⊎ ((e.number ≡ n) × (e.text ≡ text))
over-step true x e xs n text rest is = inl is
over-step false x e xs n text rest is = rest is

-- What is found with one more entry.
text-push : (xs : List Entry) (e : Entry) (n : ℕ) (text : List ℕ) → text_of (xs ++ e ∷ []) n ≡ Some text → (text_of xs n ≡ Some text) ⊎ ((e.number ≡ n) × (e.text ≡ text))
text-push [] e n text is = inr (found-step (e.number == n) e n text refl is)
text-push (x ∷ xs) e n text is = over-step (x.number == n) x e xs n text (text-push xs e n text) is

-- The live entries with one more entry.
live-more : (es : List Entry) (e : Entry) → e.kind ≡ Message → live (es ++ e ∷ []) ≡ live es ++ e ∷ []
live-more es e kind =
    let same : e ≡ message e.number e.epoch e.text e.moment = λ i. record { kind = kind i; number = e.number; epoch = e.epoch; text = e.text; moment = e.moment } in
    subst (λ (x : Entry). live (es ++ x ∷ []) ≡ live es ++ x ∷ []) (sym same) (live-message es e.number e.epoch e.text e.moment)

live-less : (es : List Entry) (e : Entry) → e.kind ≡ Deletion → live (es ++ e ∷ []) ≡ without e.number (live es)
live-less es e kind =
    let same : e ≡ deletion e.number e.epoch e.text e.moment = λ i. record { kind = kind i; number = e.number; epoch = e.epoch; text = e.text; moment = e.moment } in
    subst (λ (x : Entry). live (es ++ x ∷ []) ≡ without e.number (live es)) (sym same) (live-deletion es e.number e.epoch e.text e.moment)

-- All live numbers are there.
abbrev LiveAreThere : List Entry → Type 0
LiveAreThere es = (n : ℕ) (text : List ℕ) → text_of (live es) n ≡ Some text → LiveThere es n text

-- One that was there, with an entry that doesn't end it.
kept-there : (es : List Entry) (e : Entry) (n : ℕ) (text : List ℕ) → LiveThere es n text → (e.kind ≡ Deletion → e.number ≢ n) → LiveThere (es ++ e ∷ []) n text
kept-there es e n text old other = record {
  entry = old.entry;
  there = among-before es e old.entry old.there;
  kind = old.kind;
  number = old.number;
  text_is = old.text_is;
  stays = all_after (λ (x : Entry). x.kind ≡ Deletion → x.number ≢ n) es e old.stays other;
}

there-message : (es : List Entry) (e : Entry) → e.kind ≡ Message → AllByRecursion (λ (x : Entry). x.number < e.number) es → LiveAreThere es → LiveAreThere (es ++ e ∷ [])
there-message es e kind above old n text is = by (text-push (live es) e n text (ap (λ (xs : List Entry). text_of xs n) (sym (live-more es e kind)) ∙ is)) where
  no_end : e.kind ≡ Deletion → e.number ≢ n
  no_end ends = absurd (let wrong : Message ≡ Deletion = sym kind ∙ ends in cc)

  by : (text_of (live es) n ≡ Some text) ⊎ ((e.number ≡ n) × (e.text ≡ text)) → LiveThere (es ++ e ∷ []) n text
  by (inl before) = kept-there es e n text (old n text before) no_end
  by (inr own) = record {
    entry = e;
    there = among-last es e;
    kind = kind;
    number = own.0;
    text_is = own.1;
    stays = all_after (λ (x : Entry). x.kind ≡ Deletion → x.number ≢ n) es e
        (all_weaker (λ (x : Entry). x.number < e.number) (λ (x : Entry). x.kind ≡ Deletion → x.number ≢ n) es (λ x low ends same. (let at : e.number ≡ n = own.0 in omega (arith, low, same, at))) above) no_end;
  }

there-deletion : (es : List Entry) (e : Entry) → e.kind ≡ Deletion → LiveAreThere es → LiveAreThere (es ++ e ∷ [])
there-deletion es e kind old n text is = by (cases_eq e.number n) where
  found : text_of (without e.number (live es)) n ≡ Some text
  found = ap (λ (xs : List Entry). text_of xs n) (sym (live-less es e kind)) ∙ is

  by : (e.number ≡ n) ⊎ (e.number ≡ n → ⊥) → LiveThere (es ++ e ∷ []) n text
  by (inl same) = absurd (let none : text_of (without e.number (live es)) n ≡ None = subst (λ (k : ℕ). text_of (without e.number (live es)) k ≡ None) same (text-without-own (live es) e.number) in let wrong : None ≡ Some text = sym none ∙ found in cc)
  by (inr apart) = kept-there es e n text (old n text (sym (text-without-other (live es) e.number n (λ same. apart (sym same))) ∙ found)) (λ ends. apart)

-- What is known of the entries before some.
pub record Before (form : Form) (number epoch : ℕ) (bs es : List Entry) : Type 0 where
  pub below : AllByRecursion (λ (b : Entry). b.number < number) bs
  pub older : AllByRecursion (λ (b : Entry). b.epoch ≤ epoch) bs
  pub there : LiveAreThere bs
  pub agree : AllByRecursion (λ (b : Entry). AllByRecursion (λ (f : Entry). blob_id_of form f.text ≡ blob_id_of form b.text → f.text ≡ b.text) es) bs

-- The number of an entry may follow.
number-follows : (form : Form) (k : EntryKind) (next number epoch : ℕ) (bs : List Entry) (e : Entry) (es : List Entry) → 1 ≤ number → Before form number epoch bs (e ∷ es) → NumberIsFrom k number e.number → e.number < next → EndsLive k bs e
    → NumberMayFollow k next (lines_after form [] bs) (line_after form bs e)
number-follows form Message next number epoch bs e es least known from below ends = record {
  least = omega (arith, least, from);
  below = below;
  above = lines-all form (λ (b : Entry). b.number < number) (λ (m : EntryLine). m.number < e.number) (λ before b low. omega (arith, low, from)) [] bs known.below;
}
number-follows form Deletion next number epoch bs e es least known from below ends =
    let one = known.there e.number e.text ends in
    let line = line-there form [] bs one.entry one.there in
    record {
      message = line_after form line.before one.entry;
      there = line.there;
      kind = one.kind;
      number = one.number;
      blob = ap (blob_id_of form) one.text_is;
      size = ap length one.text_is;
      live = lines-all form (λ (b : Entry). b.kind ≡ Deletion → b.number ≢ e.number) (λ (m : EntryLine). m.kind ≡ Deletion → m.number ≢ e.number) (λ before b other. other) [] bs one.stays;
    }

-- An entry may follow.
entry-follows : (form : Form) (next number epoch : ℕ) (bs : List Entry) (e : Entry) (es : List Entry) → 1 ≤ number → Before form number epoch bs (e ∷ es) → IsEntry e → NumberIsFrom e.kind number e.number → epoch ≤ e.epoch → e.number < next → EndsLive e.kind bs e
    → MayFollow form next (lines_after form [] bs) (line_after form bs e)
entry-follows form next number epoch bs e es least known valid from in_time below ends = record {
  blob = IsObjectId-id_of form _;
  commit = commit-valid form bs e;
  epoch = valid.epoch;
  later = lines-all form (λ (b : Entry). b.epoch ≤ epoch) (λ (m : EntryLine). m.epoch ≤ e.epoch) (λ before b low. omega (arith, low, in_time)) [] bs known.older;
  moment = valid.moment;
  size = valid.text.short;
  number = number-follows form e.kind next number epoch bs e es least known from below ends;
  sizes = lines-all form (λ (b : Entry). AllByRecursion (λ (f : Entry). blob_id_of form f.text ≡ blob_id_of form b.text → f.text ≡ b.text) (e ∷ es))
      (λ (m : EntryLine). m.blob ≡ blob_id_of form e.text → m.size ≡ length e.text) (λ before b agree same. ap length (sym (agree.0 (sym same)))) [] bs known.agree;
}

-- The numbers before a later entry.
below-more : (k : EntryKind) (number : ℕ) (bs : List Entry) (e : Entry) → NumberIsFrom k number e.number → EndsLive k bs e → LiveAreThere bs → AllByRecursion (λ (b : Entry). b.number < number) bs → AllByRecursion (λ (b : Entry). b.number < number_after k number e.number) (bs ++ e ∷ [])
below-more Message number bs e from ends there below =
    all_after (λ (b : Entry). b.number < e.number + 1) bs e (all_weaker (λ (b : Entry). b.number < number) (λ (b : Entry). b.number < e.number + 1) bs (λ b low. omega (arith, low, from)) below) (omega arith)
below-more Deletion number bs e from ends there below =
    let one = there e.number e.text ends in
    all_after (λ (b : Entry). b.number < number) bs e below (subst (λ (n : ℕ). n < number) one.number (all-among (λ (b : Entry). b.number < number) bs one.entry below one.there))

there-more : (k : EntryKind) (number : ℕ) (bs : List Entry) (e : Entry) → e.kind ≡ k → NumberIsFrom k number e.number → AllByRecursion (λ (b : Entry). b.number < number) bs → LiveAreThere bs → LiveAreThere (bs ++ e ∷ [])
there-more Message number bs e kind from below old = there-message bs e kind (all_weaker (λ (b : Entry). b.number < number) (λ (b : Entry). b.number < e.number) bs (λ b low. omega (arith, low, from)) below) old
there-more Deletion number bs e kind from below old = there-deletion bs e kind old

-- What is known with one more.
before-more : (form : Form) (number epoch : ℕ) (bs : List Entry) (e : Entry) (es : List Entry) → Before form number epoch bs (e ∷ es) → NumberIsFrom e.kind number e.number → epoch ≤ e.epoch → EndsLive e.kind bs e
    → AllByRecursion (λ (f : Entry). blob_id_of form f.text ≡ blob_id_of form e.text → f.text ≡ e.text) es → Before form (number_after e.kind number e.number) e.epoch (bs ++ e ∷ []) es
before-more form number epoch bs e es known from in_time ends agree = record {
  below = below-more e.kind number bs e from ends known.there known.below;
  older = all_after (λ (b : Entry). b.epoch ≤ e.epoch) bs e (all_weaker (λ (b : Entry). b.epoch ≤ epoch) (λ (b : Entry). b.epoch ≤ e.epoch) bs (λ b low. omega (arith, low, in_time)) known.older) (omega arith);
  there = there-more e.kind number bs e refl from known.below known.there;
  agree = all_after (λ (b : Entry). AllByRecursion (λ (f : Entry). blob_id_of form f.text ≡ blob_id_of form b.text → f.text ≡ b.text) es) bs e
      (all_weaker (λ (b : Entry). AllByRecursion (λ (f : Entry). blob_id_of form f.text ≡ blob_id_of form b.text → f.text ≡ b.text) (e ∷ es)) (λ (b : Entry). AllByRecursion (λ (f : Entry). blob_id_of form f.text ≡ blob_id_of form b.text → f.text ≡ b.text) es) bs (λ b all. all.1) known.agree)
      agree;
}

least-more : (k : EntryKind) (number own : ℕ) → 1 ≤ number → 1 ≤ number_after k number own
least-more Message number own least = omega arith
least-more Deletion number own least = least

-- Each line of later entries may follow.
each-follows : (form : Form) (next number epoch : ℕ) (bs es : List Entry) → 1 ≤ number → Before form number epoch bs es → AllByRecursion IsEntry es → Rise number epoch es → AllByRecursion (λ (e : Entry). e.number < next) es
    → AtEachPlace (λ (before : List Entry) (e : Entry). EndsLive e.kind before e) bs es → BlobsAgree form es → EachMayFollow form next (lines_after form [] bs) (lines_after form bs es)
each-follows form next number epoch bs [] least known valid rise below ends blobs = tt
each-follows form next number epoch bs (e ∷ es) least known valid rise below ends blobs = (
  entry-follows form next number epoch bs e es least known valid.0 rise.0 rise.1 below.0 ends.0,
  subst (λ (ls : List EntryLine). EachMayFollow form next ls (lines_after form (bs ++ e ∷ []) es)) (lines_after-push form [] bs e)
      (each-follows form next (number_after e.kind number e.number) e.epoch (bs ++ e ∷ []) es (least-more e.kind number e.number least) (before-more form number epoch bs e es known rise.0 rise.1 ends.0 blobs.0) valid.1 rise.2 below.1 ends.1 blobs.1),
)

pub list-valid : ListsAreValid
list-valid a valid = record {
  name = valid.name;
  next = record { least = valid.next_least; most = valid.next_most };
  lines = each-follows a.config.form a.next 1 0 [] a.entries (omega arith) (record { below = tt; older = tt; there = λ n text is. absurd (let wrong : None ≡ Some text = is in cc); agree = tt }) valid.entries valid.order valid.below valid.ends valid.blobs;
}
