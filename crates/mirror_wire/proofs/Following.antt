-- What decides whether a line may follow.
use Rattle.std.proofs.Common.{◌≡◌, ◌<◌, ◌≤◌, ◌^◌, ℕ, true, List, [], ◌∷◌, ◌++◌, Some, None, refl, sym, subst, ◌∙◌, arith, append-nil, append_assoc}
use Rattle.std.specs.List.{AllByRecursion}
use Rattle.std.specs.BTreeMap.{BTreeMap}
use Rattle.std.proofs.lemmas.Bool.Decides.{nat_tests}
use Rattle.arch_base.specs.declared.ids.Form.{Form}
use Rattle.arch_base.specs.declared.ids.ObjectId.{ObjectId}
use Rattle.arch_base.specs.Ids.{IsObjectId}
use Rattle.arch_base.specs.Moments.{IsMoment}
use Rattle.disk_model.specs.Sizes.{greatest_epoch}
use Rattle.mail_reader.specs.StorageTexts.{max_text_len}
use Rattle.git_objects.specs.declared.entry_kind.EntryKind.{EntryKind}
use Rattle.git_objects.specs.declared.entry_kind.EntryKind.TheVariants.{Message, Deletion}
use Rattle.arch_model.specs.declared.line.EntryLine.{EntryLine}
use Rattle.arch_model.proofs.ValidArchives.{all_after, all_weaker}
use Rattle.mirror_wire.specs.Rules.{NumberRises, EndsListed, NumberMayFollow, MayFollow, EachMayFollow}
use Rattle.mirror_wire.specs.Parts.{IsEntryLine}
use Rattle.mirror_wire.specs.declared.checking.Checked.{Checked}
use Rattle.mirror_wire.specs.Checking.{blob_at, size_at, KnowsNumbers, KnowsEpoch, KnowsSizes, IsChecked, in_range}
use Rattle.mirror_wire.proofs.Among.{all-among, among-all}

-- Where no line has a blob id, any size may follow.
pub size-free : (sizes : BTreeMap ObjectId ℕ) (lines : List EntryLine) (b : ObjectId) (s : ℕ) → KnowsSizes sizes lines → size_at sizes b ≡ None → AllByRecursion (λ (m : EntryLine). m.blob ≡ b → m.size ≡ s) lines
size-free sizes lines b s known none = among-all (λ (m : EntryLine). m.blob ≡ b → m.size ≡ s) lines
    (λ m there same. absurd (let wrong : None ≡ Some m.size = sym none ∙ (known b m.size).1 (record { line = m; there = there; blob_is = same; size_is = refl }) in cc))

-- Where one has it, its size may.
pub size-known : (sizes : BTreeMap ObjectId ℕ) (lines : List EntryLine) (b : ObjectId) (s : ℕ) → KnowsSizes sizes lines → size_at sizes b ≡ Some s → AllByRecursion (λ (m : EntryLine). m.blob ≡ b → m.size ≡ s) lines
size-known sizes lines b s known some = among-all (λ (m : EntryLine). m.blob ≡ b → m.size ≡ s) lines
    (λ m there same. (let both : Some m.size ≡ Some s = sym ((known b m.size).1 (record { line = m; there = there; blob_is = same; size_is = refl })) ∙ some in cc))

-- And no other.
pub size-other : (sizes : BTreeMap ObjectId ℕ) (lines : List EntryLine) (b : ObjectId) (had s : ℕ) → KnowsSizes sizes lines → size_at sizes b ≡ Some had → AllByRecursion (λ (m : EntryLine). m.blob ≡ b → m.size ≡ s) lines → had ≡ s
size-other sizes lines b had s known some all =
    let named = (known b had).0 some in
    sym named.size_is ∙ all-among (λ (m : EntryLine). m.blob ≡ b → m.size ≡ s) lines named.line all named.there named.blob_is

-- A message may follow if its number is above the last one and below the next one.
pub number-rises : (number next : ℕ) (live : BTreeMap ℕ ObjectId) (lines : List EntryLine) (l : EntryLine) → KnowsNumbers number live lines → number < l.number → l.number < next → NumberRises next lines l
number-rises number next live lines l known above below = record {
  least = omega (arith, above);
  below = below;
  above = all_weaker (λ (m : EntryLine). m.number ≤ number) (λ (m : EntryLine). m.number < l.number) lines (λ m low. omega (arith, low, above)) known.above;
}

-- Only then.
pub number-above : (number next : ℕ) (live : BTreeMap ℕ ObjectId) (lines : List EntryLine) (l : EntryLine) → KnowsNumbers number live lines → NumberRises next lines l → number < l.number
number-above number next live lines l known rises = known.reached l.number rises.least rises.above

-- A deletion may follow if its number is live with its blob id, and each line of that has its size.
pub number-ends : (number : ℕ) (live : BTreeMap ℕ ObjectId) (lines : List EntryLine) (l : EntryLine) → KnowsNumbers number live lines → blob_at live l.number ≡ Some l.blob → AllByRecursion (λ (m : EntryLine). m.blob ≡ l.blob → m.size ≡ l.size) lines → EndsListed lines l
number-ends number live lines l known some sizes =
    let named = (known.names l.number l.blob).0 some in
    record {
      message = named.message;
      there = named.there;
      kind = named.kind;
      number = named.number;
      blob = named.blob_is;
      size = all-among (λ (m : EntryLine). m.blob ≡ l.blob → m.size ≡ l.size) lines named.message sizes named.there named.blob_is;
      live = named.live;
    }

-- Only then.
pub number-live : (number : ℕ) (live : BTreeMap ℕ ObjectId) (lines : List EntryLine) (l : EntryLine) → KnowsNumbers number live lines → EndsListed lines l → blob_at live l.number ≡ Some l.blob
number-live number live lines l known ends = (known.names l.number l.blob).1 (record {
  message = ends.message;
  there = ends.there;
  kind = ends.kind;
  number = ends.number;
  blob_is = ends.blob;
  live = ends.live;
})

-- The number of a line that may follow is small, if those before it are.
number-short : (kind : EntryKind) (next : ℕ) (before : List EntryLine) (l : EntryLine) → next ≤ 2 ^ 32 → AllByRecursion (λ (m : EntryLine). m.number < 2 ^ 32) before → NumberMayFollow kind next before l → l.number < 2 ^ 32
number-short Message next before l small all follows = let below = follows.below in omega (arith, below, small)
number-short Deletion next before l small all follows =
    subst (λ (n : ℕ). n < 2 ^ 32) follows.number (all-among (λ (m : EntryLine). m.number < 2 ^ 32) before follows.message all follows.there)

-- A line that may follow can be spelled.
pub follower-spelled : (form : Form) (next : ℕ) (before : List EntryLine) (l : EntryLine) → next ≤ 2 ^ 32 → AllByRecursion (λ (m : EntryLine). m.number < 2 ^ 32) before → MayFollow form next before l → IsEntryLine form l
follower-spelled form next before l small all follows = record {
  number = number-short l.kind next before l small all follows.number;
  epoch = (let most = follows.epoch in omega (arith, most));
  secs = (let most = follows.moment in omega (arith, most));
  blob = follows.blob;
  size = (let most = follows.size in omega (arith, most));
  commit = follows.commit;
}

-- So can each of some lines.
pub each-spelled : (form : Form) (next : ℕ) (before ls : List EntryLine) → next ≤ 2 ^ 32 → AllByRecursion (λ (m : EntryLine). m.number < 2 ^ 32) before → EachMayFollow form next before ls → AllByRecursion (IsEntryLine form) ls
each-spelled form next before [] small all each = tt
each-spelled form next before (l ∷ ls) small all each =
    let own = follower-spelled form next before l small all each.0 in
    (own, each-spelled form next (before ++ l ∷ []) ls small (all_after (λ (m : EntryLine). m.number < 2 ^ 32) before l all own.number) each.1)

-- Of lines that may follow one another the first ones may, and so may the one after them.
pub each-first : (form : Form) (next : ℕ) (before ls ms : List EntryLine) → EachMayFollow form next before (ls ++ ms) → EachMayFollow form next before ls
each-first form next before [] ms each = tt
each-first form next before (l ∷ ls) ms each = (each.0, each-first form next (before ++ l ∷ []) ls ms each.1)

pub each-next : (form : Form) (next : ℕ) (before ls : List EntryLine) (m : EntryLine) (ms : List EntryLine) → EachMayFollow form next before (ls ++ m ∷ ms) → MayFollow form next (before ++ ls) m
each-next form next before [] m ms each = subst (λ (b : List EntryLine). MayFollow form next b m) (sym (append-nil before)) each.0
each-next form next before (l ∷ ls) m ms each = subst (λ (b : List EntryLine). MayFollow form next b m) (append_assoc before (l ∷ []) ls) (each-next form next (before ++ l ∷ []) ls m ms each.1)

-- What a line in range has.
pub record InRange (epoch : ℕ) (l : EntryLine) : Type 0 where
  pub from : epoch ≤ l.epoch
  pub epoch_most : l.epoch ≤ greatest_epoch
  pub moment : IsMoment l.secs
  pub size : l.size ≤ max_text_len

pub range-facts : (epoch : ℕ) (l : EntryLine) → in_range epoch l ≡ true → InRange epoch l
range-facts epoch l test = record {
  from = grind (arith, nat_tests, test);
  epoch_most = grind (arith, nat_tests, test);
  moment = grind (arith, nat_tests, test);
  size = grind (arith, nat_tests, test);
}

pub facts-range : (epoch : ℕ) (l : EntryLine) → InRange epoch l → in_range epoch l ≡ true
facts-range epoch l facts = let a = facts.from in let b = facts.epoch_most in let c = facts.moment in let d = facts.size in grind (arith, nat_tests, a, b, c, d)

-- A line that may follow is in range.
pub follower-range : (form : Form) (next epoch : ℕ) (lines : List EntryLine) (l : EntryLine) → KnowsEpoch epoch lines → MayFollow form next lines l → in_range epoch l ≡ true
follower-range form next epoch lines l known follows = facts-range epoch l (record {
  from = known.reached l.epoch follows.later;
  epoch_most = follows.epoch;
  moment = follows.moment;
  size = follows.size;
})

-- A line in range whose size and number may follow may follow.
pub line-follows : (form : Form) (next epoch : ℕ) (lines : List EntryLine) (l : EntryLine) → KnowsEpoch epoch lines → IsObjectId form l.blob → IsObjectId form l.commit → in_range epoch l ≡ true
    → AllByRecursion (λ (m : EntryLine). m.blob ≡ l.blob → m.size ≡ l.size) lines → NumberMayFollow l.kind next lines l → MayFollow form next lines l
line-follows form next epoch lines l known blob commit ranged sizes number =
    let facts = range-facts epoch l ranged in
    record {
      blob = blob;
      commit = commit;
      epoch = facts.epoch_most;
      later = all_weaker (λ (m : EntryLine). m.epoch ≤ epoch) (λ (m : EntryLine). m.epoch ≤ l.epoch) lines (λ m low. (let from = facts.from in omega (arith, low, from))) known.above;
      moment = facts.moment;
      size = facts.size;
      number = number;
      sizes = sizes;
    }

-- A line that may follow what is checked can be spelled.
pub checked-spelled : (c : Checked) → IsChecked c → (l : EntryLine) → MayFollow c.form c.next c.lines l → IsEntryLine c.form l
checked-spelled c checked l follows =
    let most = checked.next.most in
    let within = checked.within in
    follower-spelled c.form c.next c.lines l (omega (arith, most)) (all_weaker (λ (m : EntryLine). m.number ≤ c.number) (λ (m : EntryLine). m.number < 2 ^ 32) c.lines (λ m low. omega (arith, low, within, most)) checked.numbers.above) follows
