-- What a store keeps, and what its own disk leaves while it is only read.
use Rattle.std.specs.Prelude.{◌≡◌, ◌++◌, ◌∷◌, [], ℕ, Bool, true, List, Option, Some, None, Err, if◌then◌else◌}
use Rattle.std.proofs.Common.{◌∙◌, sym, ap, subst, inl}
use Rattle.disk_model.specs.declared.disk.Disk.{Ghosts as Disk}
use Rattle.disk_model.specs.Disk.{Files, Content, Image, BothTold, Unchanged}
use Rattle.disk_model.specs.Moments.{LeavesOnly, joined, started, weaker}
use Rattle.arch_model.specs.Archives.{Archive, with_entry}
use Rattle.arch_model.specs.Delivery.{Done, collision, delivered, refused, new_epoch}
use Rattle.arch_model.specs.declared.answer.Answer.{Answer}
use Rattle.arch_model.specs.declared.answer.Answer.TheVariants as answer
use Rattle.arch_model.specs.declared.text_refusal.TextRefusal.{TextRefusal}
use Rattle.arch_model.specs.declared.text_refusal.TextRefusal.TheVariants as reading
use Rattle.arch_judge.specs.declared.judging.Verdict.TheVariants.{Refuse}
use Rattle.epoch_store.specs.Laws.{StoreRecovers}
use Rattle.epoch_store.specs.Promises.{AddsMessage}
use Rattle.epoch_store.specs.Reads.{GivesTextOf}
use Rattle.store_finding.specs.Kept.{StoreState, KeepsArchive, IsStoreWith}
use Rattle.epoch_store.specs.Commands.{RecoversOneOf}
use Rattle.archive_core.specs.Commands.{DoneBy, JudgesRead, unread_answer}
use Rattle.archive_core.specs.Engines.{unchanged-is}

-- A store keeps the archive of its own disk.
pub store_keeps : (v : StoreState) (cache : List ℕ) (a : Archive) (k : Option Content) → IsStoreWith v cache a k → KeepsArchive v a
store_keeps v cache a None store = absurd store
store_keeps v cache a (Some k) store = store.keeps

-- A disk whose files didn't change is still a store's own.
pub still_own : (v : StoreState) (cache : List ℕ) (a : Archive) (old new : Option Content) → BothTold Unchanged old new → IsStoreWith v cache a old → IsStoreWith v cache a new
still_own v cache a old new same store = subst (λ (k : Option Content). IsStoreWith v cache a k) (sym (unchanged-is old new same)) store

-- What a crash leaves of a store's own disk stands for the archive.
pub stands : StoreRecovers → (v : StoreState) (cache left : List ℕ) (a b : Archive) (k : Option Content) (image : Files) → IsStoreWith v cache a k → Image k image → RecoversOneOf cache a left b image
stands law v cache left a b None image store now = absurd store
stands law v cache left a b (Some k) image store now = inl ((law v cache a k store).0 image now)

module _ {D : Type 0} (g : Disk D) where
  -- So it does while nothing is done.
  pub not-started : StoreRecovers → (v : StoreState) (cache left : List ℕ) (a b : Archive) (k : Option Content) (disk : D) → IsStoreWith v cache a k → ((image : Files) → g.left_since disk (g.moment disk) image → Image k image) → LeavesOnly g disk disk (RecoversOneOf cache a left b)
  not-started law v cache left a b k disk store now = started g disk (RecoversOneOf cache a left b) (λ image is. stands law v cache left a b k image store (now image is))

  -- And after the disk was only read.
  pub only-read : StoreRecovers → (v : StoreState) (cache left : List ℕ) (a b : Archive) (k : Option Content) (old new : D) → IsStoreWith v cache a k → LeavesOnly g old new (Image k) → LeavesOnly g old new (RecoversOneOf cache a left b)
  only-read law v cache left a b k old new store run = weaker g old new (Image k) (RecoversOneOf cache a left b) run (λ image is. stands law v cache left a b k image store is)

  -- And after it was read, and then more was done.
  pub read-first : StoreRecovers → (v : StoreState) (cache left : List ℕ) (a b : Archive) (k : Option Content) (old mid new : D) → IsStoreWith v cache a k → LeavesOnly g old mid (Image k) → LeavesOnly g mid new (RecoversOneOf cache a left b)
      → LeavesOnly g old new (RecoversOneOf cache a left b)
  read-first law v cache left a b k old mid new store run more = joined g old mid new (Image k) (RecoversOneOf cache a left b) (RecoversOneOf cache a left b) run more (λ image is. stands law v cache left a b k image store is) (λ image is. is)

-- If a delivery is judged to take a text, the archive after it is the one with that text.
pub archive_taken : (a : Archive) (text slice : List ℕ) (moment : ℕ) (wanted : Done) (reply : Answer) → slice ≡ text
    → wanted ≡ record { archive = with_entry a (new_epoch a) text moment; answer = reply } → with_entry a (new_epoch a) slice moment ≡ wanted.archive
archive_taken a text slice moment wanted reply is judged = ap (λ (t : List ℕ). with_entry a (new_epoch a) t moment) is ∙ sym (ap (λ (d : Done). d.archive) judged)

-- So the archive before becomes that one, if no other text has the blob id.
pub adds-taken : (a : Archive) (text slice : List ℕ) (moment : ℕ) (wanted : Done) (reply : Answer) → slice ≡ text → wanted ≡ record { archive = with_entry a (new_epoch a) text moment; answer = reply } → collision a.config.form a.entries text ≡ None → AddsMessage slice moment a wanted.archive
adds-taken a text slice moment wanted reply is judged alone = record {
  alone = subst (λ (t : List ℕ). collision a.config.form a.entries t ≡ None) (sym is) alone;
  is = sym (archive_taken a text slice moment wanted reply is judged);
}

-- A refusal is the definition's, and leaves the archive.
stays : (v : StoreState) (cache : List ℕ) (a : Archive) (k : Option Content) (wanted : Done) (reply : Answer) → IsStoreWith v cache a k → wanted ≡ refused a reply → (wanted.answer ≡ reply) × IsStoreWith v cache wanted.archive k
stays v cache a k wanted reply store is = (ap (λ (d : Done). d.answer) is, subst (λ (b : Archive). IsStoreWith v cache b k) (sym (ap (λ (d : Done). d.archive) is)) store)

pub refusal-done : (v : StoreState) (cache : List ℕ) (a : Archive) (bytes : List ℕ) (moment : ℕ) (k : Option Content) (reply : Answer) → IsStoreWith v cache a k → JudgesRead a bytes (Refuse reply) → DoneBy v cache cache a (delivered a bytes moment) reply k
refusal-done v cache a bytes moment k answer.NoMemory store judged = store
refusal-done v cache a bytes moment k answer.DiskFault store judged = tt
refusal-done v cache a bytes moment k (answer.Duplicate n) store judged = let both = stays v cache a k (delivered a bytes moment) (answer.Duplicate n) store (judged moment) in record { answer_is = both.0; store = both.1 }
refusal-done v cache a bytes moment k answer.NoFields store judged = let both = stays v cache a k (delivered a bytes moment) answer.NoFields store (judged moment) in record { answer_is = both.0; store = both.1 }
refusal-done v cache a bytes moment k (answer.TooLarge len) store judged = let both = stays v cache a k (delivered a bytes moment) (answer.TooLarge len) store (judged moment) in record { answer_is = both.0; store = both.1 }
refusal-done v cache a bytes moment k (answer.Full max) store judged = let both = stays v cache a k (delivered a bytes moment) (answer.Full max) store (judged moment) in record { answer_is = both.0; store = both.1 }
refusal-done v cache a bytes moment k (answer.Collision n) store judged = let both = stays v cache a k (delivered a bytes moment) (answer.Collision n) store (judged moment) in record { answer_is = both.0; store = both.1 }
refusal-done v cache a bytes moment k answer.IsMirror store judged = let both = stays v cache a k (delivered a bytes moment) answer.IsMirror store (judged moment) in record { answer_is = both.0; store = both.1 }
refusal-done v cache a bytes moment k (answer.Ok n id) store judged = absurd judged
refusal-done v cache a bytes moment k (answer.NotLive n) store judged = absurd judged
refusal-done v cache a bytes moment k (answer.NoText n) store judged = absurd judged
refusal-done v cache a bytes moment k (answer.Damaged file at) store judged = absurd judged

-- Where a text wasn't read, nothing was done.
pub unread-done : (v : StoreState) (cache left : List ℕ) (a : Archive) (i : ℕ) (old new : List ℕ) (why : TextRefusal) (reply : Answer) (wanted : Done) (k : Option Content) → reply ≡ unread_answer v i why → GivesTextOf a i old new (Err why) → IsStoreWith v cache a k → DoneBy v cache left a wanted reply k
unread-done v cache left a i old new reading.DiskFault reply wanted k is given store = subst (λ (r : Answer). DoneBy v cache left a wanted r k) (sym is) tt
unread-done v cache left a i old new reading.NoMemory reply wanted k is given store = subst (λ (r : Answer). DoneBy v cache left a wanted r k) (sym is) store
unread-done v cache left a i old new (reading.Damaged named found) reply wanted k is given store = absurd given

-- An item for which there was room was pushed.
pub pushed : {X : Type 0} (ok : Bool) (old new : List X) (x : X) → new ≡ (if ok then old ++ x ∷ [] else old) → ok ≡ true → new ≡ old ++ x ∷ []
pushed ok old new x is went = is ∙ ap (λ (b : Bool). if b then old ++ x ∷ [] else old) went
