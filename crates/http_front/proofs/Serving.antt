-- What is found and said makes an act.
use Rattle.std.proofs.Common.{◌≡◌, ◌≤◌, inl, inr, ℕ, Bool, true, false, not, ◌&&◌, List, Option, Some, None, Result, Err, is_ok, refl, sym, ap, subst, ◌∙◌, arith}
use Rattle.std.proofs.lemmas.Bool.{false≢true}
use Rattle.edge_io.specs.Phrases.{Says}
use Rattle.edge_io.specs.declared.sink.SinkFault.{SinkFault}
use Rattle.httparse.specs.Grammar.{RequestHead}
use Rattle.line_door.specs.Acts.{ConnectionState, Plain, Memory, Disk, Acts, held_if}
use Rattle.line_door.specs.Making.{closes}
use Rattle.line_door.proofs.Acting.{acts-closing, acts-from, acts-words}
use Rattle.arch_model.specs.Archives.{Archive}
use Rattle.arch_model.specs.Shelves.{ReadingWhy}
use Rattle.arch_model.specs.declared.text_refusal.TextRefusal.{TextRefusal}
use Rattle.arch_model.specs.declared.text_refusal.TextRefusal.TheVariants as refusal
use Rattle.http_heads.specs.Heads.{IsHead, Asked, asked_of}
use Rattle.http_heads.specs.Replies.{verdict_of}
use Rattle.http_heads.specs.declared.reply.Body.{Body}
use Rattle.http_heads.specs.declared.reply.Body.TheVariants.{Mailbox}
use Rattle.http_heads.specs.declared.reply.Status.{Status}
use Rattle.http_heads.specs.declared.reply.Status.TheVariants.{Done, BadRequest, NotFound, ServerError, Unavailable}
use Rattle.http_heads.specs.declared.reply.Verdict.{Verdict}
use Rattle.http_heads.specs.declared.reply.Verdict.TheVariants.{Serve, Refuse}
use Rattle.http_front.specs.Asking.{Found, Gives, Streams, Missing, BadRange, target_reads}
use Rattle.http_front.specs.Replies.{reply, word, word_of, bad_range}
use Rattle.http_front.specs.Door.{served, said_found, said_asked, said_verdict, said_head, verdict_uses, head_uses}
use Rattle.http_front.specs.Sessions.{SaysThen, SaysWhole, PageSaysUnread, FindsTarget, said_mailbox}
use Rattle.http_front.proofs.Acting.{acts-replied}
use Rattle.http_front.proofs.HeadReading.{reads-heads}
use Rattle.http_front.specs.Reading.{asked_in}

-- What a head that was read asks.
pub reads-some : (bytes : List ℕ) (head : RequestHead) (asked : Asked) → IsHead bytes head → asked ≡ asked_of head → asked_in bytes ≡ Some asked
reads-some bytes head asked read same = reads-heads.head bytes head read ∙ ap Some (sym same)

-- What is no head.
pub reads-none : (bytes : List ℕ) → ((head : RequestHead) → IsHead bytes head → None ≡ Some (asked_of head)) → asked_in bytes ≡ None
reads-none bytes other = reads-heads.none bytes (λ head read. never (asked_of head) (other head read))
  where
    never : (asked : Asked) → None ≡ Some asked → ⊥
    never asked e = cc e

module _ (moment : ℕ) (a : Archive) (rest : List ℕ) where
  -- What is no head is a bad request.
  pub acts-bad : (asked : Option Asked) (i j : ConnectionState) (sent : Result Unit SinkFault) → asked ≡ None → j.disk ≡ i.disk → Says (word BadRequest moment true true) i.out i.lost j.out j.lost sent → Acts (said_head moment a asked rest) i None a j
  acts-bad asked i j sent none kept words =
      acts-closing (said_head moment a asked rest) Plain (closes a (word BadRequest moment true true)) i j a sent (ap (λ (o : Option Asked). said_head moment a o rest Plain) none) refl kept (omega (arith, kept)) words refl

  -- A head is refused.
  pub acts-refused : (found : Option Asked) (asked : Asked) (status : Status) (sends : Bool) (i j : ConnectionState) (sent : Result Unit SinkFault) → found ≡ Some asked → verdict_of (Some asked) ≡ Refuse status sends → j.disk ≡ i.disk → Says (word status moment sends true) i.out i.lost j.out j.lost sent
      → Acts (said_head moment a found rest) i None a j
  acts-refused found asked status sends i j sent is verdict kept words =
      acts-closing (said_head moment a found rest) Plain (closes a (word status moment sends true)) i j a sent
      (ap (λ (o : Option Asked). said_head moment a o rest Plain) is ∙ ap (λ (v : Verdict). said_verdict moment a asked rest v Plain) verdict) refl kept (omega (arith, kept)) words refl

  -- A head is served.
  pub acts-served : (found : Option Asked) (asked : Asked) (sends : Bool) (i : ConnectionState) (held : Option (List ℕ)) (j : ConnectionState) → found ≡ Some asked → verdict_of (Some asked) ≡ Serve sends → Acts (said_asked moment a asked sends rest) i held a j → Acts (said_head moment a found rest) i held a j
  acts-served found asked sends i held j is verdict acts =
      acts-words (said_head moment a found rest) (said_asked moment a asked sends rest) i held a j
      (λ way. ap (λ (o : Option Asked). said_head moment a o rest way) is ∙ ap (λ (v : Verdict). said_verdict moment a asked rest v way) verdict) acts

-- A head that is served uses the disk if its target does.
pub serve-spares : (a : Archive) (found : Option Asked) (asked : Asked) (sends : Bool) → found ≡ Some asked → verdict_of (Some asked) ≡ Serve sends → head_uses a found ≡ false → target_reads a asked.target ≡ false
serve-spares a found asked sends is verdict spares = sym (ap (head_uses a) is ∙ ap (verdict_uses a asked) verdict) ∙ spares

-- Where no text is read, a refusal to read comes without a fault.
pub refused-spares : (a : Archive) (found : Found) (reads : Bool) (why : TextRefusal) (before now : ℕ) → FindsTarget a found reads (Err why) → ReadingWhy before now why → reads ≡ false → now ≡ before
refused-spares a found reads refusal.DiskFault before now finds cause spares = absurd (false≢true (sym spares ∙ finds))
refused-spares a found reads (refusal.Damaged named at) before now finds cause spares = absurd finds
refused-spares a found reads refusal.NoMemory before now finds cause spares = cause

module _ (moment : ℕ) (a : Archive) (sends ends : Bool) (rest : List ℕ) (found : Found) (reads : Bool) where
  -- What was found is said whole, or memory ran out.
  pub acts-whole : (body : Body) (bytes : List ℕ) (i j : ConnectionState) (goes : Bool) → found ≡ Gives body bytes → j.disk ≡ i.disk → SaysWhole body bytes moment sends ends i.out i.lost j.out j.lost goes → Acts (said_found moment a sends ends rest found reads) i (held_if goes rest) a j
  acts-whole body bytes i j goes is kept (inl said) =
      acts-replied (said_found moment a sends ends rest found reads) Plain a rest ends false (reply Done moment body bytes sends ends) i j goes (ap (λ (f : Found). served moment a sends ends rest f) is) refl kept said
  acts-whole body bytes i j goes is kept (inr said) =
      subst (λ (b : Bool). Acts (said_found moment a sends ends rest found reads) i (held_if b rest) a j) (sym (said.next ∙ and-false (is_ok said.sent)))
      (acts-closing (said_found moment a sends ends rest found reads) Memory (closes a (word Unavailable moment sends true)) i j a said.sent refl refl kept (omega (arith, kept)) said.says refl)
    where
      and-false : (t : Bool) → (t && not true) ≡ false
      and-false true = refl
      and-false false = refl

  -- Nothing was found.
  pub acts-missing : (i j : ConnectionState) (goes : Bool) → found ≡ Missing → j.disk ≡ i.disk → SaysThen (word NotFound moment sends ends) ends i.out i.lost j.out j.lost goes → Acts (said_found moment a sends ends rest found reads) i (held_if goes rest) a j
  acts-missing i j goes is kept said =
      acts-replied (said_found moment a sends ends rest found reads) Plain a rest ends false (word NotFound moment sends ends) i j goes (ap (λ (f : Found). served moment a sends ends rest f) is) refl kept said

  -- The text to search for is no query.
  pub acts-bad_range : (i j : ConnectionState) (goes : Bool) → found ≡ BadRange → j.disk ≡ i.disk → SaysThen (word_of BadRequest bad_range moment sends ends) ends i.out i.lost j.out j.lost goes → Acts (said_found moment a sends ends rest found reads) i (held_if goes rest) a j
  acts-bad_range i j goes is kept said =
      acts-replied (said_found moment a sends ends rest found reads) Plain a rest ends false (word_of BadRequest bad_range moment sends ends) i j goes (ap (λ (f : Found). served moment a sends ends rest f) is) refl kept said

  -- A text that is needed was not read, and it was said why.
  pub acts-unread : (why : TextRefusal) (i j : ConnectionState) (sent : Result Unit SinkFault) → FindsTarget a found reads (Err why) → ReadingWhy i.disk j.disk why → i.disk ≤ j.disk → PageSaysUnread why moment sends i.out i.lost j.out j.lost sent → Acts (said_found moment a sends ends rest found reads) i None a j
  acts-unread refusal.DiskFault i j sent reads_is cause later words =
      acts-closing (said_found moment a sends ends rest found reads) Disk (closes a (word ServerError moment sends true)) i j a sent (rw reads_is refl) refl cause later words refl
  acts-unread (refusal.Damaged named other) i j sent never cause later words = absurd never
  acts-unread refusal.NoMemory i j sent any cause later words =
      acts-closing (said_found moment a sends ends rest found reads) Memory (closes a (word Unavailable moment sends true)) i j a sent refl refl cause later words refl

  -- A mailbox file was found, and its reply was said.
  pub acts-mailbox : (bytes : List ℕ) (i j k : ConnectionState) (held : Option (List ℕ)) → found ≡ Streams Mailbox bytes → reads ≡ true → j.out ≡ i.out → j.lost ≡ i.lost → j.disk ≡ i.disk → Acts (said_mailbox moment a sends ends rest bytes) j held a k → Acts (said_found moment a sends ends rest found reads) i held a k
  acts-mailbox bytes i j k held is texts out lost disk acts =
      acts-words (said_found moment a sends ends rest found reads) (said_mailbox moment a sends ends rest bytes) i held a k
      (λ way. ap (λ (f : Found). said_found moment a sends ends rest f reads way) is ∙ ap (λ (b : Bool). said_found moment a sends ends rest (Streams Mailbox bytes) b way) texts)
      (acts-from (said_mailbox moment a sends ends rest bytes) j i held a k (sym out) (sym lost) (sym disk) acts)
