-- The lines of a maildrop, and the first lines of a text.
use Rattle.std.proofs.lemmas.List.{length-drop, length-take-le, drop_more, drop_all}
use Rattle.edge_io.specs.declared.sink.SinkFault.{SinkFault}
use Rattle.wire_replies.specs.Waits.{Waits}
use Rattle.wire_replies.proofs.Wording.{SoFar, sofar-more, sofar-end, sofar-lost, Waits-none}
use Rattle.std.proofs.Common.{Option, Ok, Err, get_or, subst, ◌≡◌, min, ◌+◌, ◌-◌, ◌<◌, ◌≤◌, ℕ, zero, suc, List, [], ◌∷◌, ◌++◌, length, take, drop, refl, sym, ap, ◌∙◌, append_assoc, length-append, arith}
use Rattle.std.specs.List.{concat}
use Rattle.mail_reader.specs.Lines.{lines_of}
use Rattle.pop3_reader.specs.Texts.{mail_line, mail_lines, first_lines}
use Rattle.pop3_reader.specs.declared.maildrop.MailSize.{MailSize}
use Rattle.pop3_reader.specs.declared.order.MailListing.{MailListing}

-- The first of the lines that are left, and the others.
pub first-left : (count : ℕ) (text line rest : List ℕ) → lines_of text ≡ line ∷ lines_of rest → first_lines (suc count) text ≡ line ++ first_lines count rest
first-left count text line rest is = ap (λ (ls : List (List ℕ)). concat (take (suc count) ls)) is

-- One line less is left.
pub lines-step : (count left n : ℕ) (text rest : List ℕ) → 0 < left → n ≤ length rest → lines_of rest ≡ take n rest ∷ lines_of (drop n rest) → length rest ≤ length text → length (first_lines count text) + length rest ≡ length text + length (first_lines left rest)
    → (length (drop n rest) ≤ length text) × (length (first_lines count text) + length (drop n rest) ≡ length text + length (first_lines (left - 1) (drop n rest)))
lines-step count zero n text rest more within lines short so_far = absurd (omega arith)
lines-step count (suc left) n text rest more within lines short so_far =
    let one : suc left - 1 ≡ left = omega arith in
    let front = ap length (first-left left rest (take n rest) (drop n rest) lines) ∙ length-append (take n rest) (first_lines left (drop n rest)) in
    let took = length-take-le n rest within in
    let dropped = length-drop n rest in (
      omega (arith, dropped, short),
      subst (λ (k : ℕ). length (first_lines count text) + length (drop n rest) ≡ length text + length (first_lines k (drop n rest))) (sym one) (omega (arith, so_far, front, took, dropped, within)),
    )

-- Nothing is left.
pub none-left : (count : ℕ) → first_lines count [] ≡ []
none-left zero = refl
none-left (suc count) = refl

take-concat : (count : ℕ) (lines : List (List ℕ)) → concat lines ≡ concat (take count lines) ++ concat (drop count lines)
take-concat zero lines = refl
take-concat (suc count) [] = refl
take-concat (suc count) (line ∷ lines) = ap (λ (x : List ℕ). line ++ x) (take-concat count lines) ∙ sym (append_assoc line (concat (take count lines)) (concat (drop count lines)))

-- The first lines of a text are its front.
pub lines-are_front : (count : ℕ) (text : List ℕ) → concat (lines_of text) ≡ text → text ≡ first_lines count text ++ concat (drop count (lines_of text))
lines-are_front count text whole = sym whole ∙ take-concat count (lines_of text)

-- A message's octets, and those of the others, where a sum stands still at its end.
pub octets-more : (total octets others most : ℕ) → min (min (total + octets) most + others) most ≡ min (total + (octets + others)) most
octets-more total octets others most = omega arith

module _ (what : MailListing) (born : ℕ) (mails : List MailSize) (k i : ℕ) (old new : List ℕ) (out out' : Option (List ℕ)) (lost lost' : ℕ)
    (before : SoFar (mail_lines what born 1 mails) (mail_lines what born (k + 1) (drop i mails)) old out lost new out' lost') where
  -- The next message, and those after it.
  next-mail : (d : MailSize) → i < length mails → mail_lines what born (k + 1) (drop i mails) ≡ mail_line what born (k + 1) (get_or mails i d) ++ mail_lines what born (k + 1 + 1) (drop (i + 1) mails)
  next-mail d less = ap (mail_lines what born (k + 1)) (drop_more mails i d less)

  -- The line of the next message is appended.
  pub mail-said : (d : MailSize) (next : List ℕ) (out'' : Option (List ℕ)) (lost'' : ℕ) (done : Unit {0}) → i < length mails → Waits (mail_line what born (k + 1) (get_or mails i d)) new out' lost' next out'' lost'' (Ok done)
      → SoFar (mail_lines what born 1 mails) (mail_lines what born (k + 1 + 1) (drop (i + 1) mails)) old out lost next out'' lost''
  mail-said d next out'' lost'' done less more =
      sofar-more (mail_lines what born 1 mails) old out lost (mail_lines what born (k + 1) (drop i mails)) new out' lost' before (mail_line what born (k + 1) (get_or mails i d)) (mail_lines what born (k + 1 + 1) (drop (i + 1) mails)) next out'' lost'' done (next-mail d less) more

  -- A write fails at the next message.
  pub mail-lost : (d : MailSize) (out'' : Option (List ℕ)) (lost'' : ℕ) (fault : SinkFault) → i < length mails → Waits (mail_line what born (k + 1) (get_or mails i d)) new out' lost' [] out'' lost'' (Err fault) → Waits (mail_lines what born 1 mails) old out lost [] out'' lost'' (Err fault)
  mail-lost d out'' lost'' fault less lost_at =
      sofar-lost (mail_lines what born 1 mails) old out lost (mail_lines what born (k + 1) (drop i mails)) new out' lost' before (mail_line what born (k + 1) (get_or mails i d)) (mail_lines what born (k + 1 + 1) (drop (i + 1) mails)) out'' lost'' fault (next-mail d less) lost_at

  -- All messages are appended.
  pub mails-said : length mails ≤ i → Waits (mail_lines what born 1 mails) old out lost new out' lost' (Ok tt)
  mails-said all =
      let none : mail_lines what born (k + 1) (drop i mails) ≡ [] = ap (mail_lines what born (k + 1)) (drop_all i mails all) in
      sofar-end (mail_lines what born 1 mails) old out lost (mail_lines what born (k + 1) (drop i mails)) new out' lost' before new out' lost' (Ok tt) (rw none (Waits-none new out' lost'))
