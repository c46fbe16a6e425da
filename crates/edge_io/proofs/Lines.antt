-- Lines of events.
use Rattle.std.proofs.Common.{◌≡◌, ◌≢◌, ℕ, false, ◌==◌, List, [], ◌∷◌, ◌++◌, refl, sym, ◌∙◌, ap, arith, codes, get_or, drop}
use Rattle.std.proofs.lemmas.Bool.Decides.{nat_tests}
use Rattle.std.specs.Fmt.{decimal}
use Rattle.edge_io.specs.Events.{IsDoor, IsWhat, IsScriptLine, door_word, words_of, line_of}
use Rattle.edge_io.specs.Parsing.{LacksByte, IsScriptOpening, opening_words, IsSending, sending_words}
use Rattle.edge_io.specs.declared.events.Event.{Event}
use Rattle.edge_io.specs.declared.events.What.{What}
use Rattle.edge_io.specs.declared.events.What.TheVariants.{Opened, Bytes, Ended, Quiet, Stop}
use Rattle.edge_io.specs.declared.events.Door.{Door}
use Rattle.edge_io.specs.declared.events.Door.TheVariants.{Control, Http, Nntp, Pop3, Imap, Lmtp}
use Rattle.edge_io.proofs.Dividing.{LacksByte-append}
use Rattle.edge_io.proofs.Numerals.{decimal-lacks}

-- Texts with different first bytes differ.
apart : (c d : ℕ) (x y : List ℕ) → (c == d) ≡ false → c ∷ x ≢ d ∷ y
apart c d x y h e = let same : c ≡ d = ap (λ l. get_or l 0 0) e in grind (arith, nat_tests)

-- Equal texts that share their first two bytes have equal rests.
pub rest-same : (a b : ℕ) (x y : List ℕ) → a ∷ b ∷ x ≡ a ∷ b ∷ y → x ≡ y
rest-same a b x y e = ap (drop 2) e

-- Words that start like an opening, and spell none, spell nothing.
pub no_opening : (words rest : List ℕ) → words ≡ codes "o " ++ rest → ((x : ℕ × Door) → IsScriptOpening x → rest ≢ opening_words x) → (what : What) → IsWhat what → words ≢ words_of what
no_opening words rest is none (Opened conn door) h e = none (conn, door) h (rest-same 111 32 rest (decimal conn ++ 32 ∷ door_word door) (sym is ∙ e))
no_opening words rest is none (Bytes conn len) h e = apart 111 98 (32 ∷ rest) (32 ∷ (decimal conn ++ 32 ∷ decimal len)) refl (sym is ∙ e)
no_opening words rest is none (Ended conn) h e = apart 111 101 (32 ∷ rest) (32 ∷ decimal conn) refl (sym is ∙ e)
no_opening words rest is none Quiet h e = apart 111 113 (32 ∷ rest) [] refl (sym is ∙ e)
no_opening words rest is none Stop h e = apart 111 115 (32 ∷ rest) [] refl (sym is ∙ e)

-- Words that start like a sending, and spell none, spell nothing.
pub no_sending : (words rest : List ℕ) → words ≡ codes "b " ++ rest → ((x : ℕ × ℕ) → IsSending x → rest ≢ sending_words x) → (what : What) → IsWhat what → words ≢ words_of what
no_sending words rest is none (Opened conn door) h e = apart 98 111 (32 ∷ rest) (32 ∷ (decimal conn ++ 32 ∷ door_word door)) refl (sym is ∙ e)
no_sending words rest is none (Bytes conn len) h e = none (conn, len) h (rest-same 98 32 rest (decimal conn ++ 32 ∷ decimal len) (sym is ∙ e))
no_sending words rest is none (Ended conn) h e = apart 98 101 (32 ∷ rest) (32 ∷ decimal conn) refl (sym is ∙ e)
no_sending words rest is none Quiet h e = apart 98 113 (32 ∷ rest) [] refl (sym is ∙ e)
no_sending words rest is none Stop h e = apart 98 115 (32 ∷ rest) [] refl (sym is ∙ e)

-- The name of a door contains no line feed.
door-lacks : (door : Door) → LacksByte 10 (door_word door)
door-lacks Control = (refl, (refl, (refl, (refl, (refl, (refl, (refl, tt)))))))
door-lacks Http = (refl, (refl, (refl, (refl, tt))))
door-lacks Nntp = (refl, (refl, (refl, (refl, tt))))
door-lacks Pop3 = (refl, (refl, (refl, (refl, tt))))
door-lacks Imap = (refl, (refl, (refl, (refl, tt))))
door-lacks Lmtp = (refl, (refl, (refl, (refl, tt))))

words-lack : (what : What) → IsWhat what → LacksByte 10 (words_of what)
words-lack (Opened conn door) h = (refl, (refl, LacksByte-append 10 (decimal conn) (32 ∷ door_word door) (decimal-lacks 10 conn (omega arith) (omega (arith, h.0))) (refl, door-lacks door)))
words-lack (Bytes conn len) h =
    (refl, (refl, LacksByte-append 10 (decimal conn) (32 ∷ decimal len) (decimal-lacks 10 conn (omega arith) (omega (arith, h.0))) (refl, decimal-lacks 10 len (omega arith) (omega (arith, h.1.1)))))
words-lack (Ended conn) h = (refl, (refl, decimal-lacks 10 conn (omega arith) (omega (arith, h))))
words-lack Quiet h = (refl, tt)
words-lack Stop h = (refl, tt)

pub line-lacks : (event : Event) → IsScriptLine event → LacksByte 10 (line_of event)
line-lacks event h =
    LacksByte-append 10 (decimal event.moment) (32 ∷ words_of event.what) (decimal-lacks 10 event.moment (omega arith) (omega (arith, h.moment))) (refl, words-lack event.what h.what)

-- A text that is none of these words names no door.
pub no_door : (word : List ℕ) → word ≢ door_word Control → word ≢ door_word Http → word ≢ door_word Nntp → word ≢ door_word Pop3 → word ≢ door_word Imap → word ≢ door_word Lmtp → (door : Door) → IsDoor door → word ≢ door_word door
no_door word a b c d e f Control is = a
no_door word a b c d e f Http is = b
no_door word a b c d e f Nntp is = c
no_door word a b c d e f Pop3 is = d
no_door word a b c d e f Imap is = e
no_door word a b c d e f Lmtp is = f
