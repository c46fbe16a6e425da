-- Private: the parts of a mailbox file, as a streamed reply that is under way.
use Rattle.std.specs.Prelude.{◌≡◌, ◌⊎◌, ◌<◌, ℕ, Bool, true, List, [], length, Result, Ok, Err}
use Rattle.arch_base.specs.Ids.{id_bytes}
use Rattle.arch_model.specs.declared.text_refusal.TextRefusal.{TextRefusal}
use Rattle.arch_model.specs.declared.text_refusal.TextRefusal.TheVariants as refusal
use Rattle.line_door.specs.Acts.{ConnectionState}
use Rattle.http_heads.specs.declared.reply.Status.TheVariants.{ServerError, Unavailable}
use Rattle.shelf_doors.specs.Streams.{Given, StreamsNext}
use Rattle.shelf_doors.specs.declared.streamed.StreamStop.{StreamStop}
use Rattle.http_front.specs.Replies.{word, word_of, damaged_line}

-- What is said in place of a mailbox file whose text is not read. The connection is closed.
abbrev pub unread_word : ℕ → TextRefusal → List ℕ
unread_word moment refusal.DiskFault = word ServerError moment true true
unread_word moment (refusal.Damaged named found) =
    word_of ServerError (damaged_line (id_bytes named) (id_bytes found)) moment true true
unread_word moment refusal.NoMemory = word Unavailable moment true true

-- What became of the words that are to be said, with the next piece: they are still to be said, or they
-- were said; or the reply stopped there. `begun` tells whether any words of the reply were said before.
abbrev pub StreamsPart : ℕ → List ℕ → Bool → ConnectionState → Result Bool StreamStop → List ℕ
    → ConnectionState
    → Type 0
StreamsPart moment words begun i (Ok after) new j = ((after ≡ begun) × (new ≡ words) × (j ≡ i))
    ⊎ ((after ≡ true) × (new ≡ []) × (0 < length words) × Given words [] i (Ok tt) [] j)
StreamsPart moment words begun i (Err stop) new j =
    (0 < length words) × StreamsNext (unread_word moment) true words begun [] i (Err stop) [] j
