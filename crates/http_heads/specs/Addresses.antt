-- The addresses of an archive (RFC 3986, section 3.3).
use Rattle.std.specs.Prelude.{ℕ, Bool, ◌&&◌, ◌==◌, List, [], ◌∷◌, length, map, codes, Option, Some, None, if◌then◌else◌}
use Rattle.std.specs.Str.{bytes_eq}
use Rattle.percent_encoding.specs.Percent.{percent_decode}
use Rattle.http_heads.specs.declared.address.Address.{Address}
use Rattle.http_heads.specs.declared.address.Address.TheVariants.{Listing, Text, Thread, Message, Feed, Mailbox, ThreadFeed, ThreadMailbox, Entries, Blob}
use Rattle.http_heads.specs.Pieces.{pieces_of}

-- What a path names. The bytes are those of a message's id without its brackets, or the digits of a
-- blob's id.
pub data Named : Type 0 where
  TheListing : Named
  TextOf : List ℕ → Named
  ThreadOf : List ℕ → Named
  MessageOf : List ℕ → Named
  TheFeed : Named
  TheMailbox : Named
  ThreadFeedOf : List ℕ → Named
  ThreadMailboxOf : List ℕ → Named
  TheEntries : Named
  BlobOf : List ℕ → Named

-- What an address names, by the bytes in it.
abbrev pub shown : Address → Named
shown Listing = TheListing
shown (Text id) = TextOf id.now
shown (Thread id) = ThreadOf id.now
shown (Message id) = MessageOf id.now
shown Feed = TheFeed
shown Mailbox = TheMailbox
shown (ThreadFeed id) = ThreadFeedOf id.now
shown (ThreadMailbox id) = ThreadMailboxOf id.now
shown Entries = TheEntries
shown (Blob digits) = BlobOf digits.now

-- The segments of a path: its pieces between slashes, each decoded.
abbrev pub segments_of : List ℕ → List (List ℕ)
segments_of path = map percent_decode (pieces_of 47 path)

-- The segment is that word.
abbrev pub is_word : List ℕ → List ℕ → Bool
is_word segment word = bytes_eq segment word

-- The segment is empty.
abbrev pub is_empty : List ℕ → Bool
is_empty segment = length segment == 0

-- After the name stands one segment.
abbrev pub one_segment : List ℕ → Option Named
one_segment a =
    if is_empty a then Some TheListing
    else if is_word a (codes "new.atom") then Some TheFeed
    else if is_word a (codes "all.mbox") then Some TheMailbox
    else Some (MessageOf a)

-- The feed or the mailbox of a message's thread.
abbrev pub thread_form : List ℕ → List ℕ → Option Named
thread_form a b =
    if is_word b (codes "t.atom") then Some (ThreadFeedOf a)
    else if is_word b (codes "t.mbox") then Some (ThreadMailboxOf a)
    else None

-- After the name stand two segments.
abbrev pub two_segments : List ℕ → List ℕ → Option Named
two_segments a b =
    if is_word a (codes "_") && is_word b (codes "list") then Some TheEntries
    else if is_empty b then Some (MessageOf a)
    else if is_word b (codes "raw") then Some (TextOf a)
    else thread_form a b

-- After the name stand three segments.
abbrev pub three_segments : List ℕ → List ℕ → List ℕ → Option Named
three_segments a b c =
    if is_word a (codes "_") && is_word b (codes "blob") then Some (BlobOf c)
    else if is_word b (codes "t") && is_empty c then Some (ThreadOf a)
    else None

-- The path begins with a slash, and the name of the list follows.
abbrev pub is_ours : List ℕ → List ℕ → List ℕ → Bool
is_ours name first second = is_empty first && is_word second name

-- What a path names, by its segments: `/NAME/`, `/NAME/new.atom`, `/NAME/all.mbox`, `/NAME/ID` with
-- a slash after it or not, `/NAME/ID/raw`, `/NAME/ID/t/`, `/NAME/ID/t.atom`, `/NAME/ID/t.mbox`,
-- `/NAME/_/list` and `/NAME/_/blob/HEX`.
abbrev pub named_by : List ℕ → List (List ℕ) → Option Named
named_by name (first ∷ second ∷ a ∷ []) = if is_ours name first second then one_segment a else None
named_by name (first ∷ second ∷ a ∷ b ∷ []) = if is_ours name first second then two_segments a b else None
named_by name (first ∷ second ∷ a ∷ b ∷ c ∷ []) =
    if is_ours name first second then three_segments a b c else None
named_by _ _ = None
