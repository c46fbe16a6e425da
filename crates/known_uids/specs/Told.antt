-- The list of UIDs that a client was told, and what it is told of changes (RFC 3501, sections 2.3.1,
-- 5.2, 7.3.1 and 7.4.1).
use Rattle.std.specs.Prelude.{◌≡◌, ◌+◌, ◌-◌, ◌<◌, ◌≤◌, ◌==◌, ℕ, Bool, true, false, not, ◌||◌, List, [], ◌∷◌, ◌++◌, length, take, drop, Option, None, Some, is_some, slice_get, if◌then◌else◌}
use Rattle.std.specs.List.{filter, range_with_len}
use Rattle.arch_model.specs.Archives.{Archive, live, text_of}
use Rattle.arch_model.specs.Validity.{IsArchive}
use Rattle.known_uids.specs.declared.changes.Changes.{Changes}

-- The number is that of a live message.
abbrev pub is_live : Archive → ℕ → Bool
is_live a n = is_some (text_of (live a.entries) n)

-- Of the numbers from `first` to `last` those that pass a test, rising.
unfoldable pub passing : (ℕ → Bool) → ℕ → ℕ → List ℕ
passing test first last = filter test (range_with_len first (last + 1 - first))

-- The live numbers from `first` to `last`, rising: the UIDs of a mailbox with these bounds.
abbrev pub live_in : Archive → ℕ → ℕ → List ℕ
live_in a first last = passing (is_live a) first last

-- A mailbox by its first and its last number, and the UIDs in it that a client was told.
pub record Known : Type 0 where
  pub first : ℕ
  pub last : ℕ
  pub uids : List ℕ

-- The mailbox and the UIDs of these three parts.
abbrev pub known : ℕ → ℕ → List ℕ → Known
known first last uids = record { first = first; last = last; uids = uids }

-- The numbers rise, each is at least `first`, and all are below a bound.
abbrev pub RisesBelow : ℕ → List ℕ → ℕ → Type 0
RisesBelow first [] bound = first ≤ bound
RisesBelow first (n ∷ ns) bound = (first ≤ n) × RisesBelow (n + 1) ns bound

-- The number after the last of these, or `first` if there is none.
abbrev pub after_last : ℕ → List ℕ → ℕ
after_last first [] = first
after_last first (n ∷ ns) = after_last (n + 1) ns

-- The number is one of these.
abbrev pub has : List ℕ → ℕ → Bool
has [] n = false
has (m ∷ ms) n = m == n || has ms n

-- The sequence numbers of told UIDs that aren't there now, the greatest first. `sequence` is that of
-- the first UID.
abbrev pub gone_from : List ℕ → ℕ → List ℕ → List ℕ
gone_from now sequence [] = []
gone_from now sequence (n ∷ ns) =
    gone_from now (sequence + 1) ns ++ (if has now n then [] else sequence ∷ [])

-- The UIDs that are there now and weren't told.
abbrev pub new_of : List ℕ → List ℕ → List ℕ
new_of told now = filter (λ (n : ℕ). not (has told n)) now

-- The count of all, if there are new ones.
abbrev pub count_if : List ℕ → ℕ → Option ℕ
count_if [] count = None
count_if (n ∷ ns) count = Some count

-- What a client that was told some UIDs is told, where others are there now: an EXPUNGE for each that
-- is gone, and EXISTS if there are new ones.
abbrev pub changes_of : List ℕ → List ℕ → Changes
changes_of told now =
    record { gone = gone_from now 1 told; exists = count_if (new_of told now) (length now) }

-- The UIDs after an EXPUNGE of a sequence number.
abbrev pub expunged : List ℕ → ℕ → List ℕ
expunged uids sequence = take (sequence - 1) uids ++ drop sequence uids

-- Up to the greatest number that a client was told, each live one is one that it was told. So it is
-- where no number that is gone comes back, and new ones are greater.
abbrev pub NoneBack : (ℕ → Bool) → ℕ → List ℕ → Type 0
NoneBack test first told =
    (n : ℕ) → first ≤ n → n < after_last first told → test n ≡ true → has told n ≡ true

-- The archive may be one after those that the client was told of: it is valid, and no number came
-- back.
pub record Suits (a : Archive) (told : Known) : Type 0 where
  pub valid : IsArchive a
  pub none_back : NoneBack (is_live a) told.first told.uids

-- The UID with a sequence number, counted from 1 on.
abbrev pub uid_at : List ℕ → ℕ → Option ℕ
uid_at uids sequence = if sequence == 0 then None else slice_get uids (sequence - 1)

-- The sequence number of a UID. `sequence` is that of the first of these.
abbrev pub sequence_from : ℕ → List ℕ → ℕ → Option ℕ
sequence_from sequence [] uid = None
sequence_from sequence (n ∷ ns) uid =
    if n == uid then Some sequence else sequence_from (sequence + 1) ns uid
