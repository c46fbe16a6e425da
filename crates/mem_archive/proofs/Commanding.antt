-- The archive in memory as a keeper of itself.
use Rattle.std.proofs.Common.{◌≡◌, ℕ, true, false, List, ◌++◌, length, Some, None, is_some, Ok, inl, inr, refl, sym, ap, subst, ◌∙◌}
use Rattle.std.specs.List.{Contains}
use Rattle.mem_archive.specs.Crashes.{in_memory}
use Rattle.arch_model.specs.Archives.{Archive, live, text_of}
use Rattle.arch_model.specs.Delivery.{Done, Delivers, applied}
use Rattle.arch_model.specs.Standing.{LastKnown, standing, GivesTextIn}
use Rattle.arch_model.specs.Keeping.{MatchesKnown, KeeperMoves, Settles, CommandGives, CommandTaken, StaysReady, AnswerCause}
use Rattle.arch_model.specs.declared.command.Command.{Command}
use Rattle.arch_model.specs.declared.answer.Answer.{Answer}
use Rattle.arch_model.specs.declared.answer.Answer.TheVariants as answer

fits-itself : (m n : Archive) → n ≡ m → MatchesKnown in_memory n (standing m None)
fits-itself m n same = record { settled = λ ready. (sym same, refl); exact = λ none. sym same; left = λ may has. subst (λ (x : Archive). Contains may (Some x)) (sym same) has.archive }

moves-itself : (m n : Archive) (s : LastKnown) (a : Archive) → n ≡ a → KeeperMoves in_memory m s n (standing a None)
moves-itself m n s a same = record { fits = fits-itself a n same; passes = λ start may has left. subst (λ (x : Archive). Contains may (Some x)) (sym same) has.1.0.archive }

-- Reopening does nothing.
pub fresh-done : (m : Archive) (s : LastKnown) → MatchesKnown in_memory m s → (t : LastKnown) × KeeperMoves in_memory m s m t × Settles s t × (true ≡ false → (t.archive ≡ m) × (m ≡ m))
fresh-done m s fits = (standing m None, moves-itself m m s m refl, record { found = inl (sym (fits.settled refl).0); sure = refl }, λ stale. (refl, refl))

-- Rebuilding counts the live messages.
pub reindex-done : (m : Archive) (s : LastKnown) → MatchesKnown in_memory m s → (count : ℕ) → count ≡ length (live m.entries) → (t : LastKnown) × KeeperMoves in_memory m s m t × Settles s t × (count ≡ length (live t.archive.entries)) × ((t.archive ≡ m) × (m ≡ m))
reindex-done m s fits count is = (standing m None, moves-itself m m s m refl, record { found = inl (sym (fits.settled refl).0); sure = refl }, is, (refl, refl))

-- The answer to a command is that of its keeper.
module _ (m n : Archive) (wanted : Archive → Done) (s : LastKnown) (fits : MatchesKnown in_memory m s) where
  obeyed : (reply : Answer) → wanted m ≡ record { archive = n; answer = reply } → KeeperMoves in_memory m s n (standing n None) × ((wanted m).answer ≡ reply) × (standing n None ≡ standing (wanted m).archive None)
  obeyed reply is = (moves-itself m n s n refl, ap (λ (d : Done). d.answer) is, ap (λ (d : Done). standing d.archive None) (sym is))

  command-given : (reply : Answer) → Delivers m reply n (wanted m) → (t : LastKnown) × KeeperMoves in_memory m s n t × CommandGives true s wanted reply t
  command-given answer.NoMemory same = (standing m None, moves-itself m n s m same, inr (record { found = inl (sym (fits.settled refl).0); sure = refl }))
  command-given (answer.Ok number id) is =
      let done = obeyed (answer.Ok number id) is in
      (standing n None, done.0, record { found = m; is_found = inl (sym (fits.settled refl).0); answer_is = done.1; stands = done.2 })
  command-given (answer.Duplicate number) is =
      let done = obeyed (answer.Duplicate number) is in
      (standing n None, done.0, record { found = m; is_found = inl (sym (fits.settled refl).0); answer_is = done.1; stands = done.2 })
  command-given answer.NoFields is =
      let done = obeyed answer.NoFields is in
      (standing n None, done.0, record { found = m; is_found = inl (sym (fits.settled refl).0); answer_is = done.1; stands = done.2 })
  command-given (answer.TooLarge len) is =
      let done = obeyed (answer.TooLarge len) is in
      (standing n None, done.0, record { found = m; is_found = inl (sym (fits.settled refl).0); answer_is = done.1; stands = done.2 })
  command-given (answer.Full max) is =
      let done = obeyed (answer.Full max) is in
      (standing n None, done.0, record { found = m; is_found = inl (sym (fits.settled refl).0); answer_is = done.1; stands = done.2 })
  command-given (answer.Collision number) is =
      let done = obeyed (answer.Collision number) is in
      (standing n None, done.0, record { found = m; is_found = inl (sym (fits.settled refl).0); answer_is = done.1; stands = done.2 })
  command-given (answer.NotLive number) is =
      let done = obeyed (answer.NotLive number) is in
      (standing n None, done.0, record { found = m; is_found = inl (sym (fits.settled refl).0); answer_is = done.1; stands = done.2 })
  command-given (answer.NoText number) is =
      let done = obeyed (answer.NoText number) is in
      (standing n None, done.0, record { found = m; is_found = inl (sym (fits.settled refl).0); answer_is = done.1; stands = done.2 })
  command-given answer.IsMirror is =
      let done = obeyed answer.IsMirror is in
      (standing n None, done.0, record { found = m; is_found = inl (sym (fits.settled refl).0); answer_is = done.1; stands = done.2 })
  command-given answer.DiskFault never = absurd never
  command-given (answer.Damaged file at) never = absurd never

-- It is never stale, and takes a command at once.
pub command-done : (m n : Archive) (command : Command) (moment : ℕ) (s : LastKnown) → MatchesKnown in_memory m s → (reply : Answer) → Delivers m reply n (applied m command moment) → (t : LastKnown) × KeeperMoves in_memory m s n t × CommandGives true s (λ (a : Archive). applied a command moment) reply t × CommandTaken in_memory m s command moment n reply t
command-done m n command moment s fits reply done = let given = command-given m n (λ (a : Archive). applied a command moment) s fits reply done in (given.0, given.1, given.2, done)

-- It stays ready.
pub stays-ready : (m n : Archive) (d : Done) (reply : Answer) → Delivers m reply n d → StaysReady true reply true
stays-ready m n d answer.NoMemory is = λ ready. refl
stays-ready m n d (answer.Ok number id) is = tt
stays-ready m n d (answer.Duplicate number) is = refl
stays-ready m n d answer.NoFields is = refl
stays-ready m n d (answer.TooLarge len) is = refl
stays-ready m n d (answer.Full max) is = refl
stays-ready m n d (answer.Collision number) is = refl
stays-ready m n d (answer.NotLive number) is = refl
stays-ready m n d (answer.NoText number) is = refl
stays-ready m n d answer.IsMirror is = refl
stays-ready m n d answer.DiskFault never = absurd never
stays-ready m n d (answer.Damaged file at) never = absurd never

-- It has no disk that fails, and its count of faults stays 0.
pub never-fails : (m n : Archive) (d : Done) (reply : Answer) → Delivers m reply n d → AnswerCause 0 0 reply
never-fails m n d answer.NoMemory is = refl
never-fails m n d (answer.Ok number id) is = refl
never-fails m n d (answer.Duplicate number) is = refl
never-fails m n d answer.NoFields is = refl
never-fails m n d (answer.TooLarge len) is = refl
never-fails m n d (answer.Full max) is = refl
never-fails m n d (answer.Collision number) is = refl
never-fails m n d (answer.NotLive number) is = refl
never-fails m n d (answer.NoText number) is = refl
never-fails m n d answer.IsMirror is = refl
never-fails m n d answer.DiskFault never = absurd never
never-fails m n d (answer.Damaged file at) never = absurd never

-- A live number has a text.
hidden-text : (m a : Archive) (n : ℕ) (old : List ℕ) → a ≡ m → None ≡ text_of (live m.entries) n → is_some (text_of (live a.entries) n) ≡ true → GivesTextIn (live a.entries) n old old (Ok tt)
hidden-text m a n old same none shown =
    let is : text_of (live a.entries) n ≡ None = ap (λ (x : Archive). text_of (live x.entries) n) same ∙ sym none in
    let never : is_some {T = List ℕ} None ≡ true = sym (ap is_some is) ∙ shown in
    absurd (cc)

pub text-none : (m : Archive) (n : ℕ) (old : List ℕ) → None ≡ text_of (live m.entries) n → ((a : Archive) → a ≡ m → is_some (text_of (live a.entries) n) ≡ true) → (a : Archive) → a ≡ m → GivesTextIn (live a.entries) n old old (Ok tt)
text-none m n old none shown a same = hidden-text m a n old same none (shown a same)

pub text-some : (m : Archive) (n : ℕ) (old new text : List ℕ) → Some text ≡ text_of (live m.entries) n → new ≡ old ++ text → (a : Archive) → a ≡ m → GivesTextIn (live a.entries) n old new (Ok tt)
text-some m n old new text some is a same = (text, ap (λ (x : Archive). text_of (live x.entries) n) same ∙ sym some, is)
