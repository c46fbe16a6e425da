-- What follows for whoever calls a keeper.
use Rattle.std.proofs.Common.{◌≡◌, ◌≢◌, ℕ, Bool, true, false, List, [], ◌∷◌, ◌++◌, Option, Some, None, Result, Ok, Err, inl, inr, refl, sym, ap, subst, ◌∙◌, arith}
use Rattle.std.specs.List.{Contains}
use Rattle.std.proofs.lemmas.Bool.{false≢true}
use Rattle.arch_model.specs.Archives.{Archive}
use Rattle.arch_model.specs.Delivery.{Done, applied}
use Rattle.arch_model.specs.Standing.{LastKnown, standing, unsure_of, unsure, with_doubt, one_of, IsFound}
use Rattle.arch_model.specs.Keeping.{HasDoubt, Has, HasAll, CrashesLeaveOnly, MatchesKnown, KeeperMoves, OnlyRead, Settles, Reopens, Ending, Accepts, Refuses, Starves, Fails, Breaks, ReopeningRefused, CommandGivesBy, CommandGives, CommandTakenBy, FindsFirst, FindsFirstBy, ending, StaysReady, CauseBy, AnswerCause, OpeningWhy, opening_answer, Keeper}
use Rattle.arch_model.specs.Untold.{untold}
use Rattle.arch_model.specs.declared.answer.Answer.{Answer}
use Rattle.arch_model.specs.declared.command.Command.{Command}
use Rattle.arch_model.specs.declared.opening.OpenRefusal.{OpenRefusal}
use Rattle.arch_model.specs.declared.opening.OpenRefusal.TheVariants as opening

-- The archives of standings among some.

-- What was found was among those before.
pub has-found : (may : List (Option Archive)) (s : LastKnown) (b : Archive) → Has may s → IsFound s b → Contains may (Some b)
has-found may s b has (inl older) = subst (λ (x : Archive). Contains may (Some x)) (sym older) has.archive
has-found may s b has (inr in_doubt) = subst (λ (d : Option Archive). HasDoubt may d) in_doubt has.in_doubt

-- What reopening leaves was among those before.
pub has-settled : (may : List (Option Archive)) (s t : LastKnown) → Has may s → Settles s t → Has may t
has-settled may s t has settles = record { archive = has-found may s t.archive has settles.found; in_doubt = subst (λ (d : Option Archive). HasDoubt may d) (sym settles.sure) tt }

has-both : (a : Archive) (d : Option Archive) → Has (with_doubt a d) (standing a d)
has-both a None = record { archive = (0, omega arith, refl); in_doubt = tt }
has-both a (Some b) = record { archive = (0, omega arith, refl); in_doubt = (1, omega arith, refl) }

-- A standing's own archives have it.
pub has-own : (s : LastKnown) → Has (one_of s) s
has-own s = has-both s.archive s.in_doubt

-- Those of a standing whose doubt is dropped.
pub has-sure : (may : List (Option Archive)) (a : Archive) (d : Option Archive) → Has may (standing a d) → Has may (standing a None)
has-sure may a d has = record { archive = has.archive; in_doubt = tt }

-- Those of a standing of which it isn't said that nothing is in doubt.
has-unsure : (may : List (Option Archive)) (a : Archive) (d : Option Archive) → Has may (unsure_of a d) → Has may (standing a d)
has-unsure may a None has = record { archive = has.archive; in_doubt = tt }
has-unsure may a (Some b) has = record { archive = has.archive; in_doubt = has.in_doubt }

pub has-unsure-of : (may : List (Option Archive)) (s : LastKnown) → Has may (unsure s) → Has may s
has-unsure-of may s has = let was = has-unsure may s.archive s.in_doubt has in record { archive = was.archive; in_doubt = was.in_doubt }

-- Something is in doubt there.
unsure-some : (a : Archive) (d : Option Archive) → (unsure_of a d).in_doubt ≡ None → ⊥
unsure-some a None none = absurd (cc)
unsure-some a (Some b) none = absurd (cc)

pub unsure-doubts : (s : LastKnown) → (unsure s).in_doubt ≡ None → ⊥
unsure-doubts s none = unsure-some s.archive s.in_doubt none

-- The archives of two lists of standings.
pub all-split : (may : List (Option Archive)) (ss ts : List LastKnown) → HasAll may (ss ++ ts) → HasAll may ss × HasAll may ts
all-split may [] ts has = (tt, has)
all-split may (s ∷ ss) ts has = let rest = all-split may ss ts has.1 in ((has.0, rest.0), rest.1)

-- Found from one archive.
pub found-one : (b x : Archive) → IsFound (standing b None) x → x ≡ b
found-one b x (inl older) = older
found-one b x (inr no_doubt) = absurd (cc)

-- What a reopening leaves where nothing was in doubt.
pub settled-sure : (a : Archive) (t : LastKnown) → Settles (standing a None) t → t ≡ standing a None
settled-sure a t settles = ap (λ (x : Archive). standing x t.in_doubt) (found-one a t.archive settles.found) ∙ ap (λ (in_doubt : Option Archive). standing a in_doubt) settles.sure

pub reopens-sure : (a : Archive) (t : LastKnown) (result : Result ℕ OpenRefusal) → Reopens (standing a None) result t → (result ≢ Err opening.DiskFault → t ≡ standing a None) × (result ≡ Err opening.DiskFault → t ≡ standing a (Some a))
reopens-sure a t (Ok x) settles = (λ other. settled-sure a t settles, λ is. absurd (cc is))
reopens-sure a t (Err opening.DiskFault) same = (λ other. absurd (other refl), λ is. same)
reopens-sure a t (Err opening.NoMemory) same = (λ other. same, λ is. absurd (cc is))
reopens-sure a t (Err opening.NoArchive) never = absurd never
reopens-sure a t (Err (opening.Damaged file at)) never = absurd never

-- Found through a reopening.
found-through : (s t : LastKnown) (x : Archive) → Settles s t → IsFound (standing t.archive None) x → IsFound s x
found-through s t x settles found = subst (λ (y : Archive). IsFound s y) (sym (found-one t.archive x found)) settles.found

-- What crashes leave.
module _ {K : Type 0} (leaves : K → K → List (Option Archive) → Type 0) where
  -- One run and another.
  pub passes-both : (old mid new : K) (ss ts : List LastKnown) → CrashesLeaveOnly leaves old mid ss → CrashesLeaveOnly leaves mid new ts → CrashesLeaveOnly leaves old new (ss ++ ts)
  passes-both old mid new ss ts first second = λ start may has left.
      let parts = all-split may ss ts has in
      second start may parts.1 (first start may parts.0 left)

  -- Runs of acts in order: the standing that one leaves is the one that the next starts with.
  pub passes-chain : (old mid new : K) (ss : List LastKnown) (t : LastKnown) (us : List LastKnown) → CrashesLeaveOnly leaves old mid (ss ++ t ∷ []) → CrashesLeaveOnly leaves mid new (t ∷ us) → CrashesLeaveOnly leaves old new (ss ++ t ∷ us)
  passes-chain old mid new ss t us first second = λ start may has left.
      let parts = all-split may ss (t ∷ us) has in
      second start may parts.1 (first start may (all-join may ss (t ∷ []) parts.0 (parts.1.0, tt)) left)
    where
      all-join : (may : List (Option Archive)) (xs ys : List LastKnown) → HasAll may xs → HasAll may ys → HasAll may (xs ++ ys)
      all-join may [] ys hx hy = hy
      all-join may (x ∷ xs) ys hx hy = (hx.0, all-join may xs ys hx.1 hy)

module _ {K : Type 0} (g : Keeper K) where
  -- A ready keeper fits the archive that it holds, and nothing is in doubt.
  pub settled-is : (k : K) (s : LastKnown) → MatchesKnown g k s → g.ready k ≡ true → (s ≡ standing s.archive None) × g.holds k s.archive
  settled-is k s fits at_hand = let both = fits.settled at_hand in (ap (λ (in_doubt : Option Archive). standing s.archive in_doubt) both.1, both.0)

  -- Nothing was done.
  pub moves-same : (k : K) (s : LastKnown) → MatchesKnown g k s → KeeperMoves g k s k s
  moves-same k s fits = record { fits = fits; passes = λ start may has left. left }

  -- What isn't ready fits whatever a crash may have left, if its files are right where nothing is in doubt.
  pub moves-stale : ((start k : K) (may : List (Option Archive)) → g.leaves start k may → g.leaves k k may) → (old : K) (s : LastKnown) (new : K) (t : LastKnown) → MatchesKnown g old s → g.ready new ≡ false → (t.in_doubt ≡ None → g.files_are new t.archive) → ((may : List (Option Archive)) → Has may t → Has may s)
      → CrashesLeaveOnly g.leaves old new (s ∷ t ∷ []) → KeeperMoves g old s new t
  moves-stale leaves_now old s new t fits stale rested within passes = record {
    fits = record {
      settled = λ at_hand. absurd (false≢true (sym stale ∙ at_hand));
      exact = rested;
      left = λ may has. leaves_now old new may (passes old may (within may has, (has, tt)) (fits.left may (within may has)));
    };
    passes = passes;
  }

  -- A reopening, and then a call on what it found.
  pub moves-on : (old mid new : K) (s t u : LastKnown) → KeeperMoves g old s mid t → Settles s t → KeeperMoves g mid t new u → KeeperMoves g old s new u
  moves-on old mid new s t u first settles second = record {
    fits = second.fits;
    passes = λ start may has left.
        let middle = has-settled may s t has.0 settles in
        second.passes start may (middle, (has.1.0, tt)) (first.passes start may (has.0, (middle, tt)) left);
  }

  module _ (holds_files_are : (k : K) (a : Archive) → g.holds k a → g.files_are k a) (holds_left : (k : K) (a : Archive) (may : List (Option Archive)) → g.holds k a → Contains may (Some a) → g.leaves k k may) where
    -- A keeper that holds an archive fits it.
    pub fits-held : (k : K) (a : Archive) → g.holds k a → MatchesKnown g k (standing a None)
    fits-held k a held = record { settled = λ at_hand. (held, refl); exact = λ none. holds_files_are k a held; left = λ may has. holds_left k a may held has.archive }

    pub moves-held : (old : K) (s : LastKnown) (new : K) (a : Archive) → g.holds new a → CrashesLeaveOnly g.leaves old new (s ∷ standing a None ∷ []) → KeeperMoves g old s new (standing a None)
    moves-held old s new a held passes = record { fits = fits-held new a held; passes = passes }

    -- A keeper of which only reading changed something fits the same archive.
    pub moves-read : (old new : K) (a : Archive) → g.holds old a → OnlyRead g old new → KeeperMoves g old (standing a None) new (standing a None)
    moves-read old new a held read = moves-held old (standing a None) new a (read.held a held) (λ start may has left. read.passes start may tt left)

-- A command on what a reopening found.
pub comes-by : (was_ready : Bool) (s t : LastKnown) (wanted : Archive → Done) (reply : Answer) (u : LastKnown) (e : Ending) → Settles s t → CommandGivesBy true (standing t.archive None) wanted reply u e → CommandGivesBy was_ready s wanted reply u e
comes-by was_ready s t wanted reply u Accepts settles obeys = record { found = obeys.found; is_found = found-through s t obeys.found settles obeys.is_found; answer_is = obeys.answer_is; stands = obeys.stands }
comes-by was_ready s t wanted reply u Refuses settles obeys = record { found = obeys.found; is_found = found-through s t obeys.found settles obeys.is_found; answer_is = obeys.answer_is; stands = obeys.stands }
comes-by was_ready s t wanted reply u Starves settles (inl unopened) = absurd (false≢true (sym unopened.stale))
comes-by was_ready s t wanted reply u Starves settles (inr still) = inr (record { found = found-through s t u.archive settles still.found; sure = still.sure })
comes-by was_ready s t wanted reply u Fails settles (inl unopened) = absurd (false≢true (sym unopened.stale))
comes-by was_ready s t wanted reply u Fails settles (inr doubts) = inr (record { found = doubts.found; is_found = found-through s t doubts.found settles doubts.is_found; stands = doubts.stands })
comes-by was_ready s t wanted reply u Breaks settles never = never

-- The answer to a command whose archive wasn't reopened.
pub unopened-comes : (s t : LastKnown) (wanted : Archive → Done) (why : OpenRefusal) → ReopeningRefused s why t → CommandGives false s wanted (opening_answer why) t
unopened-comes s t wanted opening.DiskFault same = inl (record { stale = refl; same = same })
unopened-comes s t wanted opening.NoMemory same = inl (record { stale = refl; same = same })
unopened-comes s t wanted opening.NoArchive never = absurd never
unopened-comes s t wanted (opening.Damaged file at) never = absurd never

module _ {K : Type 0} (g : Keeper K) where
  -- A keeper had to be reopened, which was refused.
  pub unopened-finds : (old new : K) (s t : LastKnown) (command : Command) (moment : ℕ) (why : OpenRefusal) → ReopeningRefused s why t → FindsFirstBy g old s command moment new (opening_answer why) t (ending (opening_answer why))
  unopened-finds old new s t command moment opening.DiskFault same = inl same
  unopened-finds old new s t command moment opening.NoMemory same = inl same
  unopened-finds old new s t command moment opening.NoArchive never = absurd never
  unopened-finds old new s t command moment (opening.Damaged file at) never = absurd never

  -- It was reopened first, however the command ended.
  pub finds-first : (old : K) (s : LastKnown) (command : Command) (moment : ℕ) (new : K) (reply : Answer) (t : LastKnown) (e : Ending) → ending reply ≡ e → FindsFirst g old s command moment new reply t → FindsFirstBy g old s command moment new reply t e
  finds-first old s command moment new reply t Accepts is first = first
  finds-first old s command moment new reply t Refuses is first = first
  finds-first old s command moment new reply t Starves is first = inr first
  finds-first old s command moment new reply t Fails is first = inr first
  finds-first old s command moment new reply t Breaks is first =
      subst (λ (x : Ending). CommandGivesBy true (standing first.found None) (λ (a : Archive). applied a command moment) reply t x) is first.gives

  -- What was taken is by whether it was ready.
  pub taken-by : (ready : Bool) (old : K) (s : LastKnown) (command : Command) (moment : ℕ) (new : K) (reply : Answer) (t : LastKnown) → (ready ≡ true → g.takes old new command moment reply) → (ready ≡ false → FindsFirstBy g old s command moment new reply t (ending reply)) → CommandTakenBy g ready old s command moment new reply t
  taken-by true old s command moment new reply t at_hand stale = at_hand refl
  taken-by false old s command moment new reply t at_hand stale = stale refl

pub unopened-ready : (why : OpenRefusal) → StaysReady false (opening_answer why) false
unopened-ready opening.DiskFault = refl
unopened-ready opening.NoMemory = λ ready. ready
unopened-ready opening.NoArchive = refl
unopened-ready (opening.Damaged file at) = refl

pub unopened-cause : (before now : ℕ) (why : OpenRefusal) → OpeningWhy before now why → AnswerCause before now (opening_answer why)
unopened-cause before now opening.DiskFault rose = rose
unopened-cause before now opening.NoMemory kept = kept
unopened-cause before now opening.NoArchive kept = kept
unopened-cause before now (opening.Damaged file at) kept = kept

-- A cause in the last of several calls is one in all of them, if the calls before it met no fault.
pub cause-earlier : (before mid now : ℕ) (e : Ending) → mid ≡ before → CauseBy mid now e → CauseBy before now e
cause-earlier before mid now Accepts same kept = kept ∙ same
cause-earlier before mid now Refuses same kept = kept ∙ same
cause-earlier before mid now Starves same kept = kept ∙ same
cause-earlier before mid now Fails same rose = omega (arith, same, rose)
cause-earlier before mid now Breaks same kept = kept ∙ same

-- A keeper that tells nothing fits no standing.
pub untold-fits : {K : Type 0} (ready : K → Bool) (reads faults : K → ℕ) (alike : K → K → Type 0) (k : K) (s : LastKnown) → MatchesKnown (untold ready reads faults alike) k s → ⊥
untold-fits ready reads faults alike k s fits = fits.left (one_of s) (has-own s)
