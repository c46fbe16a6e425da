-- Laws of the course of a fetch.
use Rattle.std.specs.Prelude.{◌≡◌, ◌≢◌, ◌⊎◌, ℕ, true, List, [], ◌∷◌, ◌++◌, None, is_some, if◌then◌else◌}
use Rattle.std.specs.List.{AllByRecursion}
use Rattle.arch_base.specs.declared.ids.Form.{Form}
use Rattle.git_objects.specs.Objects.{blob_id_of}
use Rattle.arch_model.specs.Archives.{Entry, Archive}
use Rattle.arch_model.specs.Following.{Follows}
use Rattle.arch_model.specs.Shelves.{lines_after}
use Rattle.arch_model.specs.Validity.{IsArchive}
use Rattle.arch_model.specs.declared.line.EntryLine.{EntryLine}
use Rattle.edge_io.specs.declared.peer.Reply.{Reply}
use Rattle.mirror_wire.specs.declared.list.MirrorList.{MirrorList}
use Rattle.mirror_wire.specs.Lists.{list_of, list_text}
use Rattle.mirror_wire.specs.Rules.{IsMirrorList}
use Rattle.fetch_course.specs.declared.answer.FetchAnswer.TheVariants as answer
use Rattle.fetch_course.specs.Courses.{FetchCourse, FetchLeads, AsksOn, ComesTo, HoldsAll, archive_with, known_text, lines_course, wrong_list}

-- Where all lines of a list are right, the archive has just these lines, in order, and the next number and
-- the settings that it was to have.
abbrev pub HoldsTheList : Type 0
HoldsTheList = (a b : Archive) (next at : ℕ) (lines : List EntryLine) (replies : List Reply)
    → (lines_course a next at [] lines replies).stage ≡ HoldsAll b
    → (lines_after a.config.form [] b.entries ≡ lines) × (b.next ≡ next) × (b.config ≡ a.config)

-- Where all lines of a valid list with the name of a valid mirror are right, which isn't behind and renames
-- no message, the archive is valid and follows the mirror.
abbrev pub HoldsFollowers : Type 0
HoldsFollowers = (a b : Archive) (list : MirrorList) (replies : List Reply) → IsArchive a
    → IsMirrorList a.config.form list → wrong_list a list ≡ None
    → (lines_course a list.next 4 [] list.lines replies).stage ≡ HoldsAll b
    → IsArchive b × Follows a b

-- Replies after those that a course needed change nothing. A course that asks on needs more.
abbrev pub NeedsNoMore : Type 0
NeedsNoMore = (a : Archive) (replies more : List Reply) (course : FetchCourse)
    → FetchLeads a replies course → course.stage ≢ AsksOn → FetchLeads a (replies ++ more) course

-- Entries here and entries there with the same blob id of a form have the same text.
abbrev pub TextsAgree : Form → List Entry → List Entry → Type 0
TextsAgree form here there = AllByRecursion (λ (f : Entry). AllByRecursion (λ (e : Entry).
    blob_id_of form e.text ≡ blob_id_of form f.text → e.text ≡ f.text) here) there

-- The reply with a text.
abbrev pub text_reply : List ℕ → Reply
text_reply text = record { status = 200; body = text }

-- What a source answers that holds still, when a mirror with these own entries asks for the texts of the
-- source's entries that it doesn't know.
abbrev pub source_texts : Form → List Entry → List Entry → List Entry → List Reply
source_texts form own before [] = []
source_texts form own before (e ∷ es) =
    if is_some (known_text form own before (blob_id_of form e.text))
    then source_texts form own (before ++ e ∷ []) es
    else text_reply e.text ∷ source_texts form own (before ++ e ∷ []) es

-- The same with the list first.
abbrev pub source_replies : Archive → Archive → List Reply
source_replies a s = text_reply (list_text s.config.form (list_of s))
    ∷ source_texts a.config.form a.entries [] s.entries

-- The archive of a mirror that has a source's entries and next number.
abbrev pub mirror_of : Archive → Archive → Archive
mirror_of a s = archive_with a s.entries s.next

-- A mirror may become a source: both are valid and have one name and one form of ids, the source follows
-- the mirror, and no blob id of both has two texts.
pub record MayBecome (a s : Archive) : Type 0 where
  pub mirror : a.config.mirror ≡ true
  pub name : s.config.name ≡ a.config.name
  pub form : s.config.form ≡ a.config.form
  pub here : IsArchive a
  pub there : IsArchive s
  pub follows : Follows a s
  pub texts : TextsAgree a.config.form a.entries s.entries

-- From such a source, which holds still, a fetch leads to the source's entries and next number. It asks on
-- if the replies that were given are not yet all, and memory may run out.
abbrev pub HoldsTheSource : Type 0
HoldsTheSource = (a s : Archive) (given rest more : List Reply) (course : FetchCourse) → MayBecome a s
    → given ++ rest ≡ source_replies a s ++ more → FetchLeads a given course
    → (course.stage ≡ AsksOn) ⊎ ((course.stage ≡ HoldsAll (mirror_of a s))
    ⊎ (course.stage ≡ ComesTo answer.NoMemory))

-- A list of a source's archive leads to that archive's entries and next number or to none, whatever other
-- replies are, where no blob id of both has two texts. The source may have changed meanwhile.
abbrev pub HoldsOnlyTheSource : Type 0
HoldsOnlyTheSource = (a s b : Archive) (replies : List Reply) (course : FetchCourse) → IsArchive s
    → s.config.form ≡ a.config.form
    → FetchLeads a (text_reply (list_text s.config.form (list_of s)) ∷ replies) course
    → course.stage ≡ HoldsAll b → TextsAgree a.config.form b.entries s.entries → b ≡ mirror_of a s

-- No path is one of these.
abbrev pub IsNoneOf : List ℕ → List (List ℕ) → Type 0
IsNoneOf path paths = AllByRecursion (λ (p : List ℕ). p ≢ path) paths

-- No path is there twice.
abbrev pub AreOnce : List (List ℕ) → Type 0
AreOnce [] = Unit {0}
AreOnce (path ∷ paths) = IsNoneOf path paths × AreOnce paths

-- A fetch asks for each path once.
abbrev pub AsksOnce : Type 0
AsksOnce = (a : Archive) (replies : List Reply) (course : FetchCourse) → FetchLeads a replies course
    → AreOnce course.asked
