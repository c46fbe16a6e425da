-- Replies that a course doesn't need.
use Rattle.std.proofs.Common.{◌≡◌, ◌≢◌, ◌+◌, ◌==◌, ℕ, Bool, true, false, List, [], ◌∷◌, ◌++◌, Option, Some, None, Result, Ok, Err, refl, sym, ap, ◌∙◌}
use Rattle.std.specs.Bool.{MatchBool}
use Rattle.arch_model.specs.Archives.{Entry, Archive}
use Rattle.arch_model.specs.declared.line.EntryLine.{EntryLine}
use Rattle.edge_io.specs.declared.peer.Reply.{Reply}
use Rattle.mirror_wire.specs.declared.list.MirrorList.{MirrorList}
use Rattle.mirror_wire.specs.declared.list.ListRefusal.{ListRefusal}
use Rattle.mirror_wire.specs.declared.list.ListRefusal.TheVariants as list
use Rattle.mirror_wire.specs.Reading.{ReadsList}
use Rattle.fetch_course.specs.declared.answer.FetchAnswer.{FetchAnswer}
use Rattle.fetch_course.specs.declared.answer.FetchAnswer.TheVariants as answer
use Rattle.fetch_course.specs.Peering.{blob_path}
use Rattle.fetch_course.specs.Courses.{FetchCourse, AsksOn, MirrorLeads, after_paths, comes_to, entry_on, known_text, line_course, lines_course, read_course, unless, wrong_list, wrong_reply, wrong_text}
use Rattle.fetch_course.specs.Laws.{NeedsNoMore}

unless_more : (w : Option FetchAnswer) (c d : FetchCourse) → (unless w c).stage ≢ AsksOn → (c.stage ≢ AsksOn → d ≡ c) → unless w d ≡ unless w c
unless_more None c d done same = same done
unless_more (Some why) c d done same = refl

line_more : (a : Archive) (at : ℕ) (before : List Entry) (line : EntryLine) (known : Option (List ℕ)) (replies more : List Reply) (rest : List Reply → List ℕ → FetchCourse)
    → ((left : List Reply) (text : List ℕ) → (rest left text).stage ≢ AsksOn → rest (left ++ more) text ≡ rest left text)
    → (line_course a at before line known replies rest).stage ≢ AsksOn → line_course a at before line known (replies ++ more) rest ≡ line_course a at before line known replies rest
line_more a at before line (Some text) replies more rest same done = unless_more (wrong_text a.config.form at before line text) (rest replies text) (rest (replies ++ more) text) done (same replies text)
line_more a at before line None [] more rest same done = absurd (done refl)
line_more a at before line None (reply ∷ replies) more rest same done =
    ap (after_paths (blob_path a.config.name line.blob ∷ [])) (unless_more (wrong_reply a.config.form line.blob reply) (unless (wrong_text a.config.form at before line reply.body) (rest replies reply.body)) (unless (wrong_text a.config.form at before line reply.body) (rest (replies ++ more) reply.body)) done
    (λ later. unless_more (wrong_text a.config.form at before line reply.body) (rest replies reply.body) (rest (replies ++ more) reply.body) later (same replies reply.body)))

pub lines-more : (a : Archive) (next at : ℕ) (before : List Entry) (lines : List EntryLine) (replies more : List Reply) → (lines_course a next at before lines replies).stage ≢ AsksOn → lines_course a next at before lines (replies ++ more) ≡ lines_course a next at before lines replies
lines-more a next at before [] replies more done = refl
lines-more a next at before (line ∷ lines) replies more done =
    line_more a at before line (known_text a.config.form a.entries before line.blob) replies more
    (λ (left : List Reply) (text : List ℕ). lines_course a next (at + 1) (before ++ entry_on line text ∷ []) lines left)
    (λ left text later. lines-more a next (at + 1) (before ++ entry_on line text ∷ []) lines left more later) done

read_more : (a : Archive) (replies more : List Reply) (read : Result MirrorList ListRefusal) → (read_course a replies read).stage ≢ AsksOn → read_course a (replies ++ more) read ≡ read_course a replies read
read_more a replies more (Ok l) done = unless_more (wrong_list a l) (lines_course a l.next 4 [] l.lines replies) (lines_course a l.next 4 [] l.lines (replies ++ more)) done (lines-more a l.next 4 [] l.lines replies more)
read_more a replies more (Err (list.BadList line)) done = refl
read_more a replies more (Err list.NoMemory) done = refl

list_more : (a : Archive) (reply : Reply) (replies more : List Reply) (rest : FetchCourse) (t : Bool) → rest.stage ≢ AsksOn
    → MatchBool t ((read : Result MirrorList ListRefusal) × ReadsList a.config.form reply.body read × (rest ≡ read_course a replies read)) (rest ≡ comes_to (answer.BadReply reply.status))
    → MatchBool t ((read : Result MirrorList ListRefusal) × ReadsList a.config.form reply.body read × (rest ≡ read_course a (replies ++ more) read)) (rest ≡ comes_to (answer.BadReply reply.status))
list_more a reply replies more rest true done leads = (leads.0, leads.1, leads.2 ∙ sym (read_more a replies more leads.0 (λ asks. done (ap (λ (c : FetchCourse). c.stage) leads.2 ∙ asks))))
list_more a reply replies more rest false done leads = leads

mirror_more : (a : Archive) (replies more : List Reply) (course : FetchCourse) → course.stage ≢ AsksOn → MirrorLeads a replies course → MirrorLeads a (replies ++ more) course
mirror_more a [] more course done leads = absurd (done (ap (λ (c : FetchCourse). c.stage) leads))
mirror_more a (reply ∷ replies) more course done leads =
    (leads.0, list_more a reply replies more leads.0 (reply.status == 200) (λ asks. done (ap (λ (c : FetchCourse). c.stage) leads.2 ∙ asks)) leads.1, leads.2)

fetch_more : (m : Bool) (a : Archive) (replies more : List Reply) (course : FetchCourse) → course.stage ≢ AsksOn → MatchBool m (MirrorLeads a replies course) (course ≡ comes_to answer.NotMirror) → MatchBool m (MirrorLeads a (replies ++ more) course) (course ≡ comes_to answer.NotMirror)
fetch_more true a replies more course done leads = mirror_more a replies more course done leads
fetch_more false a replies more course done leads = leads

pub needs_no_more : NeedsNoMore
needs_no_more a replies more course leads done = fetch_more a.config.mirror a replies more course done leads
