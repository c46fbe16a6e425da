-- Sections are spans of the text or fields of a header, and messages inside have the same sections.
use Rattle.std.proofs.Common.{◌≡◌, ℕ, ◌-◌, Bool, true, false, cond, eqb, List, [], ◌∷◌, ◌++◌, take, drop, Option, Some, None, refl, sym, ap, ◌∙◌, subst, append_assoc, append-nil}
use Rattle.std.specs.Prelude.{option_and_then}
use Rattle.std.proofs.lemmas.List.{take-append-drop}
use Rattle.mail_reader.specs.Bodies.{body_of}
use Rattle.mail_reader.specs.Laws.{IsPieceOf, PartsLieIn, wholes}
use Rattle.mail_reader.specs.Fields.{fields_of}
use Rattle.mime_parts.specs.declared.part.Part.{Part}
use Rattle.mime_parts.specs.declared.part.Span.{Span}
use Rattle.mime_parts.specs.declared.part.Shape.{Shape}
use Rattle.mime_parts.specs.declared.part.Shape.TheVariants.{Leaf, Message, Multipart}
use Rattle.mime_parts.specs.Trees.{bytes_at}
use Rattle.imap_structure.specs.Forests.{Forest, Bare, Tree}
use Rattle.imap_syntax.specs.declared.items.SectionText.{SectionText}
use Rattle.imap_syntax.specs.declared.items.SectionText.TheVariants as asked
use Rattle.imap_items.specs.Sections.{PlaceText, place_of, whole_mail, nth_tree, part_of, part_of_message, part_by, part_at, place_at, header_bytes, of_message, source_in}
use Rattle.imap_items.specs.Laws.{IsSectionOf, SectionsAreSpans, is_inside, InnerMailsAgree}

-- The bytes of a span are a piece of the text.
span_lies : (text : List ℕ) (n m : ℕ) → IsPieceOf (take n (drop m text)) text
span_lies text n m = record {
  before = take m text;
  after = drop n (drop m text);
  is = sym (take-append-drop m text) ∙ ap (λ t. take m text ++ t) (sym (take-append-drop n (drop m text)));
}

at_lies : (text : List ℕ) (s : Span) → IsPieceOf (bytes_at text s) text
at_lies text s = span_lies text (s.end - s.start) s.start

-- A piece of a piece is one.
lies_in : (a b c : List ℕ) → IsPieceOf a b → IsPieceOf b c → IsPieceOf a c
lies_in a b c x y = record {
  before = y.before ++ x.before;
  after = x.after ++ y.after;
  is = y.is ∙ ap (λ t. y.before ++ (t ++ y.after)) x.is
      ∙ ap (λ t. y.before ++ t) (append_assoc x.before (a ++ x.after) y.after ∙ ap (λ t. x.before ++ t) (append_assoc a x.after y.after))
      ∙ sym (append_assoc y.before x.before (a ++ (x.after ++ y.after)));
}

whole_lies : (text : List ℕ) → IsPieceOf text text
whole_lies text = record { before = []; after = []; is = sym (append-nil text) }

nothing_lies : (text : List ℕ) → IsPieceOf [] text
nothing_lies text = record { before = []; after = text; is = refl }

body_lies : (bytes : List ℕ) → PartsLieIn → IsPieceOf (body_of bytes) bytes
body_lies bytes law =
    let parts = law bytes in record {
      before = wholes (fields_of bytes) ++ parts.empty_line;
      after = [];
      is = parts.whole ∙ sym (append_assoc (wholes (fields_of bytes)) parts.empty_line (body_of bytes)) ∙ ap (λ t. (wholes (fields_of bytes) ++ parts.empty_line) ++ t) (sym (append-nil (body_of bytes)));
    }

-- The header and the body of a place are pieces of the text.
record IsPlaced (text : List ℕ) (place : PlaceText) : Type 0 where
  header : IsPieceOf place.header text
  body : IsPieceOf place.body text

-- Whatever was found is.
IfPlaced : List ℕ → Option PlaceText → Type 0
IfPlaced text None = Unit {0}
IfPlaced text (Some place) = IsPlaced text place

part_placed : (text : List ℕ) (p : Part) (below : Forest) → IsPlaced text (place_of text p below)
part_placed text p below = record { header = at_lies text p.header; body = at_lies text p.body }

one_placed : (text : List ℕ) (t : Bool) (p : Part) (below : Forest) (other : Option PlaceText) → IfPlaced text other → IfPlaced text (cond t (Some (place_of text p below)) other)
unfolding IfPlaced
one_placed text true p below other h = part_placed text p below
one_placed text false p below other h = h

nth_placed : (text : List ℕ) (n : ℕ) (f : Forest) → IfPlaced text (nth_tree text n f)
unfolding IfPlaced
nth_placed text n Bare = tt
nth_placed text n (Tree p below beside) = one_placed text (eqb n 1) p below (nth_tree text (n - 1) beside) (nth_placed text (n - 1) beside)

of_placed : (text : List ℕ) (n : ℕ) (shape : Shape) (p : Part) (below : Forest) → IfPlaced text (part_of text n shape p below)
unfolding IfPlaced
of_placed text n Leaf p below = one_placed text (eqb n 1) p below None tt
of_placed text n Message p below = one_placed text (eqb n 1) p below None tt
of_placed text n Multipart p below = nth_placed text n below

message_placed : (text : List ℕ) (n : ℕ) (f : Forest) → IfPlaced text (part_of_message text n f)
unfolding IfPlaced
message_placed text n Bare = tt
message_placed text n (Tree p below beside) = of_placed text n p.shape p below

by_placed : (text : List ℕ) (n : ℕ) (shape : Shape) (f : Forest) → IfPlaced text (part_by text n shape f)
unfolding IfPlaced
by_placed text n Leaf f = tt
by_placed text n Message f = message_placed text n f
by_placed text n Multipart f = nth_placed text n f

then_placed : (text numbers : List ℕ) (found : Option PlaceText) → ((place : PlaceText) → IsPlaced text place → IfPlaced text (place_at text numbers place)) → IfPlaced text found
    → IfPlaced text (option_and_then (place_at text numbers) found)
unfolding IfPlaced
then_placed text numbers None f h = tt
then_placed text numbers (Some place) f h = f place h

at_placed : (text numbers : List ℕ) (place : PlaceText) → IsPlaced text place → IfPlaced text (place_at text numbers place)
unfolding IfPlaced
at_placed text [] place h = h
at_placed text (n ∷ ns) place h = then_placed text ns (part_at text n place) (at_placed text ns) (by_placed text n place.shape place.below)

-- What a section has of such a place is as the law says.
IfSection : SectionText → List ℕ → Option (List ℕ) → Type 0
IfSection what text None = Unit {0}
IfSection what text (Some source) = IsSectionOf what text source

of_message_section : (shape : Shape) (what : SectionText) (text source : List ℕ) → IsSectionOf what text source → IfSection what text (of_message shape source)
unfolding IfSection
of_message_section Leaf what text source h = tt
of_message_section Message what text source h = h
of_message_section Multipart what text source h = tt

in_place : (what : SectionText) (text : List ℕ) (place : PlaceText) → PartsLieIn → IsPlaced text place → IfSection what text (source_in what place)
unfolding IfSection
in_place asked.Whole text place law h = h.body
in_place asked.Header text place law h =
    of_message_section place.shape asked.Header text (header_bytes asked.Header place.body) (record { message = place.body; lies = h.body; is = refl })
in_place (asked.Fields names) text place law h =
    of_message_section place.shape (asked.Fields names) text (header_bytes (asked.Fields names) place.body) (record { message = place.body; lies = h.body; is = refl })
in_place (asked.FieldsNot names) text place law h =
    of_message_section place.shape (asked.FieldsNot names) text (header_bytes (asked.FieldsNot names) place.body) (record { message = place.body; lies = h.body; is = refl })
in_place asked.Text text place law h = of_message_section place.shape asked.Text text (body_of place.body) (lies_in (body_of place.body) place.body text (body_lies place.body law) h.body)
in_place asked.Mime text place law h = record { header = place.header; lies = h.header; is = refl }

in_found : (what : SectionText) (text : List ℕ) (found : Option PlaceText) → PartsLieIn → IfPlaced text found → IfSection what text (option_and_then (source_in what) found)
unfolding IfPlaced IfSection
in_found what text None law h = tt
in_found what text (Some place) law h = in_place what text place law h

whole_placed : (text : List ℕ) → IsPlaced text (whole_mail text)
whole_placed text = record { header = nothing_lies text; body = whole_lies text }

pub sections-spans : PartsLieIn → SectionsAreSpans
unfolding IfSection
sections-spans law text source section is =
    subst (IfSection section.text text) is (in_found section.text text (place_at text section.part (whole_mail text)) law (at_placed text section.part (whole_mail text) (whole_placed text)))

-- A section of a message place is told by its body.
inner_source : (what : SectionText) (place : PlaceText) (shape : Shape) → place.shape ≡ shape → shape ≡ Message → is_inside what ≡ true → source_in what place ≡ source_in what (whole_mail place.body)
inner_source asked.Whole place shape e f h = refl
inner_source asked.Header place shape e f h = ap (λ (s : Shape). of_message s (header_bytes asked.Header place.body)) (e ∙ f)
inner_source (asked.Fields names) place shape e f h = ap (λ (s : Shape). of_message s (header_bytes (asked.Fields names) place.body)) (e ∙ f)
inner_source (asked.FieldsNot names) place shape e f h = ap (λ (s : Shape). of_message s (header_bytes (asked.FieldsNot names) place.body)) (e ∙ f)
inner_source asked.Text place shape e f h = ap (λ (s : Shape). of_message s (body_of place.body)) (e ∙ f)
inner_source asked.Mime place shape e f h = absurd (let z = h in cc)

pub inner-agree : InnerMailsAgree
inner-agree text numbers place what found is inside =
    ap (option_and_then (source_in what)) found ∙ inner_source what place place.shape refl is inside
