-- The function that reads heads reads them as the grammar has it.
use Rattle.std.proofs.Common.{◌≡◌, ◌<◌, ◌≤◌, ℕ, zero, suc, Bool, true, false, not, ◌||◌, ◌==◌, cond, List, [], ◌∷◌, ◌++◌, length, map, flat_map, All, Option, Some, None, refl, sym, ap, ◌∙◌, arith, append_assoc, append-nil, if◌then◌else◌}
use Rattle.std.proofs.Math.Seq.{drop-append-add}
use Rattle.std.proofs.lemmas.Bool.{and_parts, and_from, false_from_ne_true, leb-true, le-leb, ltb-true, lt-ltb}
use Rattle.std.proofs.lemmas.Bool.Decides.{Decides-eqb}
use Rattle.std.proofs.lemmas.List.Concat.{flat_map-cons}
use Rattle.std.proofs.lemmas.List.Elements.{All-nil, All-cons, All-head, All-tail, All-append}
use Rattle.std.proofs.lemmas.List.Splits.{slice_split_none, slice_split_at}
use Rattle.std.proofs.lemmas.List.Sums.{AllPass-from_list_all, list_all-from_AllPass}
use Rattle.std.proofs.lemmas.Slice.Eq.{bytes_eq-Decides}
use Rattle.std.proofs.lemmas.Str.{IsUtf8-from_is_utf8, is_utf8-from_IsUtf8}
use Rattle.std.specs.List.{list_all, list_any}
use Rattle.httparse.specs.Grammar.{is_token_byte, is_uri_byte, is_value_byte, AllPass, IsToken, is_token, LineEnd, crlf, lf, print_end, print_blank, print_version, Field, print_field, IsField, print_section, RequestHead, print_request, IsRequestHead}
use Rattle.httparse.proofs.GrammarLemmas.{print_request-append, cons-append}
use Rattle.http_heads.specs.Heads.{IsHead, asked_of}
use Rattle.http_heads.specs.Pieces.{pieces_of}
use Rattle.http_front.specs.Asking.{IsHeadReading}
use Rattle.http_front.specs.Reading.{is_return, content, ending, is_empty, ends_before, lines_after, first_piece, field_named, field_by, fields_in, last_in, minor_of, head_by, head_from, head_in, is_field, is_valid, is_head, asked_if, asked_in}

-- Bytes among which one doesn't stand.
abbrev Lacks : ℕ → List ℕ → Type 0
Lacks stop bytes = All (λ (b : ℕ). (b == stop) ≡ false) bytes

apart : (test : ℕ → Bool) (stop b : ℕ) → test stop ≡ false → test b ≡ true → (b == stop) ≡ false
apart test stop b out in_it = false_from_ne_true (b == stop) (λ e. cc (sym in_it ∙ ap test ((Decides-eqb b stop).0 e) ∙ out))

-- The bytes of a class, of which this one isn't.
lacks-class : (test : ℕ → Bool) (stop : ℕ) (bytes : List ℕ) → test stop ≡ false → AllPass test bytes → Lacks stop bytes
lacks-class test stop bytes out all = λ i d l. apart test stop _ out (all i d l)

lacks-token : (stop : ℕ) (bytes : List ℕ) → is_token_byte stop ≡ false → AllPass is_token_byte bytes → Lacks stop bytes
lacks-token stop bytes out all = lacks-class is_token_byte stop bytes out all

no-token-10 : is_token_byte 10 ≡ false
unfolding is_token_byte
no-token-10 = refl

no-token-13 : is_token_byte 13 ≡ false
unfolding is_token_byte
no-token-13 = refl

no-token-32 : is_token_byte 32 ≡ false
unfolding is_token_byte
no-token-32 = refl

no-token-58 : is_token_byte 58 ≡ false
unfolding is_token_byte
no-token-58 = refl

-- The bytes of a version are visible.
version-bytes : (minor : ℕ) → minor ≤ 1 → AllPass is_uri_byte (print_version minor)
version-bytes zero l = AllPass-from_list_all is_uri_byte (print_version 0) refl
version-bytes (suc zero) l = AllPass-from_list_all is_uri_byte (print_version 1) refl
version-bytes (suc (suc n)) l = absurd (omega (arith, l))

-- The carriage return of a line's end, if it has one.
abbrev return_of : LineEnd → List ℕ
return_of crlf = 13 ∷ []
return_of lf = []

lacks-return : (stop : ℕ) (end : LineEnd) → (13 == stop) ≡ false → Lacks stop (return_of end)
lacks-return stop crlf other = All-cons (λ (b : ℕ). (b == stop) ≡ false) 13 [] other (All-nil (λ (b : ℕ). (b == stop) ≡ false))
lacks-return stop lf other = All-nil (λ (b : ℕ). (b == stop) ≡ false)

-- Lines and their ends.

kept : (t : Bool) (b : ℕ) (bs : List ℕ) → t ≡ false → cond (not t) (b ∷ bs) bs ≡ b ∷ bs
kept true b bs e = absurd (cc e)
kept false b bs e = refl

passed : (s t : Bool) → s ≡ false → (s || t) ≡ t
passed true t e = absurd (cc e)
passed false t e = refl

content-line : (text : List ℕ) (end : LineEnd) → Lacks 13 text → content (text ++ return_of end) ≡ text
content-line [] crlf all = refl
content-line [] lf all = refl
content-line (b ∷ bs) end all =
    kept (b == 13) b (content (bs ++ return_of end)) (All-head (λ (c : ℕ). (c == 13) ≡ false) b bs all)
    ∙ ap (λ (t : List ℕ). b ∷ t) (content-line bs end (All-tail (λ (c : ℕ). (c == 13) ≡ false) b bs all))

any-line : (text : List ℕ) (end : LineEnd) → Lacks 13 text → list_any is_return (text ++ return_of end) ≡ list_any is_return (return_of end)
any-line [] end all = refl
any-line (b ∷ bs) end all =
    passed (b == 13) (list_any is_return (bs ++ return_of end)) (All-head (λ (c : ℕ). (c == 13) ≡ false) b bs all)
    ∙ any-line bs end (All-tail (λ (c : ℕ). (c == 13) ≡ false) b bs all)

end-alone : (end : LineEnd) → (if list_any is_return (return_of end) then crlf else lf) ≡ end
end-alone crlf = refl
end-alone lf = refl

ending-line : (text : List ℕ) (end : LineEnd) → Lacks 13 text → ending (text ++ return_of end) ≡ end
ending-line text end all = ap (λ (t : Bool). if t then crlf else lf) (any-line text end all) ∙ end-alone end

line-joined : (text : List ℕ) (end : LineEnd) (rest : List ℕ) → text ++ (print_end end ++ rest) ≡ (text ++ return_of end) ++ 10 ∷ rest
line-joined text crlf rest = sym (append_assoc text (13 ∷ []) (10 ∷ rest))
line-joined text lf rest = ap (λ (t : List ℕ). t ++ 10 ∷ rest) (sym (append-nil text))

-- A line, and the lines after it.
line-split : (text : List ℕ) (end : LineEnd) (rest : List ℕ) → Lacks 10 text → pieces_of 10 (text ++ (print_end end ++ rest)) ≡ (text ++ return_of end) ∷ pieces_of 10 rest
line-split text end rest all =
    ap (pieces_of 10) (line-joined text end rest)
    ∙ slice_split_at (λ (b : ℕ). b == 10) (text ++ return_of end) 10 rest (All-append (λ (b : ℕ). (b == 10) ≡ false) text (return_of end) all (lacks-return 10 end refl)) refl

some-bytes : (front back : List ℕ) → 0 < length front → is_empty (front ++ back) ≡ false
some-bytes [] back l = absurd (omega (arith, l))
some-bytes (b ∷ bs) back l = refl

-- Empty lines.

blank-lines : (ends : List LineEnd) (rest : List ℕ) → pieces_of 10 (print_blank ends ++ rest) ≡ map return_of ends ++ pieces_of 10 rest
blank-lines [] rest = refl
blank-lines (end ∷ ends) rest =
    ap (pieces_of 10) (ap (λ (t : List ℕ). t ++ rest) (flat_map-cons print_end end ends) ∙ append_assoc (print_end end) (print_blank ends) rest)
    ∙ line-split [] end (print_blank ends ++ rest) (All-nil (λ (b : ℕ). (b == 10) ≡ false))
    ∙ ap (λ (t : List (List ℕ)). return_of end ∷ t) (blank-lines ends rest)

ends-read : (ends : List LineEnd) (line : List ℕ) (lines : List (List ℕ)) → is_empty (content line) ≡ false → ends_before (map return_of ends ++ line ∷ lines) ≡ ends
ends-read [] line lines e = ap (λ (t : Bool). if t then ending line ∷ ends_before lines else []) e
ends-read (crlf ∷ ends) line lines e = ap (λ (t : List LineEnd). crlf ∷ t) (ends-read ends line lines e)
ends-read (lf ∷ ends) line lines e = ap (λ (t : List LineEnd). lf ∷ t) (ends-read ends line lines e)

after-read : (ends : List LineEnd) (line : List ℕ) (lines : List (List ℕ)) → is_empty (content line) ≡ false → lines_after (map return_of ends ++ line ∷ lines) ≡ line ∷ lines
after-read [] line lines e = ap (λ (t : Bool). if t then lines_after lines else line ∷ lines) e
after-read (crlf ∷ ends) line lines e = after-read ends line lines e
after-read (lf ∷ ends) line lines e = after-read ends line lines e

-- Fields.

abbrev field_text : Field → List ℕ
field_text field = field.name ++ 58 ∷ field.raw

lacks-field : (stop : ℕ) (field : Field) → is_token_byte stop ≡ false → is_value_byte stop ≡ false → (58 == stop) ≡ false → IsField field → Lacks stop (field_text field)
lacks-field stop field token value colon is =
    All-append (λ (b : ℕ). (b == stop) ≡ false) field.name (58 ∷ field.raw) (lacks-token stop field.name token is.name.1)
    (All-cons (λ (b : ℕ). (b == stop) ≡ false) 58 field.raw colon (lacks-class is_value_byte stop field.raw value is.raw))

-- The lines of fields, of the empty line after them, and of nothing after that.
abbrev field_lines : List Field → LineEnd → List (List ℕ)
field_lines [] last = return_of last ∷ [] ∷ []
field_lines (field ∷ fields) last = (field_text field ++ return_of field.end) ∷ field_lines fields last

field-joined : (name raw end more last rest : List ℕ) → (((name ++ 58 ∷ raw ++ end) ++ more) ++ last) ++ rest ≡ (name ++ 58 ∷ raw) ++ (end ++ ((more ++ last) ++ rest))
field-joined name raw end more last rest = simp (append_assoc, cons-append)

section-lines : (fields : List Field) (last : LineEnd) → All IsField fields → pieces_of 10 (print_section fields last ++ []) ≡ field_lines fields last
section-lines [] last all = line-split [] last [] (All-nil (λ (b : ℕ). (b == 10) ≡ false))
section-lines (field ∷ fields) last all =
    ap (pieces_of 10) (ap (λ (t : List ℕ). (t ++ print_end last) ++ []) (flat_map-cons print_field field fields) ∙ field-joined field.name field.raw (print_end field.end) (flat_map print_field fields) (print_end last) [])
    ∙ line-split (field_text field) field.end (print_section fields last ++ []) (lacks-field 10 field no-token-10 refl refl (All-head IsField field fields all))
    ∙ ap (λ (t : List (List ℕ)). (field_text field ++ return_of field.end) ∷ t) (section-lines fields last (All-tail IsField field fields all))

-- The line of a field has a name, so it isn't empty.
field-some : (field : Field) → IsField field → is_empty (content (field_text field ++ return_of field.end)) ≡ false
field-some field is =
    ap is_empty (content-line (field_text field) field.end (lacks-field 13 field no-token-13 refl refl is))
    ∙ some-bytes field.name (58 ∷ field.raw) is.name.0

-- The field with another value.
abbrev with_raw : Field → List ℕ → Field
with_raw field bytes = record { name = field.name; raw = bytes; end = field.end }

field-read : (field : Field) → IsField field → field_by (content (field_text field ++ return_of field.end)) (ending (field_text field ++ return_of field.end)) ≡ field
field-read field is =
    let all = lacks-field 13 field no-token-13 refl refl is in
    ap (λ (t : List ℕ). field_by t (ending (field_text field ++ return_of field.end))) (content-line (field_text field) field.end all)
    ∙ ap (λ (e : LineEnd). field_by (field_text field) e) (ending-line (field_text field) field.end all)
    ∙ ap (λ (n : List ℕ). field_named n (field_text field) field.end) (ap first_piece (slice_split_at (λ (b : ℕ). b == 58) field.name 58 field.raw (lacks-token 58 field.name no-token-58 is.name.1) refl))
    ∙ ap (with_raw field) (drop-append-add field.name (58 ∷ field.raw) 1)

fields-read : (fields : List Field) (last : LineEnd) → All IsField fields → fields_in (field_lines fields last) ≡ fields
fields-read [] crlf all = refl
fields-read [] lf all = refl
fields-read (field ∷ fields) last all =
    ap (λ (t : Bool). if t then [] else field_by (content (field_text field ++ return_of field.end)) (ending (field_text field ++ return_of field.end)) ∷ fields_in (field_lines fields last)) (field-some field (All-head IsField field fields all))
    ∙ ap (λ (f : Field). f ∷ fields_in (field_lines fields last)) (field-read field (All-head IsField field fields all))
    ∙ ap (λ (fs : List Field). field ∷ fs) (fields-read fields last (All-tail IsField field fields all))

last-read : (fields : List Field) (last : LineEnd) → All IsField fields → last_in (field_lines fields last) ≡ last
last-read [] crlf all = refl
last-read [] lf all = refl
last-read (field ∷ fields) last all =
    ap (λ (t : Bool). if t then ending (field_text field ++ return_of field.end) else last_in (field_lines fields last)) (field-some field (All-head IsField field fields all))
    ∙ last-read fields last (All-tail IsField field fields all)

-- The first line.

abbrev start_text : RequestHead → List ℕ
start_text head = head.method ++ 32 ∷ (head.target ++ 32 ∷ print_version head.minor)

lacks-start : (stop : ℕ) (head : RequestHead) → is_token_byte stop ≡ false → is_uri_byte stop ≡ false → (32 == stop) ≡ false → IsRequestHead head → Lacks stop (start_text head)
lacks-start stop head token uri space is =
    All-append (λ (b : ℕ). (b == stop) ≡ false) head.method (32 ∷ (head.target ++ 32 ∷ print_version head.minor)) (lacks-token stop head.method token is.method.1)
    (All-cons (λ (b : ℕ). (b == stop) ≡ false) 32 (head.target ++ 32 ∷ print_version head.minor) space
    (All-append (λ (b : ℕ). (b == stop) ≡ false) head.target (32 ∷ print_version head.minor) (lacks-class is_uri_byte stop head.target uri is.target.1)
    (All-cons (λ (b : ℕ). (b == stop) ≡ false) 32 (print_version head.minor) space (lacks-class is_uri_byte stop (print_version head.minor) uri (version-bytes head.minor is.minor)))))

start-words : (head : RequestHead) → IsRequestHead head → pieces_of 32 (start_text head) ≡ head.method ∷ head.target ∷ print_version head.minor ∷ []
start-words head is =
    slice_split_at (λ (b : ℕ). b == 32) head.method 32 (head.target ++ 32 ∷ print_version head.minor) (lacks-token 32 head.method no-token-32 is.method.1) refl
    ∙ ap (λ (t : List (List ℕ)). head.method ∷ t) (slice_split_at (λ (b : ℕ). b == 32) head.target 32 (print_version head.minor) (lacks-class is_uri_byte 32 head.target refl is.target.1) refl)
    ∙ ap (λ (t : List (List ℕ)). head.method ∷ head.target ∷ t) (slice_split_none (λ (b : ℕ). b == 32) (print_version head.minor) (lacks-class is_uri_byte 32 (print_version head.minor) refl (version-bytes head.minor is.minor)))

minor-read : (minor : ℕ) → minor ≤ 1 → minor_of (print_version minor) ≡ minor
minor-read zero l = refl
minor-read (suc zero) l = refl
minor-read (suc (suc n)) l = absurd (omega (arith, l))

-- The line of a head, and all its lines.
abbrev start_line : RequestHead → List ℕ
start_line head = start_text head ++ return_of head.line_end

start-joined : (method target version end rest : List ℕ) → method ++ 32 ∷ (target ++ 32 ∷ (version ++ (end ++ rest))) ≡ (method ++ 32 ∷ (target ++ 32 ∷ version)) ++ (end ++ rest)
start-joined method target version end rest = simp (append_assoc, cons-append)

head-lines : (head : RequestHead) → IsRequestHead head → pieces_of 10 (print_request head ++ []) ≡ map return_of head.blank ++ start_line head ∷ field_lines head.fields head.last
head-lines head is =
    ap (pieces_of 10) (print_request-append head [])
    ∙ blank-lines head.blank (head.method ++ 32 ∷ (head.target ++ 32 ∷ (print_version head.minor ++ (print_end head.line_end ++ (print_section head.fields head.last ++ [])))))
    ∙ ap (λ (t : List (List ℕ)). map return_of head.blank ++ t) (
    ap (pieces_of 10) (start-joined head.method head.target (print_version head.minor) (print_end head.line_end) (print_section head.fields head.last ++ []))
    ∙ line-split (start_text head) head.line_end (print_section head.fields head.last ++ []) (lacks-start 10 head no-token-10 refl refl is)
    ∙ ap (λ (t : List (List ℕ)). start_line head ∷ t) (section-lines head.fields head.last is.fields))

-- A head with another minor version, other fields and another end.
abbrev with_parts : RequestHead → ℕ → List Field → LineEnd → Option RequestHead
with_parts head n fs end =
    Some (record { blank = head.blank; method = head.method; target = head.target; minor = n; line_end = head.line_end; fields = fs; last = end })

-- The lines of a head are read as it.
head-by : (head : RequestHead) → IsRequestHead head → head_by head.blank head.line_end (head.method ∷ head.target ∷ print_version head.minor ∷ []) (field_lines head.fields head.last) ≡ Some head
head-by head is =
    ap (λ (n : ℕ). with_parts head n (fields_in (field_lines head.fields head.last)) (last_in (field_lines head.fields head.last))) (minor-read head.minor is.minor)
    ∙ ap (λ (fs : List Field). with_parts head head.minor fs (last_in (field_lines head.fields head.last))) (fields-read head.fields head.last is.fields)
    ∙ ap (λ (end : LineEnd). with_parts head head.minor head.fields end) (last-read head.fields head.last is.fields)

head-read : (head : RequestHead) → IsRequestHead head → head_in (pieces_of 10 (print_request head ++ [])) ≡ Some head
head-read head is =
    let all = lacks-start 13 head no-token-13 refl refl is in
    let content_is = content-line (start_text head) head.line_end all in
    let some = ap is_empty content_is ∙ some-bytes head.method (32 ∷ (head.target ++ 32 ∷ print_version head.minor)) is.method.0 in
    ap head_in (head-lines head is)
    ∙ ap (λ (ends : List LineEnd). head_from ends (lines_after (map return_of head.blank ++ start_line head ∷ field_lines head.fields head.last))) (ends-read head.blank (start_line head) (field_lines head.fields head.last) some)
    ∙ ap (head_from head.blank) (after-read head.blank (start_line head) (field_lines head.fields head.last) some)
    ∙ ap (λ (end : LineEnd). head_by head.blank end (pieces_of 32 (content (start_line head))) (field_lines head.fields head.last)) (ending-line (start_text head) head.line_end all)
    ∙ ap (λ (text : List ℕ). head_by head.blank head.line_end (pieces_of 32 text) (field_lines head.fields head.last)) content_is
    ∙ ap (λ (words : List (List ℕ)). head_by head.blank head.line_end words (field_lines head.fields head.last)) (start-words head is)
    ∙ head-by head is

-- The tests are those of the grammar.

token-is : (bytes : List ℕ) → is_token bytes ≡ true → IsToken bytes
token-is bytes e = let both = and_parts _ _ e in (ltb-true _ _ both.0, AllPass-from_list_all is_token_byte bytes both.1)

is-token : (bytes : List ℕ) → IsToken bytes → is_token bytes ≡ true
is-token bytes is = and_from _ _ (lt-ltb _ _ is.0) (list_all-from_AllPass is_token_byte bytes is.1)

field-is : (field : Field) → is_field field ≡ true → IsField field
field-is field e = let both = and_parts _ _ e in record { name = token-is field.name both.0; raw = AllPass-from_list_all is_value_byte field.raw both.1 }

is-field : (field : Field) → IsField field → is_field field ≡ true
is-field field is = and_from _ _ (is-token field.name is.name) (list_all-from_AllPass is_value_byte field.raw is.raw)

fields-are : (fields : List Field) → list_all is_field fields ≡ true → All IsField fields
fields-are [] e = All-nil IsField
fields-are (field ∷ fields) e = let both = and_parts _ _ e in All-cons IsField field fields (field-is field both.0) (fields-are fields both.1)

are-fields : (fields : List Field) → All IsField fields → list_all is_field fields ≡ true
are-fields [] all = refl
are-fields (field ∷ fields) all = and_from _ _ (is-field field (All-head IsField field fields all)) (are-fields fields (All-tail IsField field fields all))

valid-is : (head : RequestHead) → is_valid head ≡ true → IsRequestHead head
valid-is head e =
    let both = and_parts _ _ e in
    let words = and_parts _ _ both.0 in
    let target = and_parts _ _ words.1 in
    let visible = and_parts _ _ target.0 in
    let others = and_parts _ _ both.1 in record {
      method = token-is head.method words.0;
      target = (ltb-true _ _ visible.0, AllPass-from_list_all is_uri_byte head.target visible.1);
      target_text = IsUtf8-from_is_utf8 head.target target.1;
      minor = leb-true _ _ others.0;
      fields = fields-are head.fields others.1;
    }

is-valid : (head : RequestHead) → IsRequestHead head → is_valid head ≡ true
is-valid head is =
    and_from _ _ (and_from _ _ (is-token head.method is.method) (and_from _ _ (and_from _ _ (lt-ltb _ _ is.target.0) (list_all-from_AllPass is_uri_byte head.target is.target.1)) (is_utf8-from_IsUtf8 head.target is.target_text)))
    (and_from _ _ (le-leb _ _ is.minor) (are-fields head.fields is.fields))

head-is : (bytes : List ℕ) (head : RequestHead) → is_head bytes head ≡ true → IsHead bytes head
head-is bytes head e =
    let both = and_parts _ _ e in
    let others = and_parts _ _ both.1 in
    record { reads = (valid-is head both.0, (bytes_eq-Decides bytes (print_request head)).0 others.1 ∙ sym (append-nil (print_request head))); few = leb-true _ _ others.0 }

is-head : (bytes : List ℕ) (head : RequestHead) → IsHead bytes head → is_head bytes head ≡ true
is-head bytes head is =
    and_from _ _ (is-valid head is.reads.0) (and_from _ _ (le-leb _ _ is.few) ((bytes_eq-Decides bytes (print_request head)).1 (is.reads.1 ∙ append-nil (print_request head))))

-- What is no head asks nothing.
none-asked : (bytes : List ℕ) → ((head : RequestHead) → IsHead bytes head → ⊥) → (found : Option RequestHead) → asked_if bytes found ≡ None
none-asked bytes never None = refl
none-asked bytes never (Some head) = by-test (is_head bytes head) (head-is bytes head)
  where
    by-test : (t : Bool) → (t ≡ true → IsHead bytes head) → (if t then Some (asked_of head) else None) ≡ None
    by-test true is = absurd (never head (is refl))
    by-test false is = refl

some-asked : (bytes : List ℕ) (head : RequestHead) → IsHead bytes head → asked_if bytes (head_in (pieces_of 10 bytes)) ≡ Some (asked_of head)
some-asked bytes head is =
    ap (λ (text : List ℕ). asked_if bytes (head_in (pieces_of 10 text))) is.reads.1
    ∙ ap (asked_if bytes) (head-read head is.reads.0)
    ∙ ap (λ (t : Bool). if t then Some (asked_of head) else None) (is-head bytes head is)

pub reads-heads : IsHeadReading asked_in
unfolding asked_in
reads-heads = record {
  head = λ bytes head is. some-asked bytes head is;
  none = λ bytes never. none-asked bytes never (head_in (pieces_of 10 bytes));
}
