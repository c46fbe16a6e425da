-- Parentheses balance in structures and envelopes, outside of strings.
use Rattle.std.proofs.Common.{◌≡◌, ℕ, zero, suc, ◌+◌, ◌<◌, ◌/◌, ◌%◌, ◌==◌, Bool, true, false, cond, not, nat_lt, eqb, List, [], ◌∷◌, ◌++◌, length, codes, Option, Some, None, refl, sym, ap, ◌∙◌, subst, arith, append_assoc, append-nil}
use Rattle.std.specs.List.{list_all, flat_map}
use Rattle.std.specs.Fmt.{decimal, digits, digits_onto, digit_glyph}
use Rattle.std.specs.Str.{str_eq_ignore_ascii_case}
use Rattle.std.proofs.lemmas.Bool.{and_parts}
use Rattle.std.proofs.lemmas.Bool.Decides.{nat_tests}
use Rattle.mail_address.specs.declared.address.Address.{Address}
use Rattle.mail_address.specs.declared.address.AddressKind.{AddressKind}
use Rattle.mail_address.specs.declared.address.AddressKind.TheVariants.{Mailbox, GroupStart, GroupEnd}
use Rattle.mail_forms.specs.WireForms.{wire_of, feeds_of}
use Rattle.mime_parts.specs.declared.part.Part.{Part}
use Rattle.mime_parts.specs.declared.part.Shape.{Shape}
use Rattle.mime_parts.specs.declared.part.Shape.TheVariants.{Leaf, Message, Multipart}
use Rattle.mime_parts.specs.Headings.{flat_first}
use Rattle.mime_parts.specs.Trees.{bytes_at, tree_of}
use Rattle.imap_structure.specs.Strings.{string_of, nstring_of, spaced_string, strings_of}
use Rattle.imap_structure.specs.Envelopes.{addresses_in, name_text, address_by, address_text, addresses_text, or_else, field_text, field_addresses, field_or_from, envelope_texts, envelope_senders, envelope_recipients, envelope_ids, envelope_of}
use Rattle.imap_structure.specs.Forests.{Forest, Bare, Tree, forest_of}
use Rattle.imap_structure.specs.Structures.{is_mail, told_major, told_minor, type_facts, name_facts, size_facts, facts_of, lines_text, leaf_lines, opening_by, closing_by, opening_of, closing_of, structure, structure_of}
use Rattle.imap_structure.specs.Laws.{is_mark, IsNested, Nothing, Plain, String, Nested, ParenthesesBalance}

-- One text after another.
pub nested-more : (a b : List ℕ) → IsNested a → IsNested b → IsNested (a ++ b)
nested-more a b Nothing h = h
nested-more a b (Plain x rest m r) h = Plain x (rest ++ b) m (nested-more rest b r h)
nested-more a b (String bytes rest r) h = subst IsNested (sym (append_assoc (string_of bytes) rest b)) (String bytes (rest ++ b) (nested-more rest b r h))
nested-more a b (Nested inner rest i r) h =
    subst IsNested (sym (append_assoc (codes "(" ++ inner ++ codes ")") rest b)) (Nested inner (rest ++ b) i (nested-more rest b r h))

-- Bytes that mark nothing.
pub plain-nested : (bytes : List ℕ) → list_all (λ b. not (is_mark b)) bytes ≡ true → IsNested bytes
plain-nested [] h = Nothing
plain-nested (b ∷ bs) h =
    let parts = and_parts (not (is_mark b)) (list_all (λ b. not (is_mark b)) bs) h in
    Plain b bs (unmarked (is_mark b) parts.0) (plain-nested bs parts.1)
  where
    unmarked : (t : Bool) → not t ≡ true → t ≡ false
    unmarked true e = absurd (cc e)
    unmarked false e = refl

string-nested : (bytes : List ℕ) → IsNested (string_of bytes)
string-nested bytes = subst IsNested (append-nil (string_of bytes)) (String bytes [] Nothing)

-- A text in parentheses.
in_parens : (inner : List ℕ) → IsNested inner → IsNested (codes "(" ++ inner ++ codes ")")
in_parens inner h = subst IsNested (append-nil (codes "(" ++ inner ++ codes ")")) (Nested inner [] h Nothing)

space : IsNested (codes " ")
space = plain-nested (codes " ") refl

nil : IsNested (codes "NIL")
nil = plain-nested (codes "NIL") refl

-- Two texts with a space between them.
spaced : (a b : List ℕ) → IsNested a → IsNested b → IsNested (a ++ codes " " ++ b)
spaced a b h k = nested-more (a ++ codes " ") b (nested-more a (codes " ") h space) k

-- Digits mark nothing.
digit_plain : (d : ℕ) → d < 10 → is_mark (digit_glyph false d) ≡ false
digit_plain d h = step (nat_lt d 10) (grind (arith, nat_tests, h))
  where
    step : (t : Bool) → t ≡ true → is_mark (cond t (48 + d) (87 + d)) ≡ false
    step true e = grind (arith, nat_tests, h)
    step false e = absurd (cc e)

digits_nested : (k n : ℕ) (acc : List ℕ) → IsNested acc → IsNested (digits_onto k 10 false n acc)
digits_nested zero n acc h = h
digits_nested (suc k) n acc h =
    let here : IsNested (digit_glyph false (n % 10) ∷ acc) = Plain (digit_glyph false (n % 10)) acc (digit_plain (n % 10) (omega arith)) h in
    step (eqb (n / 10) 0) here (digits_nested k (n / 10) (digit_glyph false (n % 10) ∷ acc) here)
  where
    step : (t : Bool) → IsNested (digit_glyph false (n % 10) ∷ acc) → IsNested (digits_onto k 10 false (n / 10) (digit_glyph false (n % 10) ∷ acc))
        → IsNested (cond t (digit_glyph false (n % 10) ∷ acc) (digits_onto k 10 false (n / 10) (digit_glyph false (n % 10) ∷ acc)))
    step true a b = a
    step false a b = b

decimal-nested : (n : ℕ) → IsNested (decimal n)
unfolding digits
decimal-nested n = digits_nested 64 n [] Nothing

-- Strings that may be absent, and lists of strings.
nstring-nested : (bytes : Option (List ℕ)) → IsNested (nstring_of bytes)
nstring-nested None = nil
nstring-nested (Some bytes) = string-nested bytes

spaced_strings : (strings : List (List ℕ)) → IsNested (flat_map spaced_string strings)
spaced_strings [] = Nothing
spaced_strings (s ∷ ss) = nested-more (spaced_string s) (flat_map spaced_string ss) (nested-more (codes " ") (string_of s) space (string-nested s)) (spaced_strings ss)

strings-nested : (strings : List (List ℕ)) → IsNested (strings_of strings)
strings-nested [] = nil
strings-nested (s ∷ ss) =
    subst IsNested (ap (λ t. t ++ codes ")") (sym (append_assoc (codes "(") (string_of s) (flat_map spaced_string ss))))
    (in_parens (string_of s ++ flat_map spaced_string ss) (nested-more (string_of s) (flat_map spaced_string ss) (string-nested s) (spaced_strings ss)))

-- Addresses.
name-nested : (name : List ℕ) → IsNested (name_text name)
name-nested [] = nil
name-nested (b ∷ bs) = string-nested (b ∷ bs)

mailbox-nested : (a : Address) → IsNested (address_by Mailbox a)
mailbox-nested a =
    let route = nested-more (name_text a.name) (codes " NIL ") (name-nested a.name) (plain-nested (codes " NIL ") refl) in
    let mailbox = nested-more (name_text a.name ++ codes " NIL ") (string_of a.mailbox) route (string-nested a.mailbox) in
    in_parens (name_text a.name ++ codes " NIL " ++ string_of a.mailbox ++ codes " " ++ string_of a.host)
    (spaced (name_text a.name ++ codes " NIL " ++ string_of a.mailbox) (string_of a.host) mailbox (string-nested a.host))

start-nested : (a : Address) → IsNested (address_by GroupStart a)
start-nested a =
    let name = nested-more (codes "NIL NIL ") (string_of a.name) (plain-nested (codes "NIL NIL ") refl) (string-nested a.name) in
    let inner = nested-more (codes "NIL NIL " ++ string_of a.name) (codes " NIL") name (plain-nested (codes " NIL") refl) in
    subst IsNested (ap (λ t. codes "(NIL NIL " ++ t) (append_assoc (string_of a.name) (codes " NIL") (codes ")"))) (in_parens (codes "NIL NIL " ++ string_of a.name ++ codes " NIL") inner)

end-nested : (a : Address) → IsNested (address_by GroupEnd a)
end-nested a = in_parens (codes "NIL NIL NIL NIL") (plain-nested (codes "NIL NIL NIL NIL") refl)

kind-nested : (kind : AddressKind) (a : Address) → IsNested (address_by kind a)
kind-nested Mailbox a = mailbox-nested a
kind-nested GroupStart a = start-nested a
kind-nested GroupEnd a = end-nested a

each-nested : (addresses : List Address) → IsNested (flat_map address_text addresses)
each-nested [] = Nothing
each-nested (a ∷ addresses) = nested-more (address_text a) (flat_map address_text addresses) (kind-nested a.kind a) (each-nested addresses)

addresses-nested : (addresses : List Address) → IsNested (addresses_text addresses)
unfolding addresses_text
addresses-nested [] = nil
addresses-nested (a ∷ addresses) = in_parens (flat_map address_text (a ∷ addresses)) (each-nested (a ∷ addresses))

-- The values of an envelope, and an envelope.
field-nested : (name bytes : List ℕ) → IsNested (field_text name bytes)
field-nested name bytes = nstring-nested (flat_first name bytes)

texts-nested : (bytes : List ℕ) → IsNested (envelope_texts bytes)
unfolding envelope_texts
texts-nested bytes = spaced (field_text (codes "Date") bytes) (field_text (codes "Subject") bytes) (field-nested (codes "Date") bytes) (field-nested (codes "Subject") bytes)

senders-nested : (bytes : List ℕ) → IsNested (envelope_senders bytes)
unfolding envelope_senders
senders-nested bytes =
    let from = field_addresses (codes "From") bytes in let sender = field_or_from (codes "Sender") bytes in let reply = field_or_from (codes "Reply-To") bytes in
    spaced (from ++ codes " " ++ sender) reply (spaced from sender (addresses-nested _) (addresses-nested _)) (addresses-nested _)

recipients-nested : (bytes : List ℕ) → IsNested (envelope_recipients bytes)
unfolding envelope_recipients
recipients-nested bytes =
    let to = field_addresses (codes "To") bytes in let copies = field_addresses (codes "Cc") bytes in let blind = field_addresses (codes "Bcc") bytes in
    spaced (to ++ codes " " ++ copies) blind (spaced to copies (addresses-nested _) (addresses-nested _)) (addresses-nested _)

ids-nested : (bytes : List ℕ) → IsNested (envelope_ids bytes)
unfolding envelope_ids
ids-nested bytes = spaced (field_text (codes "In-Reply-To") bytes) (field_text (codes "Message-ID") bytes) (field-nested (codes "In-Reply-To") bytes) (field-nested (codes "Message-ID") bytes)

-- The ten values between the parentheses.
values : (t s r i : List ℕ) → IsNested t → IsNested s → IsNested r → IsNested i
    → IsNested (codes "(" ++ t ++ codes " " ++ s ++ codes " " ++ r ++ codes " " ++ i ++ codes ")")
values t s r i a b c d =
    in_parens (t ++ codes " " ++ s ++ codes " " ++ r ++ codes " " ++ i)
    (spaced (t ++ codes " " ++ s ++ codes " " ++ r) i (spaced (t ++ codes " " ++ s) r (spaced t s a b) c) d)

pub envelope-nested : (bytes : List ℕ) → IsNested (envelope_of bytes)
envelope-nested bytes =
    values (envelope_texts bytes) (envelope_senders bytes) (envelope_recipients bytes) (envelope_ids bytes) (texts-nested bytes) (senders-nested bytes) (recipients-nested bytes) (ids-nested bytes)

-- What is told of a part.
type-nested : (major minor : List ℕ) (p : Part) → IsNested (type_facts major minor p)
unfolding type_facts
type-nested major minor p =
    spaced (string_of major ++ codes " " ++ string_of minor) (strings_of p.params) (spaced (string_of major) (string_of minor) (string-nested major) (string-nested minor)) (strings-nested p.params)

names-nested : (text : List ℕ) (p : Part) → IsNested (name_facts text p)
unfolding name_facts
names-nested text p = spaced (field_text (codes "Content-ID") (bytes_at text p.header)) (field_text (codes "Content-Description") (bytes_at text p.header)) (field-nested (codes "Content-ID") (bytes_at text p.header)) (field-nested (codes "Content-Description") (bytes_at text p.header))

size-nested : (text : List ℕ) (p : Part) → IsNested (size_facts text p)
unfolding size_facts
size-nested text p = spaced (string_of p.encoding_name) (decimal (length (wire_of (bytes_at text p.body)))) (string-nested p.encoding_name) (decimal-nested _)

-- The same without the parenthesis at its front.
abbrev facts_inside : List ℕ → List ℕ → List ℕ → Part → List ℕ
facts_inside major minor text p = type_facts major minor p ++ codes " " ++ name_facts text p ++ codes " " ++ size_facts text p

facts-nested : (major minor text : List ℕ) (p : Part) → IsNested (facts_inside major minor text p)
facts-nested major minor text p =
    spaced (type_facts major minor p ++ codes " " ++ name_facts text p) (size_facts text p)
    (spaced (type_facts major minor p) (name_facts text p) (type-nested major minor p) (names-nested text p)) (size-nested text p)

lines-nested : (text : List ℕ) (p : Part) → IsNested (lines_text text p)
lines-nested text p = nested-more (codes " ") (decimal (feeds_of (bytes_at text p.body))) space (decimal-nested _)

leaf-nested : (text : List ℕ) (p : Part) → IsNested (leaf_lines text p)
leaf-nested text p = step (str_eq_ignore_ascii_case p.major (codes "text"))
  where
    step : (t : Bool) → IsNested (cond t (lines_text text p) [])
    step true = lines-nested text p
    step false = Nothing

-- A tree, by the shape of its part.
tree_by : (shape : Shape) (text : List ℕ) (p : Part) (below : List ℕ) → IsNested below → IsNested (opening_by shape text p ++ (below ++ closing_by shape text p))
tree_by Leaf text p below h =
    let inner = facts_inside (told_major p) (told_minor p) text p ++ leaf_lines text p in
    nested-more (codes "(" ++ inner ++ codes ")") (below ++ [])
    (in_parens inner (nested-more (facts_inside (told_major p) (told_minor p) text p) (leaf_lines text p) (facts-nested (told_major p) (told_minor p) text p) (leaf-nested text p)))
    (nested-more below [] h Nothing)
tree_by Message text p below h =
    let envelope = envelope_of (bytes_at text p.body) in
    let facts = facts_inside p.major p.minor text p in
    let told = facts ++ codes " " ++ envelope in
    let all = told ++ codes " " ++ below ++ lines_text text p in
    let is = nested-more (told ++ codes " " ++ below) (lines_text text p) (spaced told below (spaced facts envelope (facts-nested p.major p.minor text p) (envelope-nested (bytes_at text p.body))) h) (lines-nested text p) in
    subst IsNested
    (append_assoc (codes "(" ++ told ++ codes " " ++ below) (lines_text text p) (codes ")") ∙ append_assoc (codes "(" ++ told ++ codes " ") below (lines_text text p ++ codes ")"))
    (in_parens all is)
tree_by Multipart text p below h =
    let is = spaced below (string_of p.minor) h (string-nested p.minor) in
    subst IsNested
    (ap (λ t. codes "(" ++ t) (ap (λ t. t ++ codes ")") (append_assoc below (codes " ") (string_of p.minor)) ∙ append_assoc below (codes " " ++ string_of p.minor) (codes ")")))
    (in_parens (below ++ codes " " ++ string_of p.minor) is)

pub forest-nested : (text : List ℕ) (f : Forest) → IsNested (structure text f)
forest-nested text Bare = Nothing
forest-nested text (Tree p below beside) =
    let here = tree_by p.shape text p (structure text below) (forest-nested text below) in
    let all = nested-more (opening_of text p ++ (structure text below ++ closing_of text p)) (structure text beside) here (forest-nested text beside) in
    subst IsNested
    (append_assoc (opening_of text p) (structure text below ++ closing_of text p) (structure text beside)
    ∙ ap (λ t. opening_of text p ++ t) (append_assoc (structure text below) (closing_of text p) (structure text beside))) all

pub balanced : ParenthesesBalance
unfolding structure_of
balanced = record { structures = λ text. forest-nested text (forest_of (tree_of text)); envelopes = envelope-nested }
