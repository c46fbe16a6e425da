-- The heads of requests.
use Rattle.std.proofs.Common.{◌≡◌, ◌<◌, ◌==◌, ℕ, zero, suc, Bool, true, false, List, [], ◌∷◌, ◌++◌, length, reverse, codes, refl, sym, ap, ◌∙◌, arith, append_assoc}
use Rattle.std.specs.Prelude.{All, IsTrue}
use Rattle.std.specs.Char.{is_ascii_graphic}
use Rattle.std.specs.List.{list_all}
use Rattle.std.proofs.lemmas.Bool.{and_parts, false≢true}
use Rattle.std.proofs.lemmas.Bool.Decides.{nat_tests}
use Rattle.std.proofs.lemmas.List.{append-nil}
use Rattle.std.proofs.lemmas.List.Elements.{All-nil, All-cons}
use Rattle.httparse.specs.Grammar.{RequestHead, crlf, print_request, Field, IsField, IsToken, is_token_byte, is_uri_byte, is_value_byte, skip_ows, trim_ows, is_ows}
use Rattle.httparse.proofs.TrimLemmas.{trim_ows_space, AllPass-reverse}
use Rattle.std.proofs.lemmas.List.Sums.{AllPass-from_list_all, list_all-from_AllPass}
use Rattle.std.specs.Prelude.{slice_index}
use Rattle.std.specs.Str.{IsAscii}
use Rattle.std.proofs.lemmas.Str.{IsUtf8-from_ascii}
use Rattle.peer_replies.specs.Requests.{request_text, is_target, AsksTarget}

-- Five pieces that are appended to nothing, one after another.
pub five-pieces : (a b c d e t0 t1 t2 t3 t4 t5 : List ℕ) → t0 ≡ [] → t1 ≡ t0 ++ a → t2 ≡ t1 ++ b → t3 ≡ t2 ++ c → t4 ≡ t3 ++ d → t5 ≡ t4 ++ e
    → t5 ≡ a ++ b ++ c ++ d ++ e
five-pieces a b c d e t0 t1 t2 t3 t4 t5 e0 e1 e2 e3 e4 e5 =
    let s1 : t1 ≡ a = e1 ∙ ap (λ t. t ++ a) e0 in
    let s2 : t2 ≡ a ++ b = e2 ∙ ap (λ t. t ++ b) s1 in
    let s3 : t3 ≡ a ++ b ++ c = e3 ∙ ap (λ t. t ++ c) s2 in
    let s4 : t4 ≡ a ++ b ++ c ++ d = e4 ∙ ap (λ t. t ++ d) s3 in
    e5 ∙ ap (λ t. t ++ e) s4

-- A field, as it is written.
abbrev pub field_line : List ℕ → List ℕ → Field
field_line name value = record { name = name; raw = 32 ∷ value; end = crlf }

-- The fields of a request after the first.
abbrev pub later_fields : List Field
later_fields = field_line (codes "Accept-Encoding") (codes "identity") ∷ field_line (codes "Connection") (codes "keep-alive") ∷ []

-- The head of a request.
abbrev pub request_head : List ℕ → List ℕ → RequestHead
request_head authority path = record {
  blank = [];
  method = codes "GET";
  target = path;
  minor = 1;
  line_end = crlf;
  fields = field_line (codes "Host") authority ∷ later_fields;
  last = crlf;
}

-- The parts of a request, put together in two ways.
request-parts : (p a c h u r : List ℕ) → ((p ++ (a ++ (c ++ h))) ++ u) ++ (c ++ (r ++ c)) ≡ (((p ++ a) ++ c) ++ (h ++ (((u ++ c) ++ r) ++ c))) ++ []
request-parts p a c h u r =
    let after : List ℕ = c ++ (r ++ c) in
    let left : ((p ++ (a ++ (c ++ h))) ++ u) ++ after ≡ p ++ (a ++ (c ++ (h ++ (u ++ after)))) =
    append_assoc (p ++ (a ++ (c ++ h))) u after ∙ append_assoc p (a ++ (c ++ h)) (u ++ after)
    ∙ ap (λ t. p ++ t) (append_assoc a (c ++ h) (u ++ after) ∙ ap (λ t. a ++ t) (append_assoc c h (u ++ after))) in
    let body : List ℕ = ((u ++ c) ++ r) ++ c in
    let right : (((p ++ a) ++ c) ++ (h ++ body)) ++ [] ≡ p ++ (a ++ (c ++ (h ++ body))) =
    append-nil (((p ++ a) ++ c) ++ (h ++ body)) ∙ append_assoc (p ++ a) c (h ++ body) ∙ append_assoc p a (c ++ (h ++ body)) in
    let inner : body ≡ u ++ after = append_assoc (u ++ c) r c ∙ append_assoc u c (r ++ c) in
    left ∙ sym (right ∙ ap (λ t. p ++ (a ++ (c ++ (h ++ t)))) inner)

request-printed : (authority path : List ℕ) → request_text authority path ≡ print_request (request_head authority path) ++ []
unfolding request_text print_request
request-printed authority path = ap (λ t. 71 ∷ 69 ∷ 84 ∷ 32 ∷ t)
    (request-parts path (codes " HTTP/1.1") (codes "\r\n") (codes "Host: ") authority (codes "Accept-Encoding: identity\r\nConnection: keep-alive\r\n"))

-- Bytes that are all visible pass a test that each visible one passes.
visible-pass : (P : ℕ → Type 0) → ((b : ℕ) → is_ascii_graphic b ≡ true → P b) → (bytes : List ℕ) → list_all is_ascii_graphic bytes ≡ true → All P bytes
visible-pass P f [] h = All-nil P
visible-pass P f (b ∷ bytes) h =
    let parts = and_parts (is_ascii_graphic b) (list_all is_ascii_graphic bytes) h in All-cons P b bytes (f b parts.0) (visible-pass P f bytes parts.1)

uri-byte : (b : ℕ) → is_ascii_graphic b ≡ true → IsTrue (is_uri_byte b)
uri-byte b h = grind (arith, nat_tests, h)

value-byte : (b : ℕ) → is_ascii_graphic b ≡ true → IsTrue (is_value_byte b)
value-byte b h = grind (arith, nat_tests, h)

ascii-byte : (b : ℕ) → is_ascii_graphic b ≡ true → b < 128
ascii-byte b h = grind (arith, nat_tests, h)

-- Bytes that all pass a test.
passing : (test : ℕ → Bool) (bytes : List ℕ) → list_all test bytes ≡ true → All (λ b. IsTrue (test b)) bytes
passing test [] h = All-nil (λ b. IsTrue (test b))
passing test (b ∷ bytes) h =
    let parts = and_parts (test b) (list_all test bytes) h in All-cons (λ b. IsTrue (test b)) b bytes parts.0 (passing test bytes parts.1)

token : (name : List ℕ) → 0 < length name → list_all is_token_byte name ≡ true → IsToken name
token name some h = (some, passing is_token_byte name h)

field-of : (name value : List ℕ) → 0 < length name → list_all is_token_byte name ≡ true → list_all is_ascii_graphic value ≡ true
    → IsField (field_line name value)
field-of name value some h visible = record {
  name = token name some h;
  raw = All-cons (λ b. IsTrue (is_value_byte b)) 32 value refl (visible-pass (λ b. IsTrue (is_value_byte b)) value-byte value visible);
}

not_blank : (b : ℕ) → is_ascii_graphic b ≡ true → is_ows b ≡ false
not_blank b h = grind (arith, nat_tests, h)

no-blank : (value : List ℕ) → list_all is_ascii_graphic value ≡ true → skip_ows value ≡ value
no-blank [] h = refl
no-blank (b ∷ value) h =
    let parts = and_parts (is_ascii_graphic b) (list_all is_ascii_graphic value) h in
    let other : is_ows b ≡ false = not_blank b parts.0 in
    rw other refl

visible-reverse : (value : List ℕ) → list_all is_ascii_graphic value ≡ true → list_all is_ascii_graphic (reverse value) ≡ true
visible-reverse value h = list_all-from_AllPass is_ascii_graphic (reverse value) (AllPass-reverse is_ascii_graphic value (AllPass-from_list_all is_ascii_graphic value h))

value-of : (value : List ℕ) → list_all is_ascii_graphic value ≡ true → trim_ows (32 ∷ value) ≡ value
value-of value h = trim_ows_space value (no-blank value h) (no-blank (reverse value) (visible-reverse value h))

some-target : (path : List ℕ) → is_target path ≡ true → 0 < length path
some-target [] h = absurd (false≢true h)
some-target (b ∷ path) h = omega arith

ascii-index : (path : List ℕ) → list_all is_ascii_graphic path ≡ true → IsAscii path
ascii-index [] h i = omega arith
ascii-index (b ∷ path) h zero = ascii-byte b (and_parts (is_ascii_graphic b) (list_all is_ascii_graphic path) h).0
ascii-index (b ∷ path) h (suc i) = ascii-index path (and_parts (is_ascii_graphic b) (list_all is_ascii_graphic path) h).1 i

pub asks_target : AsksTarget
unfolding is_token_byte
asks_target authority path target visible =
    let seen = (and_parts (slice_index path 0 == 47) (list_all is_ascii_graphic path) target).1 in (
      request_head authority path,
      (
        record {
          method = token (codes "GET") (omega arith) refl;
          target = (some-target path target, visible-pass (λ b. IsTrue (is_uri_byte b)) uri-byte path seen);
          target_text = IsUtf8-from_ascii path (ascii-index path seen);
          minor = omega arith;
          fields = All-cons IsField (field_line (codes "Host") authority) later_fields (field-of (codes "Host") authority (omega arith) refl visible)
              (All-cons IsField (field_line (codes "Accept-Encoding") (codes "identity")) (field_line (codes "Connection") (codes "keep-alive") ∷ [])
              (field-of (codes "Accept-Encoding") (codes "identity") (omega arith) refl refl)
              (All-cons IsField (field_line (codes "Connection") (codes "keep-alive")) [] (field-of (codes "Connection") (codes "keep-alive") (omega arith) refl refl) (All-nil IsField)));
        },
        request-printed authority path,
      ),
      record {
        method = refl;
        target = refl;
        minor = refl;
        fields = rw (value-of authority visible, value-of (codes "identity") refl, value-of (codes "keep-alive") refl) refl;
      },
    )
