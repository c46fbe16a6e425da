-- The fields, the body and the own id of a text are pieces of it.
use Rattle.std.proofs.Common.{◌≡◌, inl, inr, ℕ, suc, ◌+◌, ◌<◌, ◌≤◌, Bool, true, false, cond, eqb, ltb, List, [], ◌∷◌, ◌++◌, length, take, drop, map, get_or, Option, None, Some, refl, sym, ap, ◌∙◌, append_assoc, arith, subst, codes}
use Rattle.std.specs.Prelude.{option_and_then}
use Rattle.std.specs.List.{concat, Contains, prefix_len}
use Rattle.std.specs.Str.{str_eq_ignore_ascii_case}
use Rattle.std.proofs.lemmas.Bool.{eqb-true, and_parts, both_ways, ltb-true}
use Rattle.std.proofs.lemmas.Bool.Decides.{nat_tests}
use Rattle.std.proofs.lemmas.List.{drop_more, take-append-drop, length-take-le, get_or-take}
use Rattle.std.proofs.lemmas.List.Sums.{prefix_len_passes}
use Rattle.mail_reader.specs.Lines.{lines_of, is_name_byte, is_field_line, header_lines, after_header, after_empty}
use Rattle.mail_reader.specs.Fields.{FieldText, parts_of, field_of, fields_of, without_feed, first_named}
use Rattle.mail_reader.specs.Bodies.{body_of}
use Rattle.mail_reader.specs.Ids.{ids_of, first_of, own_id}
use Rattle.mail_reader.specs.Laws.{IsMessageId, IsPieceOf, IsFeedOrNone, IsFieldNameByte, IsFieldIn, PartsLieIn, wholes}
use Rattle.mail_reader.proofs.FieldNames.{name_within}
use Rattle.mail_reader.proofs.Folding.{Folded, AllFields, all_fields, folded-drop, value_goes_on}
use Rattle.mail_reader.proofs.FormLaws.{fields_front}
use Rattle.mail_reader.proofs.PieceLaws.{contains_cases, are_pieces}

-- A byte that passes is one of a name.
passed_name_byte : (b : ℕ) → is_name_byte b ≡ true → IsFieldNameByte b
passed_name_byte b h =
    let low : 33 ≤ b = grind (arith, nat_tests) in
    let high : b ≤ 126 = grind (arith, nat_tests) in
    (low, high, λ e. both_ways (is_name_byte b) (ap is_name_byte e) h)

-- A line feed at the end, or none.
feed_cut : (bs : List ℕ) → (end : List ℕ) × (IsFeedOrNone end × (bs ≡ without_feed bs ++ end))
feed_cut [] = ([], (inl refl, refl))
feed_cut (b ∷ []) = step (eqb b 10) b refl
  where
    step : (t : Bool) (b : ℕ) → eqb b 10 ≡ t → (end : List ℕ) × (IsFeedOrNone end × (b ∷ [] ≡ cond t [] (b ∷ []) ++ end))
    step true b e = (b ∷ [], (inr (ap (λ c. c ∷ []) (eqb-true b 10 e)), refl))
    step false b e = ([], (inl refl, refl))
feed_cut (b ∷ c ∷ bs) =
    let later = feed_cut (c ∷ bs) in
    (later.0, (later.1.0, ap (λ t. b ∷ t) later.1.1))

-- Pieces of pieces.
pub lies_in : (piece whole text : List ℕ) → IsPieceOf piece whole → IsPieceOf whole text → IsPieceOf piece text
lies_in piece whole text inner outer =
    let all : outer.before ++ ((inner.before ++ (piece ++ inner.after)) ++ outer.after) ≡ (outer.before ++ inner.before) ++ (piece ++ (inner.after ++ outer.after)) = simp append_assoc in
    record {
      before = outer.before ++ inner.before;
      after = inner.after ++ outer.after;
      is = outer.is ∙ ap (λ t. outer.before ++ (t ++ outer.after)) inner.is ∙ all;
    }

-- A field by its bytes.
field_is : (w text : List ℕ) → is_field_line w ≡ true → Folded w → IsPieceOf w text → IsFieldIn text (field_of w)
unfolding field_of is_field_line
field_is w text e folded lies =
    let n = prefix_len is_name_byte w in
    let value = without_feed (drop (n + 1) w) in
    let within : n < length w = name_within w e in
    let colon : get_or w n 0 ≡ 58 = eqb-true (get_or w n 0) 58 (and_parts (ltb 0 n) _ e).1 in
    let cut = feed_cut (drop (n + 1) w) in
    let tail : drop n w ≡ 58 ∷ (value ++ cut.0) = drop_more w n 0 within ∙ (λ i. colon i ∷ cut.1.1 i) in
    let all : w ≡ take n w ++ (58 ∷ (value ++ cut.0)) = sym (take-append-drop n w) ∙ ap (λ t. take n w ++ t) tail in
    let shift : take n w ++ (58 ∷ (value ++ cut.0)) ≡ (take n w ++ 58 ∷ []) ++ (value ++ cut.0) = sym (append_assoc (take n w) (58 ∷ []) (value ++ cut.0)) in
    record {
      end = cut.0;
      ended = cut.1.0;
      whole = all;
      some_name =
          let some : 0 < n = ltb-true 0 n (and_parts (ltb 0 n) _ e).0 in
          omega (arith, length-take-le n w (omega arith));
      name_bytes = λ k d l.
          let below : k < n = omega (arith, length-take-le n w (omega arith)) in
          passed_name_byte (get_or (take n w) k d) (ap is_name_byte (get_or-take n w k d below) ∙ prefix_len_passes is_name_byte w k d below);
      continued = value_goes_on (drop (n + 1) w) (folded-drop (n + 1) w folded);
      lies = lies;
      name = lies_in (take n w) w text (record { before = []; after = 58 ∷ (value ++ cut.0); is = all }) lies;
      value = lies_in value w text (record { before = take n w ++ 58 ∷ []; after = cut.0; is = all ∙ shift }) lies;
    }

-- The bytes of fields, one after another.
whole-field_of : (w : List ℕ) → (field_of w).whole ≡ w
unfolding field_of
whole-field_of w = refl

each_field : (front : List ℕ) (ws : List (List ℕ)) (after text : List ℕ) → AllFields ws → text ≡ front ++ (wholes (map field_of ws) ++ after)
    → (field : FieldText) → Contains (map field_of ws) field → IsFieldIn text field
each_field front [] after text all is field (k, l, e) = absurd (omega arith)
each_field front (w ∷ ws) after text all is field h =
    let one : wholes (map field_of (w ∷ ws)) ≡ w ++ wholes (map field_of ws) = ap (λ t. t ++ wholes (map field_of ws)) (whole-field_of w) in
    let split : text ≡ front ++ ((w ++ wholes (map field_of ws)) ++ after) = is ∙ ap (λ t. front ++ (t ++ after)) one in
    let here : front ++ ((w ++ wholes (map field_of ws)) ++ after) ≡ front ++ (w ++ (wholes (map field_of ws) ++ after)) = simp append_assoc in
    let later : front ++ ((w ++ wholes (map field_of ws)) ++ after) ≡ (front ++ w) ++ (wholes (map field_of ws) ++ after) = simp append_assoc in
    let P : FieldText → Type 0 = λ f. IsFieldIn text f in
    elim (contains_cases (field_of w) (map field_of ws) field h) as (λ _. IsFieldIn text field) [
      | inl same ↦ subst P same (field_is w text all.0 all.1 (record { before = front; after = wholes (map field_of ws) ++ after; is = split ∙ here }))
      | inr others ↦ each_field (front ++ w) ws after text all.2 (split ∙ later) field others
    ]

fields_lie : (text : List ℕ) (field : FieldText) → Contains (fields_of text) field → IsFieldIn text field
unfolding fields_of
fields_lie text field h =
    each_field [] (parts_of (header_lines (lines_of text))).1 (concat (after_header (lines_of text))) text (all_fields text) (fields_front text) field h

-- An empty line that is removed.
empty_cut : (ls : List (List ℕ)) → (line : List ℕ) × (IsFeedOrNone line × (concat ls ≡ line ++ concat (after_empty ls)))
empty_cut [] = ([], (inl refl, refl))
empty_cut ([] ∷ ls) = ([], (inl refl, refl))
empty_cut ((b ∷ []) ∷ ls) = step (eqb b 10) b ls refl
  where
    step : (t : Bool) (b : ℕ) (ls : List (List ℕ)) → eqb b 10 ≡ t → (line : List ℕ) × (IsFeedOrNone line × (b ∷ concat ls ≡ line ++ concat (cond t ls ((b ∷ []) ∷ ls))))
    step true b ls e = (b ∷ [], (inr (ap (λ c. c ∷ []) (eqb-true b 10 e)), refl))
    step false b ls e = ([], (inl refl, refl))
empty_cut ((b ∷ c ∷ bs) ∷ ls) = ([], (inl refl, refl))

-- The first field of a name is one of the fields.
first_named-contains : (name : List ℕ) (fields : List FieldText) (field : FieldText) → first_named name fields ≡ Some field → Contains fields field
first_named-contains name [] field e = absurd (none e)
  where
    none : None ≡ Some field → ⊥
    none h = cc
first_named-contains name (f ∷ fs) field e = step (str_eq_ignore_ascii_case f.name name) e (first_named-contains name fs field)
  where
    step : (t : Bool) → cond t (Some f) (first_named name fs) ≡ Some field → (first_named name fs ≡ Some field → Contains fs field) → Contains (f ∷ fs) field
    step true h later =
        let same : f ≡ field = cc in
        let P : FieldText → Type 0 = λ g. Contains (f ∷ fs) g in
        subst P same (0, omega arith, refl)
    step false h later = let at = later h in (suc at.0, omega arith, at.2)

first_of-contains : (ids : List (List ℕ)) (id : List ℕ) → first_of ids ≡ Some id → Contains ids id
first_of-contains [] id e = absurd (none e)
  where
    none : None ≡ Some id → ⊥
    none h = cc
first_of-contains (x ∷ xs) id e =
    let same : x ≡ id = cc in
    let P : List ℕ → Type 0 = λ y. Contains (x ∷ xs) y in
    subst P same (0, omega arith, refl)

pub then_some : {X Y : Type 0} (o : Option X) (f : X → Option Y) (y : Y) → option_and_then f o ≡ Some y → (x : X) × ((o ≡ Some x) × (f x ≡ Some y))
then_some None f y e = absurd (none e)
  where
    none : None ≡ Some y → ⊥
    none h = cc
then_some (Some x) f y e = (x, (refl, e))

own_id_lies : (text id : List ℕ) → own_id text ≡ Some id → (field : FieldText) × Contains (fields_of text) field × IsPieceOf id field.value × IsPieceOf id text
unfolding own_id
own_id_lies text id e =
    let found = then_some (first_named (codes "Message-ID") (fields_of text)) (λ (field : FieldText). first_of (ids_of field.value)) id e in
    let field = found.0 in
    let among : Contains (fields_of text) field = first_named-contains (codes "Message-ID") (fields_of text) field found.1.0 in
    let piece : IsMessageId id × IsPieceOf id field.value = (are_pieces field.value id).0 (first_of-contains (ids_of field.value) id found.1.1) in
    (field, among, piece.1, lies_in id field.value text piece.1 (fields_lie text field among).value)

pub lie_in : PartsLieIn
unfolding body_of
lie_in text =
    let cut = empty_cut (after_header (lines_of text)) in
    record {
      empty_line = cut.0;
      is_empty = cut.1.0;
      whole = fields_front text ∙ ap (λ t. wholes (fields_of text) ++ t) cut.1.1;
      fields = fields_lie text;
      own_id = own_id_lies text;
    }
