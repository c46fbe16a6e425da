-- Spellings of objects, and the bytes that follow them.
use Rattle.std.proofs.Common.{◌≡◌, ◌≢◌, ◌<◌, ◌≤◌, ◌-◌, ◌+◌, ◌^◌, ℕ, List, [], ◌∷◌, ◌++◌, length, get_or, take, drop, replicate, slice_set, slice_range, codes, length-append, refl, sym, ap, ◌∙◌, arith}
use Rattle.std.proofs.lemmas.List.{append_assoc, take_at, drop_at, drop_more, get_or-append-add, get_or-drop}
use Rattle.std.proofs.lemmas.Fmt.{decimal_injective}
use Rattle.std.specs.Fmt.{decimal, digits}
use borrow.Rule.Slice.PartMut.{put_mid}
use Rattle.arch_base.specs.declared.ids.Form.{Form}
use Rattle.arch_base.specs.declared.ids.Form.TheVariants as form
use Rattle.arch_base.specs.declared.ids.ObjectId.{ObjectId}
use Rattle.arch_base.specs.Ids.{IsObjectId, id_bytes, id_size}
use Rattle.arch_base.proofs.SameIds.{id_size-most, id-once}
use Rattle.git_objects.specs.declared.entry_kind.EntryKind.{EntryKind}
use Rattle.git_objects.specs.declared.entry_kind.EntryKind.TheVariants.{Message, Deletion}
use Rattle.git_objects.specs.declared.kinds.Kind.{Kind}
use Rattle.git_objects.specs.declared.kinds.Kind.TheVariants.{Blob, Tree, Commit}
use Rattle.git_objects.specs.Objects.{GitObject, BlobOf, TreeOf, CommitOf, IsObject, HasSize, AnyKind, kind_part, kind_word, sized, sized_before, kind_of, content_of, entry_name, tree_content, spelling, tree_spelling}
use Rattle.git_objects.specs.Trees.{tree_front, tree_size}
use Rattle.git_objects.specs.Fronts.{Begins}
use Rattle.git_objects.specs.Reading.{IsObjectFront, HasNoObject}
use Rattle.git_objects.specs.Laws.{SpellingsStandApart}
use Rattle.git_objects.proofs.Splitting.{parted-once}
use Rattle.git_objects.proofs.Numbers.{NoByte-decimal}

-- A spelling before what follows.
pub spelling-before : (object : GitObject) (rest : List ℕ) → spelling object ++ rest ≡ kind_part (kind_of object) (sized_before (content_of object) rest)
spelling-before object rest =
    append_assoc (kind_word (kind_of object)) (sized (content_of object)) rest
    ∙ ap (kind_part (kind_of object)) (append_assoc (decimal (length (content_of object))) (0 ∷ content_of object) rest)

-- Lists with different heads differ.
heads : (a b : ℕ) (x y : List ℕ) → a ≢ b → a ∷ x ≡ b ∷ y → ⊥
heads a b x y apart e = apart cc

-- Types differ by their words.
pub kind-once : (k l : Kind) (x y : List ℕ) → kind_part k x ≡ kind_part l y → (k ≡ l) × (x ≡ y)
kind-once Blob Blob x y e = (refl, cc)
kind-once Blob Tree x y e = absurd (heads 98 116 _ _ (omega arith) e)
kind-once Blob Commit x y e = absurd (heads 98 99 _ _ (omega arith) e)
kind-once Tree Blob x y e = absurd (heads 116 98 _ _ (omega arith) e)
kind-once Tree Tree x y e = (refl, cc)
kind-once Tree Commit x y e = absurd (heads 116 99 _ _ (omega arith) e)
kind-once Commit Blob x y e = absurd (heads 99 98 _ _ (omega arith) e)
kind-once Commit Tree x y e = absurd (heads 99 116 _ _ (omega arith) e)
kind-once Commit Commit x y e = (refl, cc)

-- A tree's content has nine bytes more than its id.
pub length-tree_content : (kind : EntryKind) (id : ObjectId) → length (tree_content kind id) ≡ length (id_bytes id) + 9
length-tree_content kind id = omega arith

-- Each object that is spelled has a size.
pub HasSize-content : (form : Form) (object : GitObject) → IsObject form object → HasSize (content_of object)
HasSize-content form (BlobOf content) h = h
HasSize-content form (TreeOf kind id) h = omega (arith, length-tree_content kind id, h.len, id_size-most form)
HasSize-content form (CommitOf content) h = h

-- Contents with their sizes are equal if their bytes are.
pub sized-once : (content other x y : List ℕ) → HasSize content → HasSize other → sized_before content x ≡ sized_before other y → (content ≡ other) × (x ≡ y)
sized-once content other x y h k e =
    let parts = parted-once 0 (decimal (length content)) (decimal (length other)) (content ++ x) (other ++ y)
    (NoByte-decimal 0 (length content) (omega arith) h) (NoByte-decimal 0 (length other) (omega arith) k) e in
    let len : length content ≡ length other = decimal_injective (length content) (length other) h k parts.0 in (
      sym (take_at content x (length content) refl) ∙ ap (take (length content)) parts.1 ∙ take_at other y (length content) (sym len),
      sym (drop_at content x (length content) refl) ∙ ap (drop (length content)) parts.1 ∙ drop_at other y (length content) (sym len),
    )

-- Kinds of entries differ by the names of their files.
entry-once : (kind other : EntryKind) → entry_name kind ≡ entry_name other → kind ≡ other
entry-once Message Message e = refl
entry-once Message Deletion e = absurd (omega (arith, e))
entry-once Deletion Message e = absurd (omega (arith, e))
entry-once Deletion Deletion e = refl

-- A tree's content determines its kind of entry and its id.
pub tree-once : {form last : Form} (kind other : EntryKind) (a b : ObjectId) → IsObjectId form a → IsObjectId last b
    → tree_content kind a ≡ tree_content other b → (kind ≡ other) × (a ≡ b)
tree-once kind other a b one two e =
    let names : entry_name kind ≡ entry_name other = cc in
    let bytes : id_bytes a ≡ id_bytes b = cc in
    (entry-once kind other names, id-once a b one two bytes)

-- An object's type and content determine it.
pub object-once : (form other : Form) (a b : GitObject) → IsObject form a → IsObject other b → kind_of a ≡ kind_of b → content_of a ≡ content_of b → a ≡ b
object-once form other (BlobOf x) (BlobOf y) one two k e = ap BlobOf e
object-once form other (BlobOf x) (TreeOf m i) one two k e = cc
object-once form other (BlobOf x) (CommitOf y) one two k e = cc
object-once form other (TreeOf n i) (BlobOf y) one two k e = cc
object-once form other (TreeOf n i) (TreeOf m j) one two k e = let same = tree-once n m i j one two e in cc
object-once form other (TreeOf n i) (CommitOf y) one two k e = cc
object-once form other (CommitOf x) (BlobOf y) one two k e = cc
object-once form other (CommitOf x) (TreeOf m i) one two k e = cc
object-once form other (CommitOf x) (CommitOf y) one two k e = ap CommitOf e

-- No object's spelling is a proper prefix of another's.
pub stand_apart : SpellingsStandApart
stand_apart form other a b x y h k e =
    let kinds = kind-once (kind_of a) (kind_of b) (sized_before (content_of a) x) (sized_before (content_of b) y) (sym (spelling-before a x) ∙ e ∙ spelling-before b y) in
    let contents = sized-once (content_of a) (content_of b) x y (HasSize-content form a h) (HasSize-content other b k) kinds.1 in
    (object-once form other a b h k kinds.0 contents.0, contents.1)

-- The spelling of a tree has 37 bytes, or 49.
pub length-tree_spelling : (form : Form) (kind : EntryKind) (id : ObjectId) → length (id_bytes id) ≡ id_size form → length (tree_spelling kind id) ≡ tree_size form
unfolding digits
length-tree_spelling form.Sha1 kind id h =
    let len : length (tree_content kind id) ≡ 29 = omega (arith, h, length-tree_content kind id) in
    rw len (omega (arith, len))
length-tree_spelling form.Sha256 kind id h =
    let len : length (tree_content kind id) ≡ 41 = omega (arith, h, length-tree_content kind id) in
    rw len (omega (arith, len))

-- The bytes of a tree: its first bytes, then the name and the id.
pub tree-written : (form : Form) (kind : EntryKind) (id : ObjectId) (name : ℕ) (front given back : List ℕ) → name ≡ entry_name kind → length (id_bytes id) ≡ id_size form
    → front ≡ tree_front form → given ≡ id_bytes id → back ≡ given
    → take (17 + length given) (put_mid 17 (17 + length given - 17) (slice_set (front ++ replicate 34 0) 15 name) back) ≡ tree_spelling kind id
unfolding digits
tree-written form.Sha1 kind id name front given back is h e f g =
    let len : length given ≡ 20 = ap length f ∙ h in
    let size : length (tree_content kind id) ≡ 29 = omega (arith, h, length-tree_content kind id) in
    rw (is, e, g, len, size) (ap (λ l. codes "tree 29\0100644 " ++ entry_name kind ∷ 0 ∷ l) (take_at given (replicate 12 0) 20 len ∙ f))
tree-written form.Sha256 kind id name front given back is h e f g =
    let len : length given ≡ 32 = ap length f ∙ h in
    let size : length (tree_content kind id) ≡ 41 = omega (arith, h, length-tree_content kind id) in
    rw (is, e, g, len, size) (ap (λ l. codes "tree 41\0100644 " ++ entry_name kind ∷ 0 ∷ l) (take_at given [] 32 len ∙ f))

-- After the mode, two bytes and those of an id are a name, NUL and the id.
pub tree-read : (content file id : List ℕ) (name : ℕ) → content ≡ codes "100644 " ++ file → 2 ≤ length file → get_or file 0 0 ≡ name → get_or file 1 0 ≡ 0 → id ≡ drop 2 file
    → content ≡ codes "100644 " ++ name ∷ 0 ∷ id
tree-read content file id name e len first second back =
    let one : drop 0 file ≡ get_or file 0 0 ∷ drop (0 + 1) file = drop_more file 0 0 (omega arith) in
    let two : drop 1 file ≡ get_or file 1 0 ∷ drop (1 + 1) file = drop_more file 1 0 (omega arith) in
    let whole : file ≡ name ∷ 0 ∷ id = cc in
    e ∙ ap (λ l. codes "100644 " ++ l) whole

-- After the mode, bytes that begin with no entry's name belong to no entry's tree.
pub tree-unknown : (form : Form) (content file : List ℕ) → content ≡ codes "100644 " ++ file → ((kind : EntryKind) → get_or file 0 0 ≢ entry_name kind)
    → (kind : EntryKind) (id : ObjectId) → IsObjectId form id → content ≢ tree_content kind id
tree-unknown form content file e none kind id valid is =
    let here : file ≡ entry_name kind ∷ 0 ∷ id_bytes id = cc in
    none kind (ap (λ l. get_or l 0 0) here)

-- A piece between two others.
pub piece-crash_between : (bytes front content rest : List ℕ) → bytes ≡ front ++ (content ++ rest)
    → (length content ≤ length bytes - length rest) × (content ≡ slice_range bytes (length bytes - length rest - length content) (length bytes - length rest))
piece-crash_between bytes front content rest e =
    let whole : length bytes ≡ length front + (length content + length rest) = ap length e ∙ length-append front (content ++ rest) ∙ ap (λ n. length front + n) (length-append content rest) in
    let start : length bytes - length rest - length content ≡ length front = omega arith in
    let long : length bytes - length rest - length front ≡ length content = omega arith in
    let back : drop (length front) bytes ≡ content ++ rest = ap (drop (length front)) e ∙ drop_at front (content ++ rest) (length front) refl in
    (omega arith, rw (start, long, back) (sym (take_at content rest (length content) refl)))

-- A type and a content with its size are the spelling of an object.
pub object-front : (form : Form) (bytes after rest content : List ℕ) (kind : Kind) (object : GitObject) → Begins AnyKind kind_part bytes kind after
    → Begins HasSize sized_before after content rest → kind ≡ kind_of object → content ≡ content_of object → IsObject form object
    → IsObjectFront form bytes object (length bytes - length rest)
object-front form bytes after rest content kind object first second k e valid =
    let spelled : bytes ≡ spelling object ++ rest =
    first.spelled ∙ ap (kind_part kind) (second.spelled ∙ ap (λ l. sized_before l rest) e) ∙ ap (λ l. kind_part l (sized_before (content_of object) rest)) k
    ∙ sym (spelling-before object rest) in
    let whole : length bytes ≡ length (spelling object) + length rest = ap length spelled ∙ length-append (spelling object) rest in
    let cut : ℕ = length bytes - length rest - 0 in
    let long : length (spelling object) ≡ cut = omega arith in
    record {
      valid = valid;
      inside = omega arith;
      spelled = ap (take cut) spelled ∙ take_at (spelling object) rest cut long;
    }

-- Where a type and a content with its size stand in front, an object that the bytes spell has them.
object-parts : (form : Form) (bytes after rest content : List ℕ) (kind : Kind) → Begins AnyKind kind_part bytes kind after → Begins HasSize sized_before after content rest
    → (object : GitObject) (more : List ℕ) → IsObject form object → bytes ≡ spelling object ++ more → (kind ≡ kind_of object) × (content ≡ content_of object) × (rest ≡ more)
object-parts form bytes after rest content kind first second object more valid is =
    let kinds = first.only (kind_of object) (sized_before (content_of object) more) tt (is ∙ spelling-before object more) in
    let contents = second.only (content_of object) more (HasSize-content form object valid) kinds.1 in
    (kinds.0, contents.0, contents.1)

-- Bytes with the type of a tree and the content of no entry's tree spell no object.
pub tree-none : (form : Form) (bytes after rest content : List ℕ) (kind : Kind) → Begins AnyKind kind_part bytes kind after → Begins HasSize sized_before after content rest → kind ≡ Tree
    → ((entry : EntryKind) (id : ObjectId) → IsObjectId form id → content ≢ tree_content entry id) → HasNoObject form bytes
tree-none form bytes after rest content kind first second k none = λ object more valid is.
    let parts = object-parts form bytes after rest content kind first second object more valid is in
    no_tree object valid (sym k ∙ parts.0) parts.1 where
      no_tree : (object : GitObject) → IsObject form object → Tree ≡ kind_of object → content ≡ content_of object → ⊥
      no_tree (BlobOf x) valid k e = cc
      no_tree (TreeOf m i) valid k e = none m i valid e
      no_tree (CommitOf x) valid k e = cc

-- Bytes with the type of a tree and the content of an entry's tree spell that tree, and no other
-- object.
pub tree-again : (form : Form) (bytes after rest content : List ℕ) (kind : Kind) → Begins AnyKind kind_part bytes kind after → Begins HasSize sized_before after content rest → kind ≡ Tree
    → (entry : EntryKind) (id : ObjectId) → IsObjectId form id → content ≡ tree_content entry id → (object : GitObject) (more : List ℕ) → IsObject form object → bytes ≡ spelling object ++ more
    → (TreeOf entry id ≡ object) × (length bytes - length rest ≡ length (spelling object))
tree-again form bytes after rest content kind first second k entry id here e object more valid is =
    let parts = object-parts form bytes after rest content kind first second object more valid is in
    let whole : length bytes ≡ length (spelling object) + length more = ap length is ∙ length-append (spelling object) more in
    let left : length rest ≡ length more = ap length parts.2 in
    (object-once form form (TreeOf entry id) object here valid (sym k ∙ parts.0) (sym e ∙ parts.1), omega arith)

-- The content is a piece of the bytes.
pub content-lent : (bytes after rest content : List ℕ) (kind : Kind) → Begins AnyKind kind_part bytes kind after → Begins HasSize sized_before after content rest
    → (length content ≤ length bytes - length rest) × (content ≡ slice_range bytes (length bytes - length rest - length content) (length bytes - length rest))
content-lent bytes after rest content kind first second =
    let digits_after : sized_before content rest ≡ (decimal (length content) ++ 0 ∷ []) ++ (content ++ rest) = sym (append_assoc (decimal (length content)) (0 ∷ []) (content ++ rest)) in
    piece-crash_between bytes (kind_word kind ++ (decimal (length content) ++ 0 ∷ [])) content rest
    (first.spelled ∙ ap (kind_part kind) (second.spelled ∙ digits_after) ∙ sym (append_assoc (kind_word kind) (decimal (length content) ++ 0 ∷ []) (content ++ rest)))

-- The bytes after a word and two more bytes are bytes.
pub small-after : (content word file id : List ℕ) (k : ℕ) → content ≡ word ++ file → id ≡ drop 2 file → get_or content (length word + (2 + k)) 0 < 2 ^ 8 → get_or id k 0 < 2 ^ 8
small-after content word file id k e back small =
    let here : get_or content (length word + (2 + k)) 0 ≡ get_or id k 0 =
    ap (λ l. get_or l (length word + (2 + k)) 0) e ∙ get_or-append-add word file (2 + k) 0 ∙ sym (get_or-drop 2 file k 0) ∙ ap (λ l. get_or l k 0) (sym back) in
    omega (arith, here, small)
