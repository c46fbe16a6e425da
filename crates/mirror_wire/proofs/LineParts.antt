-- The lines of a list at the front of bytes.
use Rattle.std.proofs.Common.{◌≡◌, ◌<◌, ℕ, true, List, [], ◌∷◌, ◌++◌, refl, sym, ap, subst, ◌∙◌, arith}
use Rattle.std.specs.Fmt.{decimal}
use Rattle.std.proofs.lemmas.List.Elements.{recursion_from_All}
use Rattle.arch_base.specs.declared.ids.Form.{Form}
use Rattle.arch_base.specs.declared.ids.ObjectId.{ObjectId}
use Rattle.arch_base.specs.Ids.{IsObjectId, id_bytes}
use Rattle.arch_base.specs.Names.{IsArchiveName, is_name_byte}
use Rattle.hex.specs.Hex.{encode_lower}
use Rattle.std.specs.List.{AllByRecursion}
use Rattle.git_objects.specs.declared.entry_kind.EntryKind.{EntryKind}
use Rattle.git_objects.specs.declared.entry_kind.EntryKind.TheVariants.{Message, Deletion}
use Rattle.git_objects.specs.Fronts.{Lacks, Begins, Both, NoByte}
use Rattle.git_objects.specs.Commits.{IsNumber, number_part, hex_part, text_part}
use Rattle.git_objects.proofs.Splitting.{NoByte-at, parted-once}
use Rattle.git_objects.proofs.Numbers.{NoByte-decimal, number-found}
use Rattle.git_objects.proofs.HexLines.{NoByte-hex, hex-found}
use Rattle.git_objects.proofs.Composing.{begins-both}
use Rattle.arch_model.specs.declared.line.EntryLine.{EntryLine}
use Rattle.mirror_wire.specs.Lists.{entry_part}
use Rattle.mirror_wire.specs.Parts.{Has32Bits, AnyEntryKind, letter_part, place_part, time_part, blob_part, IsEntryLine}
use Rattle.mirror_wire.proofs.Fewer.{begins-fewer}

-- A byte of a name is no line feed.
name_byte-apart : (b : ℕ) → is_name_byte b ≡ true → b ≡ 10 → ⊥
name_byte-apart b ok is = let wrong : is_name_byte 10 ≡ true = subst (λ (c : ℕ). is_name_byte c ≡ true) is ok in cc

bytes-apart : (text : List ℕ) → AllByRecursion (λ (b : ℕ). is_name_byte b ≡ true) text → NoByte 10 text
bytes-apart [] all = tt
bytes-apart (b ∷ bs) all = (λ is. name_byte-apart b all.0 is, bytes-apart bs all.1)

-- A name has no line feed.
pub NoByte-name : (name : List ℕ) → IsArchiveName name → NoByte 10 name
NoByte-name name ok = bytes-apart name (recursion_from_All (λ (b : ℕ). is_name_byte b ≡ true) name ok.bytes)

-- Bytes without a line feed don't start with the line of a name.
pub name-none : (bytes : List ℕ) → NoByte 10 bytes → Lacks IsArchiveName (text_part 10) bytes
name-none bytes h = λ name rest ok is. NoByte-at 10 name rest (subst (NoByte 10) is h)

-- Bytes don't start with one if the bytes before the line feed are no name.
pub name-other : (bytes front rest : List ℕ) → NoByte 10 front → bytes ≡ front ++ 10 ∷ rest → (IsArchiveName front → ⊥) → Lacks IsArchiveName (text_part 10) bytes
name-other bytes front rest h e none = λ name more ok is.
    none (subst IsArchiveName (sym (parted-once 10 front name rest more h (NoByte-name name ok) (sym e ∙ is)).0) ok)

-- Otherwise the name is these bytes.
pub name-found : (bytes front rest name : List ℕ) → NoByte 10 front → bytes ≡ front ++ 10 ∷ rest → name ≡ front → IsArchiveName front → Begins IsArchiveName (text_part 10) bytes name rest
name-found bytes front rest name h e same ok = record {
  valid_one = subst IsArchiveName (sym same) ok;
  spelled = e ∙ ap (λ (n : List ℕ). n ++ 10 ∷ rest) (sym same);
  only = λ other more valid is.
      let parts = parted-once 10 front other rest more h (NoByte-name other valid) (sym e ∙ is) in
      (same ∙ parts.0, parts.1);
}

-- Lists that are equal have the same first item.
first-same : (a b : ℕ) (xs ys : List ℕ) → a ∷ xs ≡ b ∷ ys → a ≡ b
first-same a b xs ys is = cc

-- Letters tell kinds.
letter-once : (kind other : EntryKind) (rest more : List ℕ) → letter_part kind rest ≡ letter_part other more → (kind ≡ other) × (rest ≡ more)
letter-once Message Message rest more is = (refl, cc)
letter-once Deletion Deletion rest more is = (refl, cc)
letter-once Message Deletion rest more is = absurd (let wrong = first-same 109 100 (32 ∷ rest) (32 ∷ more) is in omega (arith, wrong))
letter-once Deletion Message rest more is = absurd (let wrong = first-same 100 109 (32 ∷ rest) (32 ∷ more) is in omega (arith, wrong))

pub letter-found : (bytes : List ℕ) (kind : EntryKind) (rest : List ℕ) → bytes ≡ letter_part kind rest → Begins AnyEntryKind letter_part bytes kind rest
letter-found bytes kind rest e = record {
  valid_one = tt;
  spelled = e;
  only = λ other more ok is. letter-once kind other rest more (sym e ∙ is);
}

-- A number below 2^32 is one below 2^64.
pub short-number : (n : ℕ) → Has32Bits n → IsNumber n
short-number n h = omega (arith, h)

-- What follows the parts of a line.
abbrev after_blob : EntryLine → List ℕ → List ℕ
after_blob l rest = hex_part 10 l.commit rest

abbrev after_time : EntryLine → List ℕ → List ℕ
after_time l rest = blob_part (l.blob, l.size) (after_blob l rest)

abbrev after_place : EntryLine → List ℕ → List ℕ
after_place l rest = time_part (l.epoch, l.secs) (after_time l rest)

-- The parts that are read.
pub record ReadPlace (bytes : List ℕ) (kind : EntryKind) (number : ℕ) (rest : List ℕ) : Type 0 where
  pub begins : Begins (Both AnyEntryKind Has32Bits) place_part bytes (kind, number) rest

pub record ReadTime (bytes : List ℕ) (epoch secs : ℕ) (rest : List ℕ) : Type 0 where
  pub begins : Begins (Both Has32Bits IsNumber) time_part bytes (epoch, secs) rest

pub record ReadBlob (form : Form) (bytes : List ℕ) (blob : ObjectId) (size : ℕ) (rest : List ℕ) : Type 0 where
  pub begins : Begins (Both (IsObjectId form) IsNumber) blob_part bytes (blob, size) rest

place-are : {form : Form} {bytes rest : List ℕ} {kind : EntryKind} {number : ℕ} (one : ReadPlace bytes kind number rest) (l : EntryLine) (more : List ℕ) → IsEntryLine form l → bytes ≡ entry_part l more
    → (kind ≡ l.kind) × (number ≡ l.number) × (rest ≡ after_place l more)
place-are one l more ok is =
    let same = one.begins.only (l.kind, l.number) (after_place l more) (tt, ok.number) is in
    (ap (λ (p : EntryKind × ℕ). p.0) same.0, ap (λ (p : EntryKind × ℕ). p.1) same.0, same.1)

time-are : {form : Form} {bytes rest : List ℕ} {epoch secs : ℕ} (two : ReadTime bytes epoch secs rest) (l : EntryLine) (more : List ℕ) → IsEntryLine form l → bytes ≡ after_place l more
    → (epoch ≡ l.epoch) × (secs ≡ l.secs) × (rest ≡ after_time l more)
time-are two l more ok is =
    let same = two.begins.only (l.epoch, l.secs) (after_time l more) (ok.epoch, ok.secs) is in
    (ap (λ (p : ℕ × ℕ). p.0) same.0, ap (λ (p : ℕ × ℕ). p.1) same.0, same.1)

blob-are : {form : Form} {bytes rest : List ℕ} {blob : ObjectId} {size : ℕ} (three : ReadBlob form bytes blob size rest) (l : EntryLine) (more : List ℕ) → IsEntryLine form l → bytes ≡ after_time l more
    → (blob ≡ l.blob) × (size ≡ l.size) × (rest ≡ after_blob l more)
blob-are three l more ok is =
    let same = three.begins.only (l.blob, l.size) (after_blob l more) (ok.blob, ok.size) is in
    (ap (λ (p : ObjectId × ℕ). p.0) same.0, ap (λ (p : ObjectId × ℕ). p.1) same.0, same.1)

-- Bytes that lack a part lack the line.
pub no_place : (form : Form) (bytes : List ℕ) → Lacks (Both AnyEntryKind Has32Bits) place_part bytes → Lacks (IsEntryLine form) entry_part bytes
no_place form bytes none = λ l more ok is. none (l.kind, l.number) (after_place l more) (tt, ok.number) is

pub no_time : (form : Form) (bytes rest : List ℕ) (kind : EntryKind) (number : ℕ) → ReadPlace bytes kind number rest → Lacks (Both Has32Bits IsNumber) time_part rest → Lacks (IsEntryLine form) entry_part bytes
no_time form bytes rest kind number one none = λ l more ok is.
    none (l.epoch, l.secs) (after_time l more) (ok.epoch, ok.secs) (place-are one l more ok is).2

pub no_blob : (form : Form) (bytes rest later : List ℕ) (kind : EntryKind) (number epoch secs : ℕ) → ReadPlace bytes kind number rest → ReadTime rest epoch secs later → Lacks (Both (IsObjectId form) IsNumber) blob_part later
    → Lacks (IsEntryLine form) entry_part bytes
no_blob form bytes rest later kind number epoch secs one two none = λ l more ok is.
    none (l.blob, l.size) (after_blob l more) (ok.blob, ok.size) (time-are two l more ok (place-are one l more ok is).2).2

pub no_commit : (form : Form) (bytes rest later last : List ℕ) (kind : EntryKind) (number epoch secs : ℕ) (blob : ObjectId) (size : ℕ) → ReadPlace bytes kind number rest → ReadTime rest epoch secs later
    → ReadBlob form later blob size last → Lacks (IsObjectId form) (hex_part 10) last → Lacks (IsEntryLine form) entry_part bytes
no_commit form bytes rest later last kind number epoch secs blob size one two three none = λ l more ok is.
    none l.commit more ok.commit (blob-are three l more ok (time-are two l more ok (place-are one l more ok is).2).2).2

-- Lines with equal fields are equal.
line-same : (l : EntryLine) (kind : EntryKind) (number epoch secs : ℕ) (blob : ObjectId) (size : ℕ) (commit : ObjectId) → kind ≡ l.kind → number ≡ l.number → epoch ≡ l.epoch → secs ≡ l.secs → blob ≡ l.blob → size ≡ l.size → commit ≡ l.commit
    → (let made : EntryLine = record { kind = kind; number = number; epoch = epoch; secs = secs; blob = blob; size = size; commit = commit } in made ≡ l)
line-same l kind number epoch secs blob size commit a b c d e f g = λ i. record {
  kind = a i;
  number = b i;
  epoch = c i;
  secs = d i;
  blob = e i;
  size = f i;
  commit = g i;
}

-- Bytes with all parts start with the line.
pub line-found : (form : Form) (bytes rest later last end : List ℕ) (kind : EntryKind) (number epoch secs : ℕ) (blob : ObjectId) (size : ℕ) (commit : ObjectId) → ReadPlace bytes kind number rest → ReadTime rest epoch secs later
    → ReadBlob form later blob size last → Begins (IsObjectId form) (hex_part 10) last commit end
    → (let made : EntryLine = record { kind = kind; number = number; epoch = epoch; secs = secs; blob = blob; size = size; commit = commit } in Begins (IsEntryLine form) entry_part bytes made end)
line-found form bytes rest later last end kind number epoch secs blob size commit one two three four = record {
  valid_one = record {
    number = one.begins.valid_one.1;
    epoch = two.begins.valid_one.0;
    secs = two.begins.valid_one.1;
    blob = three.begins.valid_one.0;
    size = three.begins.valid_one.1;
    commit = four.valid_one;
  };
  spelled = one.begins.spelled
      ∙ ap (place_part (kind, number)) (two.begins.spelled ∙ ap (time_part (epoch, secs)) (three.begins.spelled ∙ ap (blob_part (blob, size)) four.spelled));
  only = λ l more ok is.
      let p = place-are one l more ok is in
      let t = time-are two l more ok p.2 in
      let b = blob-are three l more ok t.2 in
      let c = four.only l.commit more ok.commit b.2 in
      (line-same l kind number epoch secs blob size commit p.0 p.1 t.0 t.1 b.0 b.1 c.0, c.1);
}

-- The pieces of a number and of an id start with them.
number-here : (n : ℕ) (rest : List ℕ) → IsNumber n → Begins IsNumber (number_part 32) (number_part 32 n rest) n rest
number-here n rest h = number-found 32 (number_part 32 n rest) (decimal n) rest n (omega arith) (NoByte-decimal 32 n (omega arith) h) refl h refl

short-here : (n : ℕ) (rest : List ℕ) → Has32Bits n → Begins Has32Bits (number_part 32) (number_part 32 n rest) n rest
short-here n rest h = begins-fewer Has32Bits IsNumber (number_part 32) (number_part 32 n rest) n rest short-number (number-here n rest (short-number n h)) h

hex-here : (form : Form) (end : ℕ) (id : ObjectId) (rest : List ℕ) → 0 < end → end < 48 → IsObjectId form id → Begins (IsObjectId form) (hex_part end) (hex_part end id rest) id rest
hex-here form end id rest least most ok = hex-found end (hex_part end id rest) (encode_lower (id_bytes id)) rest id least most (NoByte-hex end id least most) refl ok refl

-- The line of an entry starts with itself.
line-here : (form : Form) (l : EntryLine) (rest : List ℕ) → IsEntryLine form l → Begins (IsEntryLine form) entry_part (entry_part l rest) l rest
line-here form l rest ok =
    let place = begins-both AnyEntryKind Has32Bits letter_part (number_part 32) (entry_part l rest) l.kind (number_part 32 l.number (after_place l rest)) l.number (after_place l rest)
    (letter-found (entry_part l rest) l.kind (number_part 32 l.number (after_place l rest)) refl) (short-here l.number (after_place l rest) ok.number) in
    let time = begins-both Has32Bits IsNumber (number_part 32) (number_part 32) (after_place l rest) l.epoch (number_part 32 l.secs (after_time l rest)) l.secs (after_time l rest)
    (short-here l.epoch (number_part 32 l.secs (after_time l rest)) ok.epoch) (number-here l.secs (after_time l rest) ok.secs) in
    let blob = begins-both (IsObjectId form) IsNumber (hex_part 32) (number_part 32) (after_time l rest) l.blob (number_part 32 l.size (after_blob l rest)) l.size (after_blob l rest)
    (hex-here form 32 l.blob (number_part 32 l.size (after_blob l rest)) (omega arith) (omega arith) ok.blob) (number-here l.size (after_blob l rest) ok.size) in
    line-found form (entry_part l rest) (after_place l rest) (after_time l rest) (after_blob l rest) rest l.kind l.number l.epoch l.secs l.blob l.size l.commit
    (record { begins = place }) (record { begins = time }) (record { begins = blob }) (hex-here form 10 l.commit rest (omega arith) (omega arith) ok.commit)

-- Bytes start with the line of one entry at most.
pub line-once : (form : Form) (l m : EntryLine) (x y : List ℕ) → IsEntryLine form l → IsEntryLine form m → entry_part l x ≡ entry_part m y → (l ≡ m) × (x ≡ y)
line-once form l m x y ok other is = (line-here form l x ok).only m y other is
