-- The laws of lists.
use Rattle.std.proofs.Common.{◌⊎◌, inl, inr, ◌≡◌, ◌≢◌, ◌+◌, ◌-◌, ◌<◌, ℕ, List, [], ◌∷◌, ◌++◌, length, get_or, codes, Result, Ok, Err, IfOk, IsOkUnless, refl, sym, ap, subst, ◌∙◌, append_assoc, append-nil, length-append, arith}
use Rattle.std.specs.List.{AllByRecursion, concat}
use Rattle.std.specs.Fmt.{decimal}
use Rattle.std.proofs.lemmas.Bool.{cases_order}
use Rattle.std.proofs.lemmas.List.{append_cancel_left}
use Rattle.std.proofs.lemmas.List.Folds.{concat-append}
use Rattle.hex.specs.Hex.{encode_lower}
use Rattle.arch_base.specs.declared.ids.Form.{Form}
use Rattle.arch_base.specs.declared.ids.Form.TheVariants.{Sha1, Sha256}
use Rattle.arch_base.specs.Ids.{id_bytes}
use Rattle.arch_base.specs.Names.{IsArchiveName}
use Rattle.git_objects.specs.declared.entry_kind.EntryKind.{EntryKind}
use Rattle.git_objects.specs.declared.entry_kind.EntryKind.TheVariants.{Message, Deletion}
use Rattle.git_objects.specs.Objects.{entry_name}
use Rattle.git_objects.specs.Fronts.{NoByte}
use Rattle.git_objects.specs.Commits.{IsNumber, number_part, text_part}
use Rattle.git_objects.proofs.Splitting.{NoByte-append, parted-once}
use Rattle.git_objects.proofs.Numbers.{NoByte-decimal, number-found}
use Rattle.git_objects.proofs.HexLines.{NoByte-hex}
use Rattle.arch_model.specs.declared.line.EntryLine.{EntryLine}
use Rattle.mirror_wire.specs.declared.list.MirrorList.{MirrorList}
use Rattle.mirror_wire.specs.declared.list.ListRefusal.{ListRefusal}
use Rattle.mirror_wire.specs.declared.list.ListRefusal.TheVariants.{BadList, NoMemory}
use Rattle.mirror_wire.specs.Lists.{first_words, entry_line, list_lines, list_text, list_of}
use Rattle.mirror_wire.specs.Rules.{IsNext, IsMirrorList}
use Rattle.mirror_wire.specs.Reading.{IsFirstBad, ReadsList}
use Rattle.mirror_wire.specs.Laws.{BadInOnePlace, TextsTellLists, ListsAreReadBack, LeavesOutLine, DoublesLine, ExchangesLines, ChangesLines, ChangesShow}
use Rattle.mirror_wire.specs.Parts.{IsEntryLine, head_part, entries_part}
use Rattle.mirror_wire.proofs.Fewer.{begins-fewer}
use Rattle.mirror_wire.proofs.LineParts.{NoByte-name, name-found}
use Rattle.mirror_wire.proofs.Following.{each-spelled}
use Rattle.mirror_wire.proofs.Texts.{tail_lines, text-is}
use Rattle.mirror_wire.proofs.Meeting.{end-apart, Meets}
use Rattle.mirror_wire.proofs.Stopping.{starts-fewer, ReadHead, head-once, ListMeets, meets-whole}
use Rattle.mirror_wire.proofs.Archives.{list-valid}

-- A text has one first bad line at most.
pub bad-once : BadInOnePlace
bad-once form text m n a b = by (cases_order m n) where
  before : (m n : ℕ) → IsFirstBad form text m → IsFirstBad form text n → m < n → ⊥
  before m n one two less = one.bad (starts-fewer form m (n - 1) text (omega (arith, less)) two.before)

  by : (m ≡ n) ⊎ ((m < n) ⊎ (n < m)) → m ≡ n
  by (inl same) = same
  by (inr (inl less)) = absurd (before m n a b less)
  by (inr (inr more)) = absurd (before n m b a more)

-- A next number is one below 2^64.
next-number : (n : ℕ) → IsNext n → IsNumber n
next-number n ok = let most = ok.most in omega (arith, most)

-- The head of a list is read from its text.
head-here : (form : Form) (text name : List ℕ) (next : ℕ) (body : List ℕ) → IsArchiveName name → IsNext next → text ≡ head_part form name next body → ReadHead form text name next body
head-here form text name next body named numbered is =
    let later : List ℕ = number_part 10 next body in
    record {
      later = later;
      one = record {
        after_first = text_part 10 name later;
        first = is ∙ sym (append_assoc (first_words form) (10 ∷ []) (text_part 10 name later));
        named = name-found (text_part 10 name later) name later name (NoByte-name name named) refl refl named;
      };
      numbered = begins-fewer IsNext IsNumber (number_part 10) later next body next-number
          (number-found 10 later (decimal next) body next (omega arith) (NoByte-decimal 10 next (omega arith) (next-number next numbered)) refl (next-number next numbered) refl) numbered;
    }

-- Lists of a form with one text are one.
module _ (form : Form) (a b : MirrorList) (a_valid : IsMirrorList form a) (b_valid : IsMirrorList form b) (is : list_text form a ≡ list_text form b) where
  abbrev body : List ℕ
  body = entries_part a.lines (codes "end\n")

  two : ReadHead form (list_text form a) a.name a.next body
  two = head-here form (list_text form a) a.name a.next body a_valid.name a_valid.next (text-is form a)

  found : ListMeets form a.next a.lines (codes "end\n") b.lines (codes "end\n")
  found = meets-whole form (list_text form a) a.name a.next body two a.lines (codes "end\n") (record { valid = a_valid.lines; is = refl }) b b_valid is

  lines-same : Meets a.lines b.lines (codes "end\n") (codes "end\n") → a.lines ≡ b.lines
  lines-same (inl same) = same.0
  lines-same (inr (inl on)) = absurd (end-apart on.line [] (entries_part on.more (codes "end\n")) (append-nil (codes "end\n") ∙ on.rest_is))
  lines-same (inr (inr back)) = absurd (end-apart back.line [] (entries_part back.more (codes "end\n")) (append-nil (codes "end\n") ∙ back.rest_is))

  list-same : a ≡ b
  list-same =
      let head = head-once two b (entries_part b.lines (codes "end\n")) b_valid (is ∙ text-is form b) in
      let lines = lines-same found.meets in
      λ i. record { name = head.0 i; next = head.1 i; lines = lines i }

-- First lines tell forms.
forms-apart : (x y : List ℕ) → text_part 10 (first_words Sha1) x ≡ text_part 10 (first_words Sha256) y → ⊥
forms-apart x y is = let one : ℕ = 49 in let two : ℕ = 50 in let wrong : one ≡ two = ap (λ (t : List ℕ). get_or t 10 0) is in omega (arith, wrong)

-- A text is that of one list at most.
pub texts-tell : TextsTellLists
texts-tell Sha1 Sha1 a b a_valid b_valid is = (refl, list-same Sha1 a b a_valid b_valid is)
texts-tell Sha256 Sha256 a b a_valid b_valid is = (refl, list-same Sha256 a b a_valid b_valid is)
texts-tell Sha1 Sha256 a b a_valid b_valid is = absurd (forms-apart _ _ (sym (text-is Sha1 a) ∙ is ∙ text-is Sha256 b))
texts-tell Sha256 Sha1 a b a_valid b_valid is = absurd (forms-apart _ _ (sym (text-is Sha1 b) ∙ sym is ∙ text-is Sha256 a))

-- The list of an archive is read back.
pub read-back : ListsAreReadBack
read-back a result valid = by result where
  form : Form
  form = a.config.form

  by : (r : Result MirrorList ListRefusal) → ReadsList form (list_text form (list_of a)) r → IfOk r (λ list. list ≡ list_of a) × IsOkUnless r NoMemory
  by (Ok list) reads = (sym (texts-tell form form (list_of a) list (list-valid a valid) reads.0 reads.1).1, tt)
  by (Err (BadList line)) reads = absurd (reads.no_list (list_of a) (list-valid a valid) refl)
  by (Err NoMemory) reads = (tt, refl)

-- A whole line: bytes without a line feed, and a line feed.
pub record IsWhole (line : List ℕ) : Type 0 where
  pub words : List ℕ
  pub plain : NoByte 10 words
  pub is : line ≡ words ++ 10 ∷ []

spaced : (xs ys : List ℕ) → NoByte 10 xs → NoByte 10 ys → NoByte 10 (xs ++ 32 ∷ ys)
spaced xs ys h k = NoByte-append 10 xs (32 ∷ ys) h (λ e. omega (arith, e), k)

letter-plain : (kind : EntryKind) → entry_name kind ≡ 10 → ⊥
letter-plain Message is = omega (arith, is)
letter-plain Deletion is = omega (arith, is)

-- The words of an entry's line.
abbrev entry_words : EntryLine → List ℕ
entry_words l = entry_name l.kind ∷ 32 ∷ (decimal l.number ++ 32 ∷ (decimal l.epoch ++ 32 ∷ (decimal l.secs ++ 32 ∷ (encode_lower (id_bytes l.blob) ++ 32 ∷ (decimal l.size ++ 32 ∷ encode_lower (id_bytes l.commit))))))

entry-whole : (form : Form) (l : EntryLine) → IsEntryLine form l → IsWhole (entry_line l)
entry-whole form l ok = record {
  words = entry_words l;
  plain = (
    letter-plain l.kind,
    (
      λ e. omega (arith, e),
      spaced (decimal l.number) (decimal l.epoch ++ 32 ∷ (decimal l.secs ++ 32 ∷ (encode_lower (id_bytes l.blob) ++ 32 ∷ (decimal l.size ++ 32 ∷ encode_lower (id_bytes l.commit)))))
          (NoByte-decimal 10 l.number (omega arith) (let low = ok.number in omega (arith, low)))
          (spaced (decimal l.epoch) (decimal l.secs ++ 32 ∷ (encode_lower (id_bytes l.blob) ++ 32 ∷ (decimal l.size ++ 32 ∷ encode_lower (id_bytes l.commit))))
          (NoByte-decimal 10 l.epoch (omega arith) (let low = ok.epoch in omega (arith, low)))
          (spaced (decimal l.secs) (encode_lower (id_bytes l.blob) ++ 32 ∷ (decimal l.size ++ 32 ∷ encode_lower (id_bytes l.commit)))
          (NoByte-decimal 10 l.secs (omega arith) ok.secs)
          (spaced (encode_lower (id_bytes l.blob)) (decimal l.size ++ 32 ∷ encode_lower (id_bytes l.commit)) (NoByte-hex 10 l.blob (omega arith) (omega arith))
          (spaced (decimal l.size) (encode_lower (id_bytes l.commit)) (NoByte-decimal 10 l.size (omega arith) ok.size) (NoByte-hex 10 l.commit (omega arith) (omega arith)))))),
    ),
  );
  is = simp append_assoc;
}

entries-whole : (form : Form) (ls : List EntryLine) → AllByRecursion (IsEntryLine form) ls → AllByRecursion IsWhole (tail_lines ls)
entries-whole form [] all = (record { words = codes "end"; plain = (λ e. omega (arith, e), (λ e. omega (arith, e), (λ e. omega (arith, e), tt))); is = refl }, tt)
entries-whole form (l ∷ ls) all = (entry-whole form l all.0, entries-whole form ls all.1)

first-plain : (form : Form) → NoByte 10 (first_words form)
first-plain Sha1 = (λ e. omega (arith, e), (λ e. omega (arith, e), (λ e. omega (arith, e), (λ e. omega (arith, e), (λ e. omega (arith, e), (λ e. omega (arith, e), (λ e. omega (arith, e), (λ e. omega (arith, e), (λ e. omega (arith, e), (λ e. omega (arith, e), (λ e. omega (arith, e), tt)))))))))))
first-plain Sha256 = (λ e. omega (arith, e), (λ e. omega (arith, e), (λ e. omega (arith, e), (λ e. omega (arith, e), (λ e. omega (arith, e), (λ e. omega (arith, e), (λ e. omega (arith, e), (λ e. omega (arith, e), (λ e. omega (arith, e), (λ e. omega (arith, e), (λ e. omega (arith, e), tt)))))))))))

-- Each line of a valid list is whole.
lines-whole : (form : Form) (list : MirrorList) → IsMirrorList form list → AllByRecursion IsWhole (list_lines form list)
lines-whole form list valid = (
  record { words = first_words form; plain = first-plain form; is = refl },
  (
    record { words = list.name; plain = NoByte-name list.name valid.name; is = refl },
    (
      record { words = decimal list.next; plain = NoByte-decimal 10 list.next (omega arith) (next-number list.next valid.next); is = refl },
      entries-whole form list.lines (each-spelled form list.next [] list.lines (let most = valid.next.most in omega (arith, most)) tt valid.lines),
    ),
  ),
)

-- What holds for each of some lines holds for one within.
within : {X : Type 0} (P : X → Type 0) (front : List X) (x : X) (rest : List X) → AllByRecursion P (front ++ x ∷ rest) → P x
within P [] x rest all = all.0
within P (y ∷ ys) x rest all = within P ys x rest all.1

behind : {X : Type 0} (P : X → Type 0) (front rest : List X) → AllByRecursion P (front ++ rest) → AllByRecursion P rest
behind P [] rest all = all
behind P (y ∷ ys) rest all = behind P ys rest all.1

-- A whole line is not empty, so bytes with it are longer.
not-less : (line rest : List ℕ) → IsWhole line → rest ≡ line ++ rest → ⊥
not-less line rest whole is =
    let all : length rest ≡ length line + length rest = ap length is ∙ length-append line rest in
    let own : length line ≡ length whole.words + 1 = ap length whole.is ∙ length-append whole.words (10 ∷ []) in
    omega (arith, all, own)

-- Lists with changed lines have another text.
left-out : (lines changed : List (List ℕ)) → AllByRecursion IsWhole lines → LeavesOutLine lines changed → concat changed ≡ concat lines → ⊥
left-out lines changed whole out is =
    not-less out.line (concat out.rest) (within IsWhole out.front out.line out.rest (subst (AllByRecursion IsWhole) out.was whole))
    (append_cancel_left (concat out.front) (concat out.rest) (out.line ++ concat out.rest)
    (sym (concat-append out.front out.rest) ∙ sym (ap concat out.is) ∙ is ∙ ap concat out.was ∙ concat-append out.front (out.line ∷ out.rest)))

doubled : (lines changed : List (List ℕ)) → AllByRecursion IsWhole lines → DoublesLine lines changed → concat changed ≡ concat lines → ⊥
doubled lines changed whole twice is =
    not-less twice.line (twice.line ++ concat twice.rest) (within IsWhole twice.front twice.line twice.rest (subst (AllByRecursion IsWhole) twice.was whole))
    (append_cancel_left (concat twice.front) (twice.line ++ concat twice.rest) (twice.line ++ (twice.line ++ concat twice.rest))
    (sym (concat-append twice.front (twice.line ∷ twice.rest)) ∙ sym (ap concat twice.was) ∙ sym is ∙ ap concat twice.is ∙ concat-append twice.front (twice.line ∷ twice.line ∷ twice.rest)))

-- The first lines of the same bytes are one.
first-line-once : (a b : List ℕ) (x y : List ℕ) → IsWhole a → IsWhole b → a ++ x ≡ b ++ y → a ≡ b
first-line-once a b x y one two is =
    let left : a ++ x ≡ one.words ++ 10 ∷ x = ap (λ (t : List ℕ). t ++ x) one.is ∙ append_assoc one.words (10 ∷ []) x in
    let right : b ++ y ≡ two.words ++ 10 ∷ y = ap (λ (t : List ℕ). t ++ y) two.is ∙ append_assoc two.words (10 ∷ []) y in
    let parts = parted-once 10 one.words two.words x y one.plain two.plain (sym left ∙ is ∙ right) in
    one.is ∙ ap (λ (t : List ℕ). t ++ 10 ∷ []) parts.0 ∙ sym two.is

exchanged : (lines changed : List (List ℕ)) → AllByRecursion IsWhole lines → ExchangesLines lines changed → concat changed ≡ concat lines → ⊥
exchanged lines changed whole two is =
    let all : AllByRecursion IsWhole (two.front ++ two.first ∷ (two.middle ++ two.second ∷ two.rest)) = subst (AllByRecursion IsWhole) two.was whole in
    let later : AllByRecursion IsWhole (two.first ∷ (two.middle ++ two.second ∷ two.rest)) = behind IsWhole two.front (two.first ∷ (two.middle ++ two.second ∷ two.rest)) all in
    two.differ
    (first-line-once two.first two.second (concat (two.middle ++ two.second ∷ two.rest)) (concat (two.middle ++ two.first ∷ two.rest)) later.0 (within IsWhole two.middle two.second two.rest later.1)
    (append_cancel_left (concat two.front) (two.first ++ concat (two.middle ++ two.second ∷ two.rest)) (two.second ++ concat (two.middle ++ two.first ∷ two.rest))
    (sym (concat-append two.front (two.first ∷ (two.middle ++ two.second ∷ two.rest))) ∙ sym (ap concat two.was) ∙ sym is ∙ ap concat two.is ∙ concat-append two.front (two.second ∷ (two.middle ++ two.first ∷ two.rest)))))

changed-apart : (lines changed : List (List ℕ)) → AllByRecursion IsWhole lines → ChangesLines lines changed → concat changed ≡ concat lines → ⊥
changed-apart lines changed whole (inl out) = left-out lines changed whole out
changed-apart lines changed whole (inr (inl twice)) = doubled lines changed whole twice
changed-apart lines changed whole (inr (inr two)) = exchanged lines changed whole two

-- A change of lines shows.
pub change-shows : ChangesShow
change-shows a changed result valid changes = by result where
  form : Form
  form = a.config.form

  by : (r : Result MirrorList ListRefusal) → ReadsList form (concat changed) r → IfOk r (λ list. list ≢ list_of a)
  by (Ok list) reads = λ same. changed-apart (list_lines form (list_of a)) changed (lines-whole form (list_of a) (list-valid a valid)) changes (reads.1 ∙ ap (list_text form) same)
  by (Err why) reads = tt
