-- Lines that are appended, one after another.
use Rattle.std.proofs.Common.{◌≡◌, ◌+◌, ◌-◌, ◌<◌, ◌≤◌, ◌++◌, ◌∷◌, ℕ, zero, suc, List, [], length, drop, get_or, Option, Result, Ok, Err, codes, decimal, subst, refl, sym, ap, ◌∙◌, arith, append_assoc}
use Rattle.std.specs.List.{flat_map}
use Rattle.std.proofs.lemmas.List.{drop_more, drop_all}
use Rattle.arch_model.specs.Archives.{Archive}
use Rattle.edge_io.specs.declared.sink.SinkFault.{SinkFault}
use Rattle.imap_syntax.specs.declared.asks.StatusItem.{StatusItem}
use Rattle.shelf_doors.specs.declared.mailbox.MailboxRange.{MailboxRange}
use Rattle.edge_io.specs.Phrases.{Says}
use Rattle.std.specs.Result.{IsErr}
use Rattle.shelf_doors.proofs.Replying.{Waits-ended}
use Rattle.wire_replies.specs.Waits.{Waits}
use Rattle.wire_replies.proofs.Wording.{SoFar, sofar-more, sofar-end, sofar-lost, Waits-none, Says-failed}
use Rattle.imap_states.specs.Boxes.{status_words, status_list, status_line}
use Rattle.imap_states.specs.Lists.{list_line_if, list_lines}

-- The next of some words, and those after it.
module _ (words rest old new : List ℕ) (out out' : Option (List ℕ)) (lost lost' : ℕ) (before : SoFar words rest old out lost new out' lost') where
  pub next-said : (piece after next : List ℕ) (out'' : Option (List ℕ)) (lost'' : ℕ) (done : Unit {0}) → rest ≡ piece ++ after → Waits piece new out' lost' next out'' lost'' (Ok done) → SoFar words after old out lost next out'' lost''
  next-said piece after next out'' lost'' done is more = sofar-more words old out lost rest new out' lost' before piece after next out'' lost'' done is more

  pub next-lost : (piece after : List ℕ) (out'' : Option (List ℕ)) (lost'' : ℕ) (fault : SinkFault) → rest ≡ piece ++ after → Waits piece new out' lost' [] out'' lost'' (Err fault) → Waits words old out lost [] out'' lost'' (Err fault)
  next-lost piece after out'' lost'' fault is lost_at = sofar-lost words old out lost rest new out' lost' before piece after out'' lost'' fault is lost_at

  pub none-left : rest ≡ [] → Waits words old out lost new out' lost' (Ok tt)
  none-left none = sofar-end words old out lost rest new out' lost' before new out' lost' (Ok tt) (rw none (Waits-none new out' lost'))

-- The next line of a list.
pub next-line : {X : Type 0} (f : X → List ℕ) (xs : List X) (i : ℕ) (d : X) → i < length xs → flat_map f (drop i xs) ≡ f (get_or xs i d) ++ flat_map f (drop (i + 1) xs)
next-line f xs i d less = ap (flat_map f) (drop_more xs i d less)

pub no-line : {X : Type 0} (f : X → List ℕ) (xs : List X) (i : ℕ) → length xs ≤ i → flat_map f (drop i xs) ≡ []
no-line f xs i all = ap (flat_map f) (drop_all i xs all)

-- The line of the next mailbox.
pub next-box : (a : Archive) (command pattern : List ℕ) (index count : ℕ) → index < count → list_lines a command pattern index (count - index) ≡ list_line_if a command pattern index ++ list_lines a command pattern (index + 1) (count - (index + 1))
next-box a command pattern index count less =
    let more : count - index ≡ suc (count - (index + 1)) = omega (arith, less) in ap (list_lines a command pattern index) more

pub no-box : (a : Archive) (command pattern : List ℕ) (index count : ℕ) → count ≤ index → list_lines a command pattern index (count - index) ≡ []
no-box a command pattern index count all =
    let none : count - index ≡ 0 = omega (arith, all) in ap (list_lines a command pattern index) none

-- The next item of STATUS.
pub next-item : (a : Archive) (range : MailboxRange) (before : List ℕ) (items : List StatusItem) (i : ℕ) (d : StatusItem) → i < length items
    → status_list a range before (drop i items) ≡ (before ++ status_words a range (get_or items i d)) ++ status_list a range (codes " ") (drop (i + 1) items)
next-item a range before items i d less =
    ap (status_list a range before) (drop_more items i d less) ∙ sym (append_assoc before (status_words a range (get_or items i d)) (status_list a range (codes " ") (drop (i + 1) items)))

pub no-item : (a : Archive) (range : MailboxRange) (before : List ℕ) (items : List StatusItem) (i : ℕ) → length items ≤ i → status_list a range before (drop i items) ≡ []
no-item a range before items i all = ap (status_list a range before) (drop_all i items all)

-- Words that were appended to none, and then the last of a reply.
module _ (words last old : List ℕ) (none : old ≡ []) (out : Option (List ℕ)) (lost : ℕ) where
  pub two-said : (new : List ℕ) (out' out'' : Option (List ℕ)) (lost' lost'' : ℕ) (done : Unit {0}) (said : Result Unit SinkFault) → Waits words old out lost new out' lost' (Ok done) → Says (new ++ last) out' lost' out'' lost'' said → Says (words ++ last) out lost out'' lost'' said
  two-said new out' out'' lost' lost'' done said p q =
      subst (λ (x : List ℕ). Says (x ++ (words ++ last)) out lost out'' lost'' said) none (Waits-ended words last old new out out' out'' lost lost' lost'' done said p q)

  pub two-failed : (out' : Option (List ℕ)) (lost' : ℕ) (fault : SinkFault) (said : Result Unit SinkFault) → IsErr said → Waits words old out lost [] out' lost' (Err fault) → Says (words ++ last) out lost out' lost' said
  two-failed out' lost' fault said failed p =
      subst (λ (x : List ℕ). Says (x ++ (words ++ last)) out lost out' lost' said) none (Says-failed words last old out out' lost lost' fault said failed p)

-- The start of the line of STATUS.
abbrev pub status_start : List ℕ → ℕ → List ℕ
status_start name index = codes "* STATUS " ++ (name ++ (codes "." ++ (decimal index ++ (codes " " ++ []))))

-- The line is its start, its items and its end.
pub status-joined : (a : Archive) (name : List ℕ) (index : ℕ) (range : MailboxRange) (items : List StatusItem) → name ≡ a.config.name
    → status_start name index ++ (status_list a range (codes "(") items ++ 41 ∷ 13 ∷ 10 ∷ []) ≡ status_line a index range items
status-joined a name index range items is =
    let rest = status_list a range (codes "(") items ++ 41 ∷ 13 ∷ 10 ∷ [] in
    ap (λ (y : List ℕ). codes "* STATUS " ++ y) (append_assoc name (46 ∷ (decimal index ++ 32 ∷ [])) rest ∙ ap (λ (y : List ℕ). name ++ 46 ∷ y) (append_assoc (decimal index) (32 ∷ []) rest))
    ∙ ap (λ (n : List ℕ). codes "* STATUS " ++ (n ++ 46 ∷ (decimal index ++ 32 ∷ rest))) is
