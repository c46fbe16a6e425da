-- How a window gets all of an entry.
use Rattle.std.proofs.Common.{◌≡◌, ◌≢◌, ℕ, ◌+◌, ◌-◌, ◌≤◌, min, Bool, true, false, List, [], ◌++◌, length, take, drop, Option, Some, None, Result, Ok, Err, refl, sym, ap, subst, ◌∙◌, arith, length-append, length-take, length-drop}
use Rattle.std.proofs.lemmas.List.{append_assoc, append-nil, take_at, take-append-drop, take-append-le, drop_at}
use Rattle.arch_base.specs.declared.ids.Form.{Form}
use Rattle.disk_model.specs.declared.refusal.WalkRefusal.{WalkRefusal}
use Rattle.disk_model.specs.Disk.{Content, WhereTold, HasRead, bytes_of}
use Rattle.mail_commits.specs.Entries.{magic}
use Rattle.epoch_file.specs.declared.state.State.{State}
use Rattle.epoch_file.specs.declared.window.Part.{Part}
use Rattle.epoch_file.specs.Steps.{Walked, BeginsAt, BeginsIn, BeginsAfterMagic}
use Rattle.epoch_file.specs.Windows.{Shows, BytesCome, IsInsidePart}
use Rattle.epoch_file.proofs.Chains.{length-magic}
use Rattle.epoch_file.proofs.Showing.{shows-more}

-- The bytes that a read puts into a window.
pub comes-some : (content : Option Content) (part : Part) (offset n : ℕ) (before after old chunk new : List ℕ) → WhereTold (HasRead part.file offset n before after) content → chunk ≡ take n after
    → new ≡ old ++ chunk → offset ≡ part.offset + length old → part.offset + length old + length before ≤ part.end → WhereTold (BytesCome part (length before) old new (Ok true)) content
comes-some None part offset n before after old chunk new read is grown at fits = tt
comes-some (Some k) part offset n before after old chunk new read is grown at fits = λ shows.
    let bytes = bytes_of (k part.file).seen in
    let count = read.count in
    let whole = shows.whole in
    let all : n ≡ length before = omega (arith, count, at, fits, whole) in
    let there : length (take n (drop offset bytes)) ≡ n = omega (arith, count, length-take n (drop offset bytes), length-drop offset bytes) in
    let next : chunk ≡ take n (drop (part.offset + length old) bytes) =
    is ∙ (ap (take n) read.bytes ∙ (take_at (take n (drop offset bytes)) (drop n before) n there ∙ ap (λ (p : ℕ). take n (drop p bytes)) at)) in
    let s : Shows bytes part (old ++ chunk) = shows-more bytes part old chunk n shows (omega (arith, all, fits)) next in
    let long : length chunk ≡ n = ap length next ∙ (ap (λ (p : ℕ). length (take n (drop p bytes))) (sym at) ∙ there) in
    (subst (λ (l : List ℕ). Shows bytes part l) (sym grown) s, omega (arith, all, long, ap length grown, length-append old chunk))

-- More room brings equally many bytes if no more are left.
pub comes-wider : (content : Option Content) (part : Part) (cut room : ℕ) (old new : List ℕ) (result : Result Bool WalkRefusal) → min (length old + room) (part.end - part.offset) ≤ min (length old + cut) (part.end - part.offset)
    → WhereTold (BytesCome part cut old new result) content → WhereTold (BytesCome part room old new result) content
comes-wider None part cut room old new result less comes = tt
comes-wider (Some k) part cut room old new (Ok true) less comes = λ shows. let got = comes shows in (got.0, omega (arith, less, got.1))
comes-wider (Some k) part cut room old new (Ok false) less comes = comes
comes-wider (Some k) part cut room old new (Err e) less comes = tt

-- An empty window shows a file from its front on.
shows_first : (bytes : List ℕ) (part : Part) → part.offset ≡ 0 → part.end ≤ length bytes → Shows bytes part []
shows_first bytes part front whole = record { rest = take part.end bytes; is = ap (λ (n : ℕ). drop n (take part.end bytes)) front; whole = whole; inside = omega (arith, front) }

-- If what was read doesn't start with the magic, the file doesn't either.
begins_none : (form : Form) (content : Option Content) (part : Part) (room : ℕ) (window : List ℕ) (came : Bool) → part.offset ≡ 0 → 8 ≤ part.end → 8 ≤ room → WhereTold (BytesCome part room [] window (Ok came)) content
    → ((rest : List ℕ) → window ≢ magic form ++ rest) → WhereTold (λ k. BeginsAt form part.end (bytes_of (k part.file).seen) (Ok None)) content
begins_none form None part room window came front some big comes none = tt
begins_none form (Some k) part room window false front some big comes none = λ whole. absurd (comes (shows_first (bytes_of (k part.file).seen) part front whole))
begins_none form (Some k) part room window true front some big comes none = λ whole is.
    let bytes = bytes_of (k part.file).seen in
    let got = comes (shows_first bytes part front whole) in
    let long : 8 ≤ length window = omega (arith, got.1, some, big, front) in
    let shown : take part.end bytes ≡ window ++ got.0.rest = sym (ap (λ (n : ℕ). drop n (take part.end bytes)) front) ∙ got.0.is in
    let same : take 8 (take part.end bytes) ≡ take 8 window = ap (take 8) shown ∙ take-append-le 8 window got.0.rest long in
    none (drop 8 window) (sym (take-append-drop 8 window) ∙ ap (λ (l : List ℕ). l ++ drop 8 window) (sym same ∙ is))

-- A walk starts after the magic.
begins_some : (form : Form) (content : Option Content) (part : Part) (room : ℕ) (window : List ℕ) (came : Bool) (s : State) → part.offset ≡ 0 → WhereTold (BytesCome part room [] window (Ok came)) content
    → BeginsAfterMagic form part window (Some s) → WhereTold (λ k. BeginsAt form part.end (bytes_of (k part.file).seen) (Ok (Some s))) content
begins_some form None part room window came s front comes b = tt
begins_some form (Some k) part room window false s front comes b = λ whole. absurd (comes (shows_first (bytes_of (k part.file).seen) part front whole))
begins_some form (Some k) part room window true s front comes b = λ whole.
    let bytes = bytes_of (k part.file).seen in
    let got = comes (shows_first bytes part front whole) in
    let shown : take part.end bytes ≡ magic form ++ (b.0 ++ got.0.rest) =
    sym (ap (λ (n : ℕ). drop n (take part.end bytes)) front) ∙ (got.0.is ∙ (ap (λ (l : List ℕ). l ++ got.0.rest) b.1 ∙ append_assoc (magic form) b.0 got.0.rest)) in
    let after : drop 8 (take part.end bytes) ≡ b.0 ++ got.0.rest = ap (drop 8) shown ∙ drop_at (magic form) (b.0 ++ got.0.rest) 8 (length-magic form) in
    let made : State = record { part = record { file = part.file; offset = 8; end = part.end }; window = b.0; parent = None; seen = []; form = form } in
    let walked : Walked bytes made = record {
      entries = [];
      valid = tt;
      spelled = shown ∙ ap (λ (l : List ℕ). magic form ++ l) (sym after) ∙ ap (λ (l : List ℕ). l ++ drop 8 (take part.end bytes)) (sym (append-nil (magic form)));
      offset = refl;
      parent = refl;
      seen = refl;
      shows = record { rest = got.0.rest; is = after; whole = whole; inside = omega (arith, length-magic form, ap length shown, length-append (magic form) (b.0 ++ got.0.rest), length-take part.end bytes, whole) };
    } in
    let Holds : State → Type 0 = λ t. Walked bytes t × (t.part.end ≡ part.end) in
    subst Holds (sym b.2) (walked, refl)

-- A walk starts after the magic, or the magic isn't there.
pub begins-either : (form : Form) (content : Option Content) (part : Part) (room : ℕ) (old window : List ℕ) (came : Bool) (found : Option State) → old ≡ [] → part.offset ≡ 0 → 8 ≤ part.end → 8 ≤ room
    → WhereTold (BytesCome part room old window (Ok came)) content → BeginsAfterMagic form part window found → WhereTold (λ k. BeginsAt form part.end (bytes_of (k part.file).seen) (Ok found)) content
begins-either form content part room old window came None empty front some big comes b =
    begins_none form content part room window came front some big (subst (λ (l : List ℕ). WhereTold (BytesCome part room l window (Ok came)) content) empty comes) b
begins-either form content part room old window came (Some s) empty front some big comes b =
    begins_some form content part room window came s front (subst (λ (l : List ℕ). WhereTold (BytesCome part room l window (Ok came)) content) empty comes) b

-- A walk starts inside the part.
pub begins-inside : (form : Form) (part : Part) (window : List ℕ) (found : Option State) → part.offset ≡ 0 → IsInsidePart part window → BeginsAfterMagic form part window found → BeginsIn form part.file part.end (Ok found)
begins-inside form part window None front inside b = tt
begins-inside form part window (Some s) front inside b =
    let room : 8 + length b.0 ≤ part.end = omega (arith, length-magic form, inside, front, ap length b.1, length-append (magic form) b.0) in
    let Holds : State → Type 0 = λ t. (t.part.file ≡ part.file) × (t.part.end ≤ part.end) × IsInsidePart t.part t.window × (t.seen ≡ []) × (t.form ≡ form) in
    subst Holds (sym b.2) (refl, omega arith, room, refl, refl)
