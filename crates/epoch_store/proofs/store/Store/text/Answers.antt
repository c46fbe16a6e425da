-- The entry's text, and another text.
use Rattle.std.proofs.Common.{◌≡◌, ◌≢◌, ◌∙◌, ◌++◌, ℕ, List, sym, ap, rules}
use Rattle.arch_base.specs.Ids.{form_of}
use Rattle.arch_base.specs.declared.ids.Form.{Form}
use Rattle.git_objects.specs.Objects.{blob_id_of}
use Rattle.root_slots.specs.Slots.{slot_number}
use Rattle.epoch_store.proofs.Texts.{here_is, one_here, tells_damage, finds_damage, gives_text, finds_text, right_text_in}
use Rattle.epoch_store.proofs.store.Store.text.Goals as goal

pub returns-then-ne-clause-text : goal.returns-then-ne-clause-text
returns-then-ne-clause-text g c = λ s is.
    let e = c.index-entry.result.now in
    let here = here_is c.args.self.now c.self.inside.root (slot_number c.self.inside.slot) c.self.inside.entries.items c.args.index e c.self.view_is c.index-entry.ensures c.requires.there in
    let text = c.in-Ok.text.items in
    let file = c.file_of-file.result in
    let k = g.D.Disk.content c.args.disk.now in
    let found = c.blob_id-found.result in
    let found_is : found ≡ blob_id_of (form_of e.seen.blob) text =
    c.blob_id-found.ensures.value ∙ (ap (blob_id_of c.form.result) c.as_slice.ensures.value ∙ ap (λ (g : Form). blob_id_of g text) c.form.ensures) in
    let apart : found ≢ e.seen.blob = search rules in
    tells_damage s e c.args.into.now text found (one_here c.args.self.now.entries c.args.index s e here is) apart c.in-Ok.ensures.size found_is

pub returns-then-ne-clause-found : goal.returns-then-ne-clause-found
returns-then-ne-clause-found g c = λ s is.
    let e = c.index-entry.result.now in
    let here = here_is c.args.self.now c.self.inside.root (slot_number c.self.inside.slot) c.self.inside.entries.items c.args.index e c.self.view_is c.index-entry.ensures c.requires.there in
    let text = c.in-Ok.text.items in
    let file = c.file_of-file.result in
    let k = g.D.Disk.content c.args.disk.now in
    let found = c.blob_id-found.result in
    let found_is : found ≡ blob_id_of (form_of e.seen.blob) text =
    c.blob_id-found.ensures.value ∙ (ap (blob_id_of c.form.result) c.as_slice.ensures.value ∙ ap (λ (g : Form). blob_id_of g text) c.form.ensures) in
    finds_damage c.args.self.now.root s e c.args.into.now text file e.seen.blob found k (one_here c.args.self.now.entries c.args.index s e here is) c.file_of-file.ensures found_is c.in-Ok.ensures.found

pub returns-then-ne-clause-archive : goal.returns-then-ne-clause-archive
returns-then-ne-clause-archive g c = λ a cache own.
    let e = c.index-entry.result.now in
    let here = here_is c.args.self.now c.self.inside.root (slot_number c.self.inside.slot) c.self.inside.entries.items c.args.index e c.self.view_is c.index-entry.ensures c.requires.there in
    let text = c.in-Ok.text.items in
    let file = c.file_of-file.result in
    let k = g.D.Disk.content c.args.disk.now in
    let found = c.blob_id-found.result in
    let found_is : found ≡ blob_id_of (form_of e.seen.blob) text =
    c.blob_id-found.ensures.value ∙ (ap (blob_id_of c.form.result) c.as_slice.ensures.value ∙ ap (λ (g : Form). blob_id_of g text) c.form.ensures) in
    let apart : found ≢ e.seen.blob = search rules in
    let right = right_text_in c.args.self.now cache a k c.args.index e text file own here c.file_of-file.ensures c.in-Ok.ensures.found in
    apart (found_is ∙ right.1)

pub returns-clause-text : goal.returns-clause-text
returns-clause-text g c = λ s is.
    let e = c.index-entry.result.now in
    let here = here_is c.args.self.now c.self.inside.root (slot_number c.self.inside.slot) c.self.inside.entries.items c.args.index e c.self.view_is c.index-entry.ensures c.requires.there in
    let text = c.in-Ok.text.items in
    let file = c.file_of-file.result in
    let k = g.D.Disk.content c.args.disk.now in
    let found = c.blob_id-found.result in
    let found_is : found ≡ blob_id_of (form_of e.seen.blob) text =
    c.blob_id-found.ensures.value ∙ (ap (blob_id_of c.form.result) c.as_slice.ensures.value ∙ ap (λ (g : Form). blob_id_of g text) c.form.ensures) in
    let same : found ≡ e.seen.blob = search rules in
    let new = c.push_slice.new.self in
    let added : new ≡ c.args.into.now ++ text = c.in_ok-push_slice.ensures ∙ ap (λ (l : List ℕ). c.args.into.now ++ l) c.as_slice-2.ensures.value in
    gives_text s e c.args.into.now new text (one_here c.args.self.now.entries c.args.index s e here is) c.in-Ok.ensures.size (sym found_is ∙ same) added

pub returns-clause-found : goal.returns-clause-found
returns-clause-found g c = λ s is.
    let e = c.index-entry.result.now in
    let here = here_is c.args.self.now c.self.inside.root (slot_number c.self.inside.slot) c.self.inside.entries.items c.args.index e c.self.view_is c.index-entry.ensures c.requires.there in
    let text = c.in-Ok.text.items in
    let file = c.file_of-file.result in
    let k = g.D.Disk.content c.args.disk.now in
    let new = c.push_slice.new.self in
    let added : new ≡ c.args.into.now ++ text = c.in_ok-push_slice.ensures ∙ ap (λ (l : List ℕ). c.args.into.now ++ l) c.as_slice-2.ensures.value in
    finds_text c.args.self.now.root s e c.args.into.now new text file k (one_here c.args.self.now.entries c.args.index s e here is) c.file_of-file.ensures added c.in-Ok.ensures.found

pub returns-clause-archive : goal.returns-clause-archive
returns-clause-archive g c = λ a cache own.
    let e = c.index-entry.result.now in
    let here = here_is c.args.self.now c.self.inside.root (slot_number c.self.inside.slot) c.self.inside.entries.items c.args.index e c.self.view_is c.index-entry.ensures c.requires.there in
    let text = c.in-Ok.text.items in
    let file = c.file_of-file.result in
    let k = g.D.Disk.content c.args.disk.now in
    let new = c.push_slice.new.self in
    let added : new ≡ c.args.into.now ++ text = c.in_ok-push_slice.ensures ∙ ap (λ (l : List ℕ). c.args.into.now ++ l) c.as_slice-2.ensures.value in
    let right = right_text_in c.args.self.now cache a k c.args.index e text file own here c.file_of-file.ensures c.in-Ok.ensures.found in
    (text, right.0, added)
