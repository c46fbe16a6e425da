use Rattle.std.proofs.Common.{◌≡◌, ◌-◌, length, take, drop, sym, ap, ◌∙◌}
use Rattle.mail_reader.specs.References.{last, shown_all}
use Rattle.mail_reader.proofs.Distincts.{last-shown, same_ok}
use Rattle.mail_reader.proofs.references.Distinct.last.Goals as goal

pub returns : goal.returns
returns c =
    let items = c.self.inside.ids.items in
    let n = c.args.n in
    let cut : c.saturating_sub.result ≡ length items - n =
    c.saturating_sub.ensures ∙ ap (λ k. k - n) (c.len.ensures ∙ sym c.deref.ensures.len ∙ ap length c.deref.ensures.value) in
    let is : shown_all (take (length c.deref.result.now - c.saturating_sub.result) (drop c.saturating_sub.result c.deref.result.now)) ≡ last n c.args.self.now =
    ap (λ xs. shown_all (take (length xs - c.saturating_sub.result) (drop c.saturating_sub.result xs))) c.deref.ensures.value
    ∙ ap (λ k. shown_all (take (length items - k) (drop k items))) cut ∙ last-shown items n ∙ ap (last n) c.self.view_is in
    same_ok c.copy_all.result _ _ is c.copy_all.ensures
