use Rattle.std.proofs.Common.{◌≡◌, ℕ, List, ◌++◌, codes}
use Rattle.html_pages.specs.Lines.{header_line}
use Rattle.html_pages.proofs.FieldLines.{six_lines}
use Rattle.web_text.proofs.Pushing.{grown, last_ok}
use Rattle.html_pages.proofs.message.push_fields.Goals as goal

pub returns : goal.returns
returns c =
    let first = c.args.into.now in
    let line : List ℕ → List ℕ = header_line c.args.text.now in
    let front_1 : List ℕ = line (codes "From") in
    let is_1 : c.push_field.new.into ≡ first ++ front_1 = c.in_ok-push_field.ensures in
    let front_2 : List ℕ = front_1 ++ line (codes "To") in
    let is_2 : c.push_field-2.new.into ≡ first ++ front_2 = grown first c.push_field.new.into c.push_field-2.new.into front_1 (line (codes "To")) is_1 c.in_ok-push_field-2.ensures in
    let front_3 : List ℕ = front_2 ++ line (codes "Cc") in
    let is_3 : c.push_field-3.new.into ≡ first ++ front_3 = grown first c.push_field-2.new.into c.push_field-3.new.into front_2 (line (codes "Cc")) is_2 c.in_ok-push_field-3.ensures in
    let front_4 : List ℕ = front_3 ++ line (codes "Subject") in
    let is_4 : c.push_field-4.new.into ≡ first ++ front_4 = grown first c.push_field-3.new.into c.push_field-4.new.into front_3 (line (codes "Subject")) is_3 c.in_ok-push_field-4.ensures in
    let front_5 : List ℕ = front_4 ++ line (codes "Date") in
    let is_5 : c.push_field-5.new.into ≡ first ++ front_5 = grown first c.push_field-4.new.into c.push_field-5.new.into front_4 (line (codes "Date")) is_4 c.in_ok-push_field-5.ensures in
    last_ok c.push_field-6.result
    (λ (e : c.push_field-6.new.into ≡ c.push_field-5.new.into ++ line (codes "Message-ID")). six_lines c.args.text.now first c.push_field-6.new.into (grown first c.push_field-5.new.into c.push_field-6.new.into front_5 (line (codes "Message-ID")) is_5 e))
    c.push_field-6.ensures
