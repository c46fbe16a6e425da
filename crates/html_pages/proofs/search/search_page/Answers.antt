use Rattle.std.proofs.Common.{◌++◌, ap, ◌∙◌}
use Rattle.std.specs.Borrow.{Bor}
use Rattle.std.specs.List.{flat_map}
use Rattle.std.specs.Prelude.{codes, length}
use Rattle.mail_forms.specs.declared.row.Row.{Row}
use Rattle.html_pages.specs.Lines.{row_line, older_found}
use Rattle.html_pages.proofs.ListingRows.{search-made}
use Rattle.html_pages.proofs.search.search_page.Goals as goal

pub returns : goal.returns
returns c =
    let name = c.args.name.now in
    let shown = c.split_at.result.0.now in
    let older = c.split_at.result.1.now in
    let head = codes "<html><head><title>" in
    let body = codes "</title></head><body><pre>" in
    let one = c.in_ok-open_page.ensures ∙ ap (λ t. t ++ head) c.new-made.ensures in
    let two = c.in_ok-push_slice.ensures ∙ ap (λ t. t ++ c.as_slice.result.now) one ∙ ap (λ n. head ++ n) c.as_slice.ensures.value in
    let three = c.in_ok-end_title.ensures ∙ ap (λ t. t ++ body) two in
    let four = c.in_ok-push_rows.ensures ∙ ap (λ t. t ++ flat_map (λ (row : Bor Row). row_line name row.now) shown) three in
    let five = c.in_ok-push_older.ensures ∙ ap (λ t. t ++ older_found c.args.text.now c.args.skip (length older)) four in
    let six = c.in_ok-end_page.ensures ∙ ap (λ t. t ++ codes "</pre></body></html>\n") five in
    search-made name c.args.text.now c.args.rows.now shown older c.min.result c.args.skip c.end_page.new.into c.min.ensures c.split_at.ensures.front c.split_at.ensures.back six
