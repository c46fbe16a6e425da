-- The rows of a thread, one after another.
use Rattle.std.proofs.Common.{◌≡◌, ◌+◌, ◌<◌, ℕ, List, [], ◌∷◌, ◌++◌, length, take, get_or, map, refl, sym, ap, ◌∙◌}
use Rattle.std.specs.Borrow.{Bor}
use Rattle.std.specs.List.{flat_map}
use Rattle.std.specs.BTreeSet.{insert_key}
use Rattle.std.proofs.lemmas.List.{take_more, map_push}
use Rattle.arch_model.specs.Listings.{date_cmp}
use Rattle.mail_forms.specs.declared.row.Row.{Row}
use Rattle.thread_tree.specs.declared.twigs.Twig.{Twig}
use Rattle.arch_model.specs.Archives.{Archive, live}
use Rattle.html_pages.specs.Lines.{thread_line}
use Rattle.html_pages.specs.Pages.{page_of, thread_of}
use Rattle.html_pages.specs.declared.thread_line.ThreadLine.{ThreadLine}
use Rattle.http_heads.specs.declared.reply.Body.TheVariants.{Page}
use Rattle.shelf_trees.specs.Twigs.{thread_twigs}
use Rattle.thread_tree.specs.Laid.{tree_lines}
use Rattle.thread_tree.specs.declared.lines.Line.{Line}
use Rattle.web_text.specs.Escapes.{title_of}
use Rattle.http_front.specs.Asking.{Gives}
use Rattle.http_front.specs.Threads.{place_of, put_places, tree_line, tree_page}

-- The rows that references refer to.
abbrev pub rows_lent : List (Bor Row) → List Row
rows_lent rows = map (λ (row : Bor Row). row.now) rows

rows-more : (rows : List (Bor Row)) (i : ℕ) (row : Bor Row) → i < length rows → rows_lent (take (i + 1) rows) ≡ rows_lent (take i rows) ++ (get_or rows i row).now ∷ []
rows-more rows i row lt = ap rows_lent (take_more rows i row lt) ∙ map_push (λ (r : Bor Row). r.now) (take i rows) (get_or rows i row)

places-append : (done : List (ℕ × ℕ)) (rows : List Row) (row : Row) → put_places done (rows ++ row ∷ []) ≡ insert_key date_cmp (put_places done rows) (place_of row)
places-append done [] row = refl
places-append done (r ∷ rs) row = places-append (insert_key date_cmp done (place_of r)) rs row

-- One more place.
pub places-more : (rows : List (Bor Row)) (i : ℕ) (d : Bor Row) (row : Row) (start old new : List (ℕ × ℕ)) → i < length rows → row ≡ (get_or rows i d).now → old ≡ put_places start (rows_lent (take i rows)) → new ≡ insert_key date_cmp old (place_of row)
    → new ≡ put_places start (rows_lent (take (i + 1) rows))
places-more rows i d row start old new lt is before puts =
    puts ∙ ap (λ (ps : List (ℕ × ℕ)). insert_key date_cmp ps (place_of row)) before
    ∙ ap (λ (r : Row). insert_key date_cmp (put_places start (rows_lent (take i rows))) (place_of r)) is
    ∙ sym (places-append start (rows_lent (take i rows)) (get_or rows i d).now)
    ∙ ap (put_places start) (sym (rows-more rows i d lt))

-- The page that was made by the lines of a tree.
pub page-made : (a : Archive) (n : ℕ) (row : Row) (twigs : List Twig) (tree shown : List Line) (items lines : List ThreadLine) (name page : List ℕ) → twigs ≡ thread_twigs (live a.entries) n → tree ≡ tree_lines twigs → shown ≡ tree
    → flat_map (thread_line a.config.name) items ≡ flat_map (tree_line a) shown → lines ≡ items → name ≡ a.config.name → page ≡ thread_of name row lines
    → Gives Page (tree_page a row (tree_lines (thread_twigs (live a.entries) n))) ≡ Gives Page page
unfolding tree_page thread_of
page-made a n row twigs tree shown items lines name page mails laid_as same laid all named made =
    let laid_is : tree_lines (thread_twigs (live a.entries) n) ≡ shown = ap tree_lines (sym mails) ∙ sym laid_as ∙ sym same in
    ap (λ (ls : List Line). Gives Page (page_of (title_of row.subject) (flat_map (tree_line a) ls))) laid_is
    ∙ ap (λ (w : List ℕ). Gives Page (page_of (title_of row.subject) w)) (sym laid)
    ∙ ap (λ (ls : List ThreadLine). Gives Page (page_of (title_of row.subject) (flat_map (thread_line a.config.name) ls))) (sym all)
    ∙ ap (λ (k : List ℕ). Gives Page (page_of (title_of row.subject) (flat_map (thread_line k) lines))) (sym named)
    ∙ ap (Gives Page) (sym made)
