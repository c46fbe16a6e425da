-- What stands under a target, step by step.
use Rattle.std.proofs.Common.{◌≡◌, ◌≤◌, ℕ, Bool, true, false, List, take, drop, length, Option, Some, None, IfOk, is_some, Result, Ok, Err, refl, sym, ap, subst, ◌∙◌, arith}
use Rattle.std.proofs.lemmas.List.{length-take}
use Rattle.arch_base.specs.declared.sequence.NoMemory.{NoMemory}
use Rattle.arch_model.specs.Archives.{Entry, Archive, live}
use Rattle.arch_model.specs.Listings.{listing}
use Rattle.arch_model.specs.Searching.{search}
use Rattle.arch_model.specs.Standing.{GivesTextIn}
use Rattle.arch_model.specs.Shelves.{ReadsUpTo}
use Rattle.arch_model.specs.declared.text_refusal.TextRefusal.{TextRefusal}
use Rattle.arch_model.specs.declared.text_refusal.TextRefusal.TheVariants as refusal
use Rattle.mail_forms.specs.declared.row.Row.{Row}
use Rattle.html_pages.specs.Pages.{listing_of, search_of}
use Rattle.query_lang.specs.Queries.{query_of}
use Rattle.query_lang.specs.declared.query.Query.{Query}
use Rattle.http_heads.specs.Addresses.{Named, named_by, segments_of}
use Rattle.http_heads.specs.Parameters.{path_of}
use Rattle.http_heads.specs.declared.reply.Body.TheVariants.{Page}
use Rattle.http_front.specs.Views.{rows_at}
use Rattle.http_front.specs.Asking.{Found, Gives, Missing, BadRange, message_found, text_found, feed_found, search_found, listing_found, found_of, named_found, path_found, reads_texts, path_reads, texts_for, path_texts, feed_len, rows_needed}
use Rattle.http_front.specs.Sessions.{FindsTarget, MakesPage}
use Rattle.http_front.specs.declared.found.FoundBody.{FoundBody}
use Rattle.http_front.specs.declared.found.FoundBody.TheVariants as what

-- A path that names something.
pub finds-named : (a : Archive) (query asked : List ℕ) (o : Option Named) (named : Named) (result : Result FoundBody TextRefusal) → o ≡ Some named → query ≡ asked → FindsTarget a (named_found a query named) (reads_texts named) result → FindsTarget a (path_found a asked o) (path_reads o) result
finds-named a query asked o named result is same found =
    subst (λ (x : Option Named). FindsTarget a (path_found a asked x) (path_reads x) result) (sym is)
    (subst (λ (q : List ℕ). FindsTarget a (named_found a q named) (reads_texts named) result) same found)

-- A path that names nothing.
pub finds-nothing : (a : Archive) (query : List ℕ) (o : Option Named) → o ≡ None → FindsTarget a (path_found a query o) (path_reads o) (Ok what.Nothing)
finds-nothing a query o is = subst (λ (x : Option Named). FindsTarget a (path_found a query x) (path_reads x) (Ok what.Nothing)) (sym is) refl

-- An id of a live mail.
pub finds-mail : (a : Archive) (o : Option ℕ) (n : ℕ) (give : ℕ → Found) (reads : Bool) (result : Result FoundBody TextRefusal) → o ≡ Some n → FindsTarget a (give n) reads result → FindsTarget a (found_of o give) reads result
finds-mail a o n give reads result is found = subst (λ (x : Option ℕ). FindsTarget a (found_of x give) reads result) (sym is) found

-- An id of no live mail.
pub finds-no_mail : (a : Archive) (o : Option ℕ) (give : ℕ → Found) (reads : Bool) → o ≡ None → FindsTarget a (found_of o give) reads (Ok what.Nothing)
finds-no_mail a o give reads is = subst (λ (x : Option ℕ). FindsTarget a (found_of x give) reads (Ok what.Nothing)) (sym is) refl

-- A page that was made, or none.
pub finds-page : (a : Archive) (found : Found) (reads : Bool) (held : FoundBody) → MakesPage found (Ok held) → FindsTarget a found reads (Ok held)
finds-page a found reads (what.Whole body bytes) made = made
finds-page a found reads what.EveryMail made = absurd made
finds-page a found reads (what.Mails numbers) made = absurd made
finds-page a found reads what.Nothing made = made
finds-page a found reads what.BadRange made = made

-- A text that is needed was not read, while an archive is held.
pub finds-unread : (a : Archive) (found : Found) (entries : List Entry) (n : ℕ) (old new : List ℕ) (why : TextRefusal) → GivesTextIn entries n old new (Err why) → FindsTarget a found true (Err why)
finds-unread a found entries n old new refusal.DiskFault given = refl
finds-unread a found entries n old new (refusal.Damaged named other) given = given
finds-unread a found entries n old new refusal.NoMemory given = tt

no-text : (text : Option (List ℕ)) → is_some text ≡ false → text ≡ None
no-text None is = refl
no-text (Some text) is = absurd (cc is)

-- A number that isn't live has no text and no page.
pub text-missing : (text : Option (List ℕ)) → is_some text ≡ false → text_found text ≡ Missing
text-missing text is = ap text_found (no-text text is)

pub message-missing : (a : Archive) (row : Option Row) (text : Option (List ℕ)) → is_some text ≡ false → message_found a row text ≡ Missing
message-missing a None text is = refl
message-missing a (Some row) text is = ap (message_found a (Some row)) (no-text text is)

-- The page of a message whose text was read.
pub finds-message : (a : Archive) (row : Option Row) (text : Option (List ℕ)) (read wanted : List ℕ) (held : FoundBody) → text ≡ Some wanted → read ≡ wanted → MakesPage (message_found a row (Some read)) (Ok held) → FindsTarget a (message_found a row text) true (Ok held)
finds-message a row text read wanted held is same made =
    finds-page a (message_found a row text) true held (subst (λ (o : Option (List ℕ)). MakesPage (message_found a row o) (Ok held)) (ap Some same ∙ sym is) made)

-- A feed of the numbers that are wanted.
pub finds-feed : (a : Archive) (numbers wanted : List ℕ) (result : Result FoundBody TextRefusal) → numbers ≡ wanted → FindsTarget a (feed_found a numbers) true result → FindsTarget a (feed_found a wanted) true result
finds-feed a numbers wanted result same found = subst (λ (ns : List ℕ). FindsTarget a (feed_found a ns) true result) same found

-- What is asked by the parameters of a target.
pub page-asked : (a : Archive) (asked wanted : Option (List ℕ)) (skip skipped : ℕ) (result : Result FoundBody NoMemory) → asked ≡ wanted → skip ≡ skipped → MakesPage (listing_found a asked skip) result → MakesPage (listing_found a wanted skipped) result
page-asked a asked wanted skip skipped result is skips made =
    subst (λ (o : Option (List ℕ)). MakesPage (listing_found a o skipped) result) is (subst (λ (n : ℕ). MakesPage (listing_found a asked n) result) skips made)

-- A search for a text.
pub page-searched : (a : Archive) (asked : Option (List ℕ)) (text read : List ℕ) (skip : ℕ) (result : Result FoundBody NoMemory) → asked ≡ Some text → read ≡ text → MakesPage (search_found a read skip (query_of read)) result → MakesPage (listing_found a asked skip) result
page-searched a asked text read skip result is same made =
    subst (λ (o : Option (List ℕ)). MakesPage (listing_found a o skip) result) (sym is) (subst (λ (t : List ℕ). MakesPage (search_found a t skip (query_of t)) result) same made)

-- The listing, where no text is asked for.
pub page-listed : (a : Archive) (asked : Option (List ℕ)) (skip : ℕ) (page : List ℕ) → asked ≡ None → listing_found a None skip ≡ Gives Page page → MakesPage (listing_found a asked skip) (Ok (what.Whole Page page))
page-listed a asked skip page is made = ap (λ (o : Option (List ℕ)). listing_found a o skip) is ∙ made

-- The page of a search by what the text was read as.
pub page-read : (a : Archive) (text : List ℕ) (skip : ℕ) (query : Query) (asked : Option Query) (result : Result FoundBody NoMemory) → asked ≡ Some query → MakesPage (search_found a text skip (Some query)) result → MakesPage (search_found a text skip asked) result
page-read a text skip query asked result is made = subst (λ (o : Option Query). MakesPage (search_found a text skip o) result) (sym is) made

pub page-unread : (a : Archive) (text : List ℕ) (skip : ℕ) (asked : Option Query) → asked ≡ None → search_found a text skip asked ≡ BadRange
page-unread a text skip asked none = ap (search_found a text skip) none

-- The page of a search is made of the rows that were found and follow the skipped ones.
pub search-made : (a : Archive) (query : Query) (skip : ℕ) (name text numbers : List ℕ) (rows : List Row) (page : List ℕ) → name ≡ a.config.name → numbers ≡ take rows_needed (drop skip (search query (live a.entries))) → rows ≡ rows_at a numbers
    → page ≡ search_of name text rows skip → search_found a text skip (Some query) ≡ Gives Page page
search-made a query skip name text numbers rows page named cut read is =
    let shown : rows ≡ rows_at a (take rows_needed (drop skip (search query (live a.entries)))) = read ∙ ap (rows_at a) cut in
    sym (ap (Gives Page) (is ∙ ap (λ (n : List ℕ). search_of n text rows skip) named ∙ ap (λ (rs : List Row). search_of a.config.name text rs skip) shown))

-- The texts that are read for a path that names something, and for an id of a live mail.
pub reads-named : (o : Option Named) (named : Named) (before now : ℕ) → o ≡ Some named → ReadsUpTo (texts_for named) before now → ReadsUpTo (path_texts o) before now
reads-named o named before now is reads = subst (λ (x : Option Named). ReadsUpTo (path_texts x) before now) (sym is) reads

pub reads-none : (most n : ℕ) → ReadsUpTo most n n
reads-none most n = record { later = omega arith; bound = omega arith }

-- A feed reads at most a text for each of its mails.
pub reads-feed : (numbers all : List ℕ) (before now : ℕ) → numbers ≡ take feed_len all → ReadsUpTo (length numbers) before now → ReadsUpTo feed_len before now
reads-feed numbers all before now is reads =
    let few : length numbers ≤ feed_len = omega (arith, ap length is, length-take feed_len all) in
    record { later = reads.later; bound = omega (arith, reads.bound, few) }

-- The page of a listing is made of the rows that follow the skipped ones.
pub listing-made : (a : Archive) (skip asked : ℕ) (name numbers shown : List ℕ) (rows : List Row) (result : Result (List ℕ) NoMemory) → skip ≡ asked → name ≡ a.config.name → numbers ≡ take rows_needed (drop skip (listing (live a.entries))) → shown ≡ numbers → rows ≡ rows_at a shown
    → IfOk result (λ made. made ≡ listing_of name rows skip) → IfOk result (λ made. listing_found a None asked ≡ Gives Page made)
listing-made a skip asked name numbers shown rows (Ok made) skips named cut same read is =
    let all : rows ≡ rows_at a (take rows_needed (drop skip (listing (live a.entries)))) = read ∙ ap (rows_at a) (same ∙ cut) in
    subst (λ (k : ℕ). listing_found a None k ≡ Gives Page made) skips
    (ap (Gives Page) (sym (is ∙ ap (λ (n : List ℕ). listing_of n rows skip) named ∙ ap (λ (rs : List Row). listing_of a.config.name rs skip) all)))
listing-made a skip asked name numbers shown rows (Err refused) skips named cut same read is = tt

-- What a path names, by its name and its segments.
pub path-named : (a : Archive) (target name path : List ℕ) (parts : List (List ℕ)) (found : Option Named) → found ≡ named_by name parts → name ≡ a.config.name → parts ≡ segments_of path → path ≡ path_of target → named_by a.config.name (segments_of (path_of target)) ≡ found
path-named a target name path parts found is named cut split =
    sym (is ∙ ap (λ (n : List ℕ). named_by n parts) named ∙ ap (named_by a.config.name) (cut ∙ ap segments_of split))
