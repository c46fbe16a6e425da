-- The markup of feeds: that of their entries.
use Rattle.std.proofs.Common.{◌≡◌, ℕ, zero, suc, ◌^◌, ◌<◌, ◌≤◌, max, Bool, true, false, cond, eqb, List, [], ◌∷◌, ◌++◌, length, fold, refl, arith}
use Rattle.std.specs.Prelude.{codes, replicate}
use Rattle.std.specs.List.{All, concat, flat_map}
use Rattle.arch_base.specs.Moments.{IsMoment}
use Rattle.arch_base.specs.Names.{IsArchiveName}
use Rattle.mail_forms.specs.declared.row.Row.{Row}
use Rattle.web_text.specs.Addresses.{address_of}
use Rattle.web_text.specs.Days.{moment_text}
use Rattle.web_text.specs.Escapes.{escaped, title_of}
use Rattle.web_text.specs.Markup.{markup}
use Rattle.web_text.proofs.Markup.{more, and_none, text_none, title_none, id_none, name_none, moment_none}
use Rattle.atom_mbox.specs.Feeds.{HasMoment, later, last_arrival, updated_of, feed_start, feed_end, feed_of, entry_author, entry_place, entry_body, entry_of_shown}
use Rattle.atom_mbox.specs.Laws.{entry_markup, FeedHasItsTags}
use Rattle.atom_mbox.specs.declared.feeds.Shown.{Shown}

-- The author and the title.
author_tags : (row : Row) → markup (entry_author row) ≡ codes "<><><><><><><>"
unfolding entry_author
author_tags row =
    let a : List ℕ = codes "<entry><author><name>" in
    let b : List ℕ = escaped row.from in
    let d : List ℕ = codes "</name></author><title>" in
    let e : List ℕ = title_of row.subject in
    let f : List ℕ = codes "</title>" in
    let is_1 : markup (a ++ b) ≡ codes "<><><>" = and_none a b (codes "<><><>") refl (text_none row.from) in
    let is_2 : markup (a ++ b ++ d) ≡ codes "<><><><><><>" = more (a ++ b) d (codes "<><><>") (codes "<><><>") is_1 refl in
    let is_3 : markup ((a ++ b) ++ d ++ e) ≡ codes "<><><><><><>" = and_none ((a ++ b) ++ d) e (codes "<><><><><><>") is_2 (title_none row.subject) in
    more (((a ++ b) ++ d) ++ e) f (codes "<><><><><><>") (codes "<>") is_3 refl

-- The id, the moment and the address.
place_tags : (name : List ℕ) (row : Row) → IsArchiveName name → IsMoment row.arrived → markup (entry_place name row) ≡ codes "<><><><><\"\">"
unfolding entry_place
place_tags name row h moment =
    let a : List ℕ = codes "<id>mid:" in
    let b : List ℕ = address_of row.id in
    let d : List ℕ = codes "</id><updated>" in
    let e : List ℕ = moment_text row.arrived in
    let f : List ℕ = codes "</updated><link href=\"/" in
    let g : List ℕ = codes "/" in
    let i : List ℕ = codes "/\"/>" in
    let is_1 : markup (a ++ b) ≡ codes "<>" = and_none a b (codes "<>") refl (id_none row.id) in
    let is_2 : markup (a ++ b ++ d) ≡ codes "<><><>" = more (a ++ b) d (codes "<>") (codes "<><>") is_1 refl in
    let is_3 : markup ((a ++ b) ++ d ++ e) ≡ codes "<><><>" = and_none ((a ++ b) ++ d) e (codes "<><><>") is_2 (moment_none row.arrived moment) in
    let is_4 : markup (((a ++ b) ++ d) ++ e ++ f) ≡ codes "<><><><><\"" = more (((a ++ b) ++ d) ++ e) f (codes "<><><>") (codes "<><\"") is_3 refl in
    let is_5 : markup ((((a ++ b) ++ d) ++ e) ++ f ++ name) ≡ codes "<><><><><\"" = and_none ((((a ++ b) ++ d) ++ e) ++ f) name (codes "<><><><><\"") is_4 (name_none name h) in
    let is_6 : markup (((((a ++ b) ++ d) ++ e) ++ f) ++ name ++ g) ≡ codes "<><><><><\"" = and_none (((((a ++ b) ++ d) ++ e) ++ f) ++ name) g (codes "<><><><><\"") is_5 refl in
    let is_7 : markup ((((((a ++ b) ++ d) ++ e) ++ f) ++ name) ++ g ++ b) ≡ codes "<><><><><\"" = and_none ((((((a ++ b) ++ d) ++ e) ++ f) ++ name) ++ g) b (codes "<><><><><\"") is_6 (id_none row.id) in
    more (((((((a ++ b) ++ d) ++ e) ++ f) ++ name) ++ g) ++ b) i (codes "<><><><><\"") (codes "\">") is_7 refl

-- The text of the body.
body_tags : (body : List ℕ) → markup (entry_body body) ≡ codes "<\"\"><><>"
unfolding entry_body
body_tags body =
    let a : List ℕ = codes "<content type=\"text\">" in
    let b : List ℕ = escaped body in
    let d : List ℕ = codes "</content></entry>\n" in
    let is_1 : markup (a ++ b) ≡ codes "<\"\">" = and_none a b (codes "<\"\">") refl (text_none body) in
    more (a ++ b) d (codes "<\"\">") (codes "<><>") is_1 refl

entry_tags : (name : List ℕ) (mail : Shown) → IsArchiveName name → HasMoment mail → markup (entry_of_shown name mail) ≡ entry_markup
entry_tags name mail h moment =
    more (entry_author mail.row ++ entry_place name mail.row) (entry_body mail.body) (codes "<><><><><><><><><><><><\"\">") (codes "<\"\"><><>")
    (more (entry_author mail.row) (entry_place name mail.row) (codes "<><><><><><><>") (codes "<><><><><\"\">") (author_tags mail.row) (place_tags name mail.row h moment))
    (body_tags mail.body)

entries_tags : (name : List ℕ) (mails : List Shown) → IsArchiveName name → All HasMoment mails → markup (flat_map (entry_of_shown name) mails) ≡ concat (replicate (length mails) entry_markup)
entries_tags name [] h moments = refl
entries_tags name (mail ∷ mails) h moments =
    more (entry_of_shown name mail) (flat_map (entry_of_shown name) mails) entry_markup (concat (replicate (length mails) entry_markup))
    (entry_tags name mail h (moments 0 mail (omega arith))) (entries_tags name mails h (λ k d l. moments (suc k) d (omega arith)))

-- What is before the entries.
start_tags : (name : List ℕ) (updated : ℕ) → IsArchiveName name → IsMoment updated → markup (feed_start name updated) ≡ codes "<\"\"\"\"><\"\"><><><><><><>"
unfolding feed_start
start_tags name updated h moment =
    let a : List ℕ = codes "<?xml version=\"1.0\" encoding=\"utf-8\"?>\n" in
    let b : List ℕ = codes "<feed xmlns=\"http://www.w3.org/2005/Atom\">\n<title>" in
    let d : List ℕ = codes "</title>\n<id>mid:" in
    let e : List ℕ = codes "@piv2.invalid</id>\n<updated>" in
    let f : List ℕ = moment_text updated in
    let g : List ℕ = codes "</updated>\n" in
    let is_1 : markup (a ++ b) ≡ codes "<\"\"\"\"><\"\"><>" = more a b (codes "<\"\"\"\">") (codes "<\"\"><>") refl refl in
    let is_2 : markup (a ++ b ++ name) ≡ codes "<\"\"\"\"><\"\"><>" = and_none (a ++ b) name (codes "<\"\"\"\"><\"\"><>") is_1 (name_none name h) in
    let is_3 : markup ((a ++ b) ++ name ++ d) ≡ codes "<\"\"\"\"><\"\"><><><>" = more ((a ++ b) ++ name) d (codes "<\"\"\"\"><\"\"><>") (codes "<><>") is_2 refl in
    let is_4 : markup (((a ++ b) ++ name) ++ d ++ name) ≡ codes "<\"\"\"\"><\"\"><><><>" = and_none (((a ++ b) ++ name) ++ d) name (codes "<\"\"\"\"><\"\"><><><>") is_3 (name_none name h) in
    let is_5 : markup ((((a ++ b) ++ name) ++ d) ++ name ++ e) ≡ codes "<\"\"\"\"><\"\"><><><><><>" = more ((((a ++ b) ++ name) ++ d) ++ name) e (codes "<\"\"\"\"><\"\"><><><>") (codes "<><>") is_4 refl in
    let is_6 : markup (((((a ++ b) ++ name) ++ d) ++ name) ++ e ++ f) ≡ codes "<\"\"\"\"><\"\"><><><><><>" = and_none (((((a ++ b) ++ name) ++ d) ++ name) ++ e) f (codes "<\"\"\"\"><\"\"><><><><><>") is_5 (moment_none updated moment) in
    more ((((((a ++ b) ++ name) ++ d) ++ name) ++ e) ++ f) g (codes "<\"\"\"\"><\"\"><><><><><>") (codes "<>") is_6 refl

end_tags : markup feed_end ≡ codes "<>"
unfolding feed_end
end_tags = refl

-- A feed is updated at a moment.
greatest : (a b : ℕ) → IsMoment a → IsMoment b → IsMoment (max a b)
greatest a b h k = grind (arith, h, k)

last_moment : (last : ℕ) (mails : List Shown) → IsMoment last → All HasMoment mails → IsMoment (fold later last mails)
last_moment last [] h moments = h
last_moment last (mail ∷ mails) h moments =
    last_moment (max last mail.row.arrived) mails (greatest last mail.row.arrived h (moments 0 mail (omega arith))) (λ k d l. moments (suc k) d (omega arith))

updated_by : (none : Bool) (born : ℕ) (mails : List Shown) → born < 2 ^ 32 → All HasMoment mails → IsMoment (cond none born (last_arrival mails))
updated_by true born mails h moments = omega arith
updated_by false born mails h moments = last_moment 0 mails (omega arith) moments

pub feed_tags : FeedHasItsTags
unfolding feed_of
feed_tags name born mails h small moments =
    let updated = updated_of born mails in
    let start = start_tags name updated h (updated_by (eqb (length mails) 0) born mails small moments) in
    let entries = concat (replicate (length mails) entry_markup) in
    more (feed_start name updated ++ flat_map (entry_of_shown name) mails) feed_end (codes "<\"\"\"\"><\"\"><><><><><><>" ++ entries) (codes "<>")
    (more (feed_start name updated) (flat_map (entry_of_shown name) mails) (codes "<\"\"\"\"><\"\"><><><><><><>") entries start (entries_tags name mails h moments)) end_tags
