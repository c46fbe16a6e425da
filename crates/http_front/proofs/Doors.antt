-- The laws of the door of pages.
use Rattle.std.proofs.Common.{◌≡◌, ◌<◌, ◌⊎◌, inl, inr, ℕ, Bool, true, false, List, [], ◌∷◌, ◌++◌, length, Option, Some, None, refl, append_assoc, if◌then◌else◌}
use Rattle.line_door.specs.Acts.{Departure, Plain, Memory, Disk, Newer}
use Rattle.line_door.specs.Making.{closes}
use Rattle.line_door.specs.Plain.{silent}
use Rattle.line_door.specs.Cuts.{CutDoor, DoorLaws, said_with}
use Rattle.line_door.proofs.Cutting.{door_laws}
use Rattle.arch_model.specs.Archives.{Archive}
use Rattle.http_heads.specs.Heads.{Asked}
use Rattle.http_heads.specs.Replies.{verdict_of}
use Rattle.http_heads.specs.declared.reply.Status.TheVariants.{Done, BadRequest, NotFound, ServerError}
use Rattle.http_heads.specs.declared.reply.Verdict.{Verdict}
use Rattle.http_heads.specs.declared.reply.Verdict.TheVariants.{Serve, Refuse}
use Rattle.http_front.specs.Fronts.{HeadFront, Whole, Long, Partial, front, is_whole, head_limit}
use Rattle.http_front.specs.Asking.{Found, Gives, Streams, Missing, BadRange, target_found, target_reads}
use Rattle.http_front.specs.Replies.{reply, word, word_of, bad_range}
use Rattle.http_front.specs.Door.{PageSays, replies, served, said_found, said_verdict, said_head, unkept, said_at, said, has_request, with_piece}
use Rattle.http_front.proofs.Fronts.{Goes, Same, Over, Open, front-goes, front-shorter, not_whole}
use Rattle.http_front.specs.Reading.{asked_in}

goes-whole : (q : List ℕ) (f g : HeadFront) → Goes q f g → is_whole f ≡ true → is_whole g ≡ true
goes-whole q f g (Same head rest) h = refl
goes-whole q f g Over h = refl
goes-whole q f g (Open next) h = absurd (cc h)

replies-after : (a : Archive) (rest q : List ℕ) (ends streamed : Bool) (words : List ℕ) → replies a (rest ++ q) ends streamed words ≡ said_with (with_piece q) (replies a rest ends streamed words)
replies-after a rest q true streamed words = refl
replies-after a rest q false streamed words = refl

served-after : (moment : ℕ) (a : Archive) (sends ends : Bool) (rest q : List ℕ) (found : Found) → served moment a sends ends (rest ++ q) found ≡ said_with (with_piece q) (served moment a sends ends rest found)
served-after moment a sends ends rest q (Gives body bytes) = replies-after a rest q ends false _
served-after moment a sends ends rest q (Streams body bytes) = replies-after a rest q ends sends _
served-after moment a sends ends rest q Missing = replies-after a rest q ends false _
served-after moment a sends ends rest q BadRange = replies-after a rest q ends false _

-- Where texts aren't read, the disk is as in the plain way.
either-after : (t : Bool) (x x' y : PageSays) (q : List ℕ) → y ≡ said_with (with_piece q) y → x' ≡ said_with (with_piece q) x → (if t then y else x') ≡ said_with (with_piece q) (if t then y else x)
either-after true x x' y q closed is = closed
either-after false x x' y q closed is = is

found-after : (moment : ℕ) (a : Archive) (sends ends : Bool) (rest q : List ℕ) (found : Found) (reads : Bool) (way : Departure) → said_found moment a sends ends (rest ++ q) found reads way ≡ said_with (with_piece q) (said_found moment a sends ends rest found reads way)
found-after moment a sends ends rest q found reads Plain = served-after moment a sends ends rest q found
found-after moment a sends ends rest q found reads Memory = refl
found-after moment a sends ends rest q found reads Disk =
    either-after reads (served moment a sends ends rest found) (served moment a sends ends (rest ++ q) found) (closes a (word ServerError moment sends true)) q refl (served-after moment a sends ends rest q found)
found-after moment a sends ends rest q found reads Newer = served-after moment a sends ends rest q found

verdict-after : (moment : ℕ) (a : Archive) (asked : Asked) (rest q : List ℕ) (verdict : Verdict) (way : Departure) → said_verdict moment a asked (rest ++ q) verdict way ≡ said_with (with_piece q) (said_verdict moment a asked rest verdict way)
verdict-after moment a asked rest q (Serve sends) way = found-after moment a sends asked.closes rest q (target_found a asked.target) (target_reads a asked.target) way
verdict-after moment a asked rest q (Refuse status sends) way = refl

head-after : (moment : ℕ) (a : Archive) (asked : Option Asked) (rest q : List ℕ) (way : Departure) → said_head moment a asked (rest ++ q) way ≡ said_with (with_piece q) (said_head moment a asked rest way)
head-after moment a None rest q way = refl
head-after moment a (Some asked) rest q way = verdict-after moment a asked rest q (verdict_of (Some asked)) way

goes-said : (moment : ℕ) (a : Archive) (bytes q : List ℕ) (way : Departure) (f g : HeadFront) → Goes q f g → is_whole f ≡ true → said_at moment a (bytes ++ q) g way ≡ said_with (with_piece q) (said_at moment a bytes f way)
goes-said moment a bytes q way f g (Same head rest) h = head-after moment a (asked_in head) rest q way
goes-said moment a bytes q way f g Over h = refl
goes-said moment a bytes q way f g (Open next) h = absurd (cc h)

unkept-either : (moment : ℕ) (a : Archive) (bytes more : List ℕ) → ((unkept moment a bytes more).next ≡ None) ⊎ (unkept moment a bytes more ≡ silent a bytes)
unkept-either moment a bytes [] = inr refl
unkept-either moment a bytes (byte ∷ more) = inl refl

kept : (moment : ℕ) (a : Archive) (bytes : List ℕ) (way : Departure) (f : HeadFront) → f ≡ Partial → ((said_at moment a bytes f way).next ≡ None) ⊎ (said_at moment a bytes f way ≡ silent a bytes)
kept moment a bytes Plain f h = rw h (inr refl)
kept moment a bytes Memory f h = rw h (unkept-either moment a bytes bytes)
kept moment a bytes Disk f h = rw h (inr refl)
kept moment a bytes Newer f h = rw h (inr refl)

-- The session that a reply leaves open has the bytes after the request.
replies-left : (a : Archive) (rest : List ℕ) (ends streamed : Bool) (words k : List ℕ) → (replies a rest ends streamed words).next ≡ Some k → rest ≡ k
replies-left a rest true streamed words k e = absurd (cc e)
replies-left a rest false streamed words k e = cc

served-left : (moment : ℕ) (a : Archive) (sends ends : Bool) (rest : List ℕ) (found : Found) (k : List ℕ) → (served moment a sends ends rest found).next ≡ Some k → rest ≡ k
served-left moment a sends ends rest (Gives body bytes) k e = replies-left a rest ends false (reply Done moment body bytes sends ends) k e
served-left moment a sends ends rest (Streams body bytes) k e = replies-left a rest ends sends (reply Done moment body bytes sends ends) k e
served-left moment a sends ends rest Missing k e = replies-left a rest ends false (word NotFound moment sends ends) k e
served-left moment a sends ends rest BadRange k e = replies-left a rest ends false (word_of BadRequest bad_range moment sends ends) k e

verdict-left : (moment : ℕ) (a : Archive) (asked : Asked) (rest : List ℕ) (verdict : Verdict) (k : List ℕ) → (said_verdict moment a asked rest verdict Plain).next ≡ Some k → rest ≡ k
verdict-left moment a asked rest (Serve sends) k e = served-left moment a sends asked.closes rest (target_found a asked.target) k e
verdict-left moment a asked rest (Refuse status sends) k e = absurd (cc e)

head-left : (moment : ℕ) (a : Archive) (asked : Option Asked) (rest k : List ℕ) → (said_head moment a asked rest Plain).next ≡ Some k → rest ≡ k
head-left moment a None rest k e = absurd (cc e)
head-left moment a (Some asked) rest k e = verdict-left moment a asked rest (verdict_of (Some asked)) k e

shorter-at : (moment : ℕ) (a : Archive) (bytes k : List ℕ) (f : HeadFront) → front head_limit bytes ≡ f → is_whole f ≡ true → (said_at moment a bytes f Plain).next ≡ Some k → length k < length bytes
shorter-at moment a bytes k (Whole head rest) is h next =
    let same : rest ≡ k = head-left moment a (asked_in head) rest k next in
    let less = front-shorter head_limit bytes head rest is in
    rw same at less
shorter-at moment a bytes k Long is h next = absurd (cc next)
shorter-at moment a bytes k Partial is h next = absurd (cc h)

pub http_cuts : (moment : ℕ) → CutDoor (said moment) has_request with_piece length
http_cuts moment = record {
  request_stays = λ q h asked. goes-whole q (front head_limit h) (front head_limit (h ++ q)) (front-goes head_limit h q) asked;
  said_stays = λ q a h way asked. goes-said moment a h q way (front head_limit h) (front head_limit (h ++ q)) (front-goes head_limit h q) asked;
  rest_plain = λ a h part. rw (not_whole (front head_limit h) part) refl;
  rest_kept = λ a h way part. kept moment a h way (front head_limit h) (not_whole (front head_limit h) part);
  more_joined = λ p q h. append_assoc h p q;
  shorter = λ a h k asked next. shorter-at moment a h k (front head_limit h) refl asked next;
}

-- The laws of cutting the bytes of a connection.
pub http_door : (moment : ℕ) → DoorLaws (said moment) has_request with_piece length
http_door moment = door_laws (said moment) has_request with_piece length (http_cuts moment)
