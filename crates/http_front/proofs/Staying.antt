-- No act of the door of pages changes the archive.
use Rattle.std.proofs.Common.{◌≡◌, ℕ, Bool, true, false, List, [], ◌∷◌, Option, Some, None, refl}
use Rattle.line_door.specs.Acts.{Departure, Plain, Memory, Disk, Newer}
use Rattle.arch_model.specs.Archives.{Archive}
use Rattle.http_heads.specs.Heads.{Asked}
use Rattle.http_heads.specs.Replies.{verdict_of}
use Rattle.http_heads.specs.declared.reply.Verdict.{Verdict}
use Rattle.http_heads.specs.declared.reply.Verdict.TheVariants.{Serve, Refuse}
use Rattle.http_front.specs.Fronts.{HeadFront, Whole, Long, Partial, front, head_limit}
use Rattle.http_front.specs.Asking.{Found, Gives, Streams, Missing, BadRange, target_found, target_reads}
use Rattle.http_front.specs.Door.{served, said_found, said_verdict, said_head, unkept, said_at, said}
use Rattle.http_front.specs.Reading.{asked_in}

served-stays : (moment : ℕ) (a : Archive) (sends ends : Bool) (rest : List ℕ) (found : Found) → (served moment a sends ends rest found).after ≡ a
served-stays moment a sends ends rest (Gives body bytes) = refl
served-stays moment a sends ends rest (Streams body bytes) = refl
served-stays moment a sends ends rest Missing = refl
served-stays moment a sends ends rest BadRange = refl

found-stays : (moment : ℕ) (a : Archive) (sends ends : Bool) (rest : List ℕ) (found : Found) (reads : Bool) (way : Departure) → (said_found moment a sends ends rest found reads way).after ≡ a
found-stays moment a sends ends rest found reads Plain = served-stays moment a sends ends rest found
found-stays moment a sends ends rest found reads Memory = refl
found-stays moment a sends ends rest found true Disk = refl
found-stays moment a sends ends rest found false Disk = served-stays moment a sends ends rest found
found-stays moment a sends ends rest found reads Newer = served-stays moment a sends ends rest found

verdict-stays : (moment : ℕ) (a : Archive) (asked : Asked) (rest : List ℕ) (verdict : Verdict) (way : Departure) → (said_verdict moment a asked rest verdict way).after ≡ a
verdict-stays moment a asked rest (Serve sends) way = found-stays moment a sends asked.closes rest (target_found a asked.target) (target_reads a asked.target) way
verdict-stays moment a asked rest (Refuse status sends) way = refl

head-stays : (moment : ℕ) (a : Archive) (asked : Option Asked) (rest : List ℕ) (way : Departure) → (said_head moment a asked rest way).after ≡ a
head-stays moment a None rest way = refl
head-stays moment a (Some asked) rest way = verdict-stays moment a asked rest (verdict_of (Some asked)) way

unkept-stays : (moment : ℕ) (a : Archive) (bytes rest : List ℕ) → (unkept moment a bytes rest).after ≡ a
unkept-stays moment a bytes [] = refl
unkept-stays moment a bytes (byte ∷ more) = refl

front-stays : (moment : ℕ) (a : Archive) (bytes : List ℕ) (f : HeadFront) (way : Departure) → (said_at moment a bytes f way).after ≡ a
front-stays moment a bytes (Whole head rest) way = head-stays moment a (asked_in head) rest way
front-stays moment a bytes Long way = refl
front-stays moment a bytes Partial Plain = refl
front-stays moment a bytes Partial Memory = unkept-stays moment a bytes bytes
front-stays moment a bytes Partial Disk = refl
front-stays moment a bytes Partial Newer = refl

pub archive-stays : (moment : ℕ) (a : Archive) (bytes : List ℕ) (way : Departure) → (said moment a bytes way).after ≡ a
archive-stays moment a bytes way = front-stays moment a bytes (front head_limit bytes) way
