use Rattle.std.proofs.Common.{◌++◌, ◌∷◌, [], ap, ◌∙◌, codes}
use Rattle.sha2.specs.Sha256.{sha256}
use Rattle.mail_reader.specs.Fields.{fields_of}
use Rattle.mail_reader.specs.Content.{content_id_of, counted}
use Rattle.mail_reader.proofs.Hashes.{nine}
use Rattle.mail_reader.proofs.content.content_id.Goals as goal

pub returns : goal.returns
unfolding content_id_of
returns c =
    let fields = fields_of c.args.text.now in
    let n1 = counted (codes "Subject") fields in
    let n2 = counted (codes "From") fields in
    let n3 = counted (codes "Date") fields in
    let n4 = counted (codes "References") fields in
    let n5 = counted (codes "In-Reply-To") fields in
    let n6 = counted (codes "To") fields in
    let n7 = counted (codes "Cc") fields in
    let h1 = c.hash_found.ensures.each [] c.new-hasher.ensures in
    let h2 = c.hash_found-2.ensures.each n1 h1 in
    let h3 = c.hash_found-3.ensures.each (n1 ++ n2) h2 in
    let h4 = c.hash_found-4.ensures.each ((n1 ++ n2) ++ n3) h3 in
    let h5 = c.hash_found-5.ensures.each (((n1 ++ n2) ++ n3) ++ n4) h4 in
    let h6 = c.hash_found-6.ensures.each ((((n1 ++ n2) ++ n3) ++ n4) ++ n5) h5 in
    let h7 = c.hash_found-7.ensures.each (((((n1 ++ n2) ++ n3) ++ n4) ++ n5) ++ n6) h6 in
    let h8 = c.hash_bytes.ensures.each ((((((n1 ++ n2) ++ n3) ++ n4) ++ n5) ++ n6) ++ n7) h7 in
    let h9 = c.hash_bytes-2.ensures.each (((((((n1 ++ n2) ++ n3) ++ n4) ++ n5) ++ n6) ++ n7) ++ 10 ∷ []) h8 in
    c.finalize.ensures ((((((((n1 ++ n2) ++ n3) ++ n4) ++ n5) ++ n6) ++ n7) ++ 10 ∷ []) ++ c.body.result.now) h9
    ∙ ap sha256 (nine n1 n2 n3 n4 n5 n6 n7 (10 ∷ []) c.body.result.now ∙ ap (λ b. (n1 ++ (n2 ++ (n3 ++ (n4 ++ (n5 ++ (n6 ++ (n7 ++ []))))))) ++ (10 ∷ b)) c.body.ensures)

pub hash_found-requires : goal.hash_found-requires
hash_found-requires c = c.of-found.ensures.subject

pub hash_found-requires-2 : goal.hash_found-requires-2
hash_found-requires-2 c = c.of-found.ensures.authors

pub hash_found-requires-3 : goal.hash_found-requires-3
hash_found-requires-3 c = c.of-found.ensures.date

pub hash_found-requires-4 : goal.hash_found-requires-4
hash_found-requires-4 c = c.of-found.ensures.references

pub hash_found-requires-5 : goal.hash_found-requires-5
hash_found-requires-5 c = c.of-found.ensures.replied

pub hash_found-requires-6 : goal.hash_found-requires-6
hash_found-requires-6 c = c.of-found.ensures.recipients

pub hash_found-requires-7 : goal.hash_found-requires-7
hash_found-requires-7 c = c.of-found.ensures.copied
