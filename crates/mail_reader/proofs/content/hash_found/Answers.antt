use Rattle.std.proofs.Common.{[]}
use Rattle.mail_reader.specs.Fields.{fields_of}
use Rattle.mail_reader.specs.Content.{counted, counted_field}
use Rattle.mail_reader.proofs.Countings.{all-nothing, all-value}
use Rattle.mail_reader.proofs.Hashes.{HasHashed-none, HasHashed-same}
use Rattle.mail_reader.proofs.content.hash_found.Goals as goal

pub returns-in-Nothing : goal.returns-in-Nothing
returns-in-Nothing c =
    let all = fields_of c.args.text.now in
    HasHashed-same c.args.hasher.now c.args.hasher.now [] (counted c.args.name.now all) (all-nothing c.args.name.now c.args.found all c.in-Nothing.is c.requires) (HasHashed-none c.args.hasher.now)

pub returns-in-Value : goal.returns-in-Value
returns-in-Value c =
    let all = fields_of c.args.text.now in
    HasHashed-same c.args.hasher.now c.hash_field.new.hasher (counted_field c.args.name.now c.in-Value.value.now) (counted c.args.name.now all)
    (all-value c.args.name.now c.args.found c.in-Value.value all c.in-Value.is c.requires) c.hash_field.ensures
