-- Laws of feeds: no tag, and no value of an attribute, comes from a mail.
use Rattle.std.specs.Prelude.{◌≡◌, ℕ, ◌^◌, ◌<◌, List, ◌++◌, length, replicate, codes}
use Rattle.std.specs.List.{All, concat}
use Rattle.arch_base.specs.Names.{IsArchiveName}
use Rattle.web_text.specs.Markup.{markup}
use Rattle.atom_mbox.specs.Feeds.{HasMoment, feed_of}
use Rattle.atom_mbox.specs.declared.feeds.Shown.{Shown}

-- The bytes of markup of an entry: of eleven tags, of its link and the tag before its text, which have
-- an attribute each, and of two tags after that.
abbrev pub entry_markup : List ℕ
entry_markup = codes "<><><><><><><><><><><><\"\"><\"\"><><>"

-- Those of a feed with so many entries: of eight tags before them, of which the first two have
-- attributes, of the entries, and of one tag after them.
abbrev pub feed_markup : ℕ → List ℕ
feed_markup count =
    codes "<\"\"\"\"><\"\"><><><><><><>" ++ concat (replicate count entry_markup) ++ codes "<>"

-- A feed has its own tags, and those of an entry for each of its mails, whatever the mails have.
abbrev pub FeedHasItsTags : Type 0
FeedHasItsTags = (name : List ℕ) (born : ℕ) (mails : List Shown) → IsArchiveName name → born < 2 ^ 32
    → All HasMoment mails → markup (feed_of name born mails) ≡ feed_markup (length mails)
