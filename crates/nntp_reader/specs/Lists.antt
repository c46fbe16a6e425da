-- What CAPABILITIES, HELP, LIST, NEWGROUPS and NEWNEWS say (RFC 3977, sections 5.2 and 7).
use Rattle.std.specs.Prelude.{ℕ, nat_le, Bool, List, [], ◌∷◌, ◌++◌, codes, decimal, Option, Some, None, true, false, if◌then◌else◌}
use Rattle.std.specs.Option.{unwrap_or}
use Rattle.nntp_words.specs.Numbers.{greatest}
use Rattle.nntp_words.specs.Wildmats.{wildmat_matches}
use Rattle.arch_model.specs.Archives.{Archive, live}
use Rattle.wire_replies.specs.Blocks.{crlf_line, block_end, listed}
use Rattle.nntp_reader.specs.Facts.{fact_lines}
use Rattle.nntp_reader.specs.Groups.{low, high}
use Rattle.nntp_reader.specs.declared.fact.Fact.TheVariants as fact
use Rattle.nntp_reader.specs.declared.verb.Listing.{Listing}
use Rattle.nntp_reader.specs.declared.verb.Listing.TheVariants as listing

-- What the door can do.
abbrev pub capabilities_words : List ℕ
capabilities_words = listed (codes "101 capabilities") (codes "VERSION 2" ∷ codes "READER"
    ∷ codes "LIST ACTIVE ACTIVE.TIMES HEADERS NEWSGROUPS OVERVIEW.FMT" ∷ codes "OVER MSGID"
    ∷ codes "HDR" ∷ codes "NEWNEWS" ∷ [])

-- Where the commands are described.
abbrev pub help_words : List ℕ
help_words = listed (codes "100 help") (codes "see RFC 3977" ∷ [])

-- The fields of an overview line, in order.
abbrev pub overview_format_words : List ℕ
overview_format_words = listed (codes "215 list follows") (codes "Subject:" ∷ codes "From:"
    ∷ codes "Date:" ∷ codes "Message-ID:" ∷ codes "References:" ∷ codes ":bytes" ∷ codes ":lines" ∷ [])

-- What HDR takes: any field, and two facts of an article.
abbrev pub header_names_words : List ℕ
header_names_words =
    listed (codes "215 list follows") (codes ":" ∷ codes ":bytes" ∷ codes ":lines" ∷ [])

-- `NAME HIGH LOW n`: no posting.
abbrev pub active_line : Archive → List ℕ
active_line a = a.config.name ++ (32 ∷ (decimal (high a) ++ (32 ∷ (decimal (low a)
    ++ crlf_line (codes " n")))))

-- `NAME BORN piv2`: when the group was created, in seconds since 1970, and by whom.
abbrev pub times_line : Archive → List ℕ
times_line a = a.config.name ++ (32 ∷ (decimal a.config.born ++ crlf_line (codes " piv2")))

-- `NAME`, a tab and what the group is for.
abbrev pub description_line : Archive → List ℕ
description_line a = a.config.name ++ (9 ∷ crlf_line (codes "public-inbox archive"))

-- The wildmat matches a name. Without one all names match.
abbrev pub is_listed : Option (List ℕ) → List ℕ → Bool
is_listed None name = true
is_listed (Some wildmat) name = unwrap_or (wildmat_matches wildmat name) false

-- A first line, the line of the group if it is listed, and the end.
abbrev pub group_block : List ℕ → Bool → List ℕ → List ℕ
group_block first is_there line = crlf_line first ++ ((if is_there then line else []) ++ block_end)

-- The list of groups, which has one at most.
abbrev pub groups_block : Bool → List ℕ → List ℕ
groups_block is_there line = group_block (codes "215 list follows") is_there line

-- A list, where the group is in a list of groups or not.
abbrev pub listing_words : Listing → Bool → Archive → List ℕ
listing_words listing.Active is_there a = groups_block is_there (active_line a)
listing_words listing.ActiveTimes is_there a = groups_block is_there (times_line a)
listing_words listing.Newsgroups is_there a = groups_block is_there (description_line a)
listing_words listing.OverviewFormat is_there a = overview_format_words
listing_words listing.Headers is_there a = header_names_words

-- What LIST says.
abbrev pub list_words : Listing → Option (List ℕ) → Archive → List ℕ
list_words what wildmat a = listing_words what (is_listed wildmat a.config.name) a

-- What NEWGROUPS says: the group, if it wasn't created before a moment.
abbrev pub new_groups_words : ℕ → Archive → List ℕ
new_groups_words moment a =
    group_block (codes "231 list follows") (nat_le moment a.config.born) (active_line a)

-- What NEWNEWS says: the ids of live messages that arrived at a moment or later, by number, if the
-- wildmat matches the group.
abbrev pub new_news_words : List ℕ → ℕ → Archive → List ℕ
new_news_words wildmat moment a = group_block (codes "230 list follows")
    (is_listed (Some wildmat) a.config.name)
    (fact_lines (fact.ArrivedSince moment) a 1 greatest)
