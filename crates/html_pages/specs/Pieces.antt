-- The pieces of lines.
use Rattle.std.specs.Prelude.{ℕ, min, List, ◌++◌, codes}
use Rattle.arch_base.specs.Moments.{last_moment}
use Rattle.web_text.specs.Addresses.{address_of}
use Rattle.web_text.specs.Days.{page_moment}

-- The moment of a mail. What is after the year 9999, which no mail has, is printed as the last
-- minute of that year.
abbrev pub page_date : ℕ → List ℕ
page_date secs = page_moment (min secs last_moment)

-- The address of a message by the name of the list and the message's id: `/NAME/ID/`.
unfoldable pub address : List ℕ → List ℕ → List ℕ
address name id = codes "/" ++ name ++ codes "/" ++ address_of id ++ codes "/"
