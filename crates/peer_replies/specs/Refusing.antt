-- Private: why bytes have no head that is short enough.
use Rattle.httparse.specs.declared.Error.{Error}
use Rattle.httparse.specs.declared.Error.TheVariants.{TooManyHeaders}
use Rattle.peer_replies.specs.declared.reading.Unreadable.{Unreadable}
use Rattle.peer_replies.specs.declared.reading.Unreadable.TheVariants.{NotHttp, ManyFields}

-- The reason that a parser's error stands for: too many fields, or no head.
abbrev pub refusal_of : Error → Unreadable
refusal_of TooManyHeaders = ManyFields
refusal_of other = NotHttp
