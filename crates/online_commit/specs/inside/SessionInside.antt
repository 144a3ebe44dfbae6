-- What a session is made of.
use Rattle.online_commit.specs.declared.online.Online.TheInside.{Inside}
use Rattle.online_commit.specs.inside.Pieces.{session_of}
use Rattle.online_commit.specs.Session.{Session}
use Rattle.online_commit.specs.inside.Steps.{IsSession, KeptSession, seen_session}

abbrev pub kept_session : Inside → KeptSession
kept_session a = session_of a.net.now a.params a.piece

-- contracts do not see the cells and the masks, which follow from the layers
abbrev pub shown_session : Inside → Session
shown_session a = seen_session (kept_session a)

abbrev pub IsSessionKept : Inside → Type 0
IsSessionKept a = IsSession (kept_session a)
