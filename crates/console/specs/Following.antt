-- A client that follows a session.
use Rattle.std.specs.Prelude.{List}
use Rattle.client.specs.Following.{Follows, Kept}
use Rattle.session.specs.Reached.{Happened}
use Rattle.session.specs.Sessions.{Beginning}

-- It follows one that was reached.
abbrev pub IsFollowing : Kept → Type 0
IsFollowing c = (from : Beginning) × ((happened : List Happened) × Follows from happened c)
