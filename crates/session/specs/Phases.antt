-- How far the present connection has come.
use Rattle.std.specs.Prelude.{Bool, false, Option, Some, None}
use Rattle.handlers.specs.Phases.{is_active_in, is_configuring_in}
use Rattle.session.specs.declared.link.Link.{Link}

-- whether its editor has said all, and is told what the program does
abbrev pub is_active : Option Link → Bool
is_active None = false
is_active (Some link) = is_active_in link.terms.phase

-- whether it has not said all yet
abbrev pub is_configuring : Option Link → Bool
is_configuring None = false
is_configuring (Some link) = is_configuring_in link.terms.phase
