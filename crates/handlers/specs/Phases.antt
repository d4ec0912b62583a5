-- How far a connection has come, and what was agreed on it (DAP specification, "Initialization", "Launching and
-- attaching").
--
-- An editor begins with `initialize`, and says then how it counts lines and columns. It launches or joins a program, and
-- has its breakpoints set; with `configurationDone` it has said all, and a program that it launched runs. `disconnect` is the end.
use Rattle.std.specs.Prelude.{ℕ, Bool, true, false, if◌then◌else◌}
use Rattle.handlers.specs.declared.phase.Phase.{Phase}
use Rattle.handlers.specs.declared.phase.Phase.TheVariants.{Fresh, Initialized, Configuring, Active, Left}
use Rattle.handlers.specs.declared.phase.Phases.{Phases}
use Rattle.handlers.specs.declared.phase.Phases.TheVariants as these
use Rattle.handlers.specs.declared.terms.Terms.{Terms}

-- before anything was agreed, lines and columns are counted from 1
abbrev pub first_terms : Terms
first_terms = record { phase = Fresh; launched = false; lines_start_at1 = true; columns_start_at1 = true }

-- the number that a first line or column has
abbrev pub base_of : Bool → ℕ
base_of starts_at1 = if starts_at1 then 1 else 0

-- ---- phases

-- whether nothing was agreed yet
abbrev pub is_fresh_in : Phase → Bool
is_fresh_in Fresh = true
is_fresh_in Initialized = false
is_fresh_in Configuring = false
is_fresh_in Active = false
is_fresh_in Left = false

-- whether the editor may launch or join a program
abbrev pub is_initialized_in : Phase → Bool
is_initialized_in Fresh = false
is_initialized_in Initialized = true
is_initialized_in Configuring = false
is_initialized_in Active = false
is_initialized_in Left = false

-- whether `initialize` was answered, and it has not left
abbrev pub is_listening_in : Phase → Bool
is_listening_in Fresh = false
is_listening_in Initialized = true
is_listening_in Configuring = true
is_listening_in Active = true
is_listening_in Left = false

-- whether it debugs one
abbrev pub is_debugging_in : Phase → Bool
is_debugging_in Fresh = false
is_debugging_in Initialized = false
is_debugging_in Configuring = true
is_debugging_in Active = true
is_debugging_in Left = false

-- whether it has not left
abbrev pub is_there_in : Phase → Bool
is_there_in Fresh = true
is_there_in Initialized = true
is_there_in Configuring = true
is_there_in Active = true
is_there_in Left = false

-- whether the editor has said all, and is told what the program does
abbrev pub is_active_in : Phase → Bool
is_active_in Fresh = false
is_active_in Initialized = false
is_active_in Configuring = false
is_active_in Active = true
is_active_in Left = false

-- whether it has not said all yet
abbrev pub is_configuring_in : Phase → Bool
is_configuring_in Fresh = false
is_configuring_in Initialized = false
is_configuring_in Configuring = true
is_configuring_in Active = false
is_configuring_in Left = false

-- whether a phase is one of these
abbrev pub has : Phases → Phase → Bool
has these.Fresh phase = is_fresh_in phase
has these.Initialized phase = is_initialized_in phase
has these.Configuring phase = is_configuring_in phase
has these.Active phase = is_active_in phase
has these.Debugging phase = is_debugging_in phase
has these.Listening phase = is_listening_in phase
has these.There phase = is_there_in phase
