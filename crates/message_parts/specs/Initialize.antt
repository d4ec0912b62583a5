-- The body that answers `initialize`: what the adapter can do.
--
-- A capability is a member with the value true (DAP specification, `Capabilities`). What is not named, the adapter
-- cannot do. The names stand in byte order, as the members of every object here do.
use Rattle.std.specs.Prelude.{ℕ, List, [], ◌∷◌, true, codes}
use Rattle.serde_json.specs.Data.{Data, boolean, object, Members, no_members, member}

-- the names of the capabilities
abbrev pub capabilities : List (List ℕ)
capabilities =
    codes "supportSuspendDebuggee"
    ∷ codes "supportTerminateDebuggee"
    ∷ codes "supportsCancelRequest"
    ∷ codes "supportsConditionalBreakpoints"
    ∷ codes "supportsConfigurationDoneRequest"
    ∷ codes "supportsDisassembleRequest"
    ∷ codes "supportsEvaluateForHovers"
    ∷ codes "supportsFunctionBreakpoints"
    ∷ codes "supportsHitConditionalBreakpoints"
    ∷ codes "supportsInstructionBreakpoints"
    ∷ codes "supportsLogPoints"
    ∷ codes "supportsReadMemoryRequest"
    ∷ codes "supportsRestartRequest"
    ∷ codes "supportsSetVariable"
    ∷ codes "supportsStepBack"
    ∷ codes "supportsSteppingGranularity"
    ∷ codes "supportsTerminateRequest"
    ∷ codes "supportsWriteMemoryRequest"
    ∷ []

-- a member of each name, that is true
abbrev pub all_true : List (List ℕ) → Members
all_true [] = no_members
all_true (name ∷ names) = member name (boolean true) (all_true names)

-- the body
abbrev pub initialize_body : Data
initialize_body = object (all_true capabilities)
