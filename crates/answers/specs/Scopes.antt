-- What `scopes` answers (DAP specification, `ScopesRequest`, `Scope`).
--
-- The innermost frame shows two scopes: the registers, and the words of the stack. Both are of the hart as it stands, and
-- what they were for the frames below is not known, so those show none.
use Rattle.std.specs.Prelude.{ℕ, zero, suc, List, [], ◌∷◌, Result, Ok, Err}
use Rattle.message_parts.specs.declared.scopes.Scope.{Scope}
use Rattle.message_parts.specs.declared.scopes.Scope.TheVariants as scope
use Rattle.protocol.specs.declared.refusal.Refusal.{Refusal}
use Rattle.protocol.specs.declared.scopes.ScopesArguments.{ScopesArguments}
use Rattle.replies.specs.declared.response.ResponseBody.{ResponseBody}
use Rattle.replies.specs.declared.response.ResponseBody.TheVariants.{Scopes}
use Rattle.variables.specs.Numbers.{Numbers, with_targets}
use Rattle.variables.specs.declared.target.Target.{Target}
use Rattle.variables.specs.declared.target.Target.TheVariants.{Registers, Stack}
use Rattle.answers.specs.Targets.{frame_of, number_for}

-- the scopes of a frame, by its index
abbrev pub scopes_of : ℕ → List Target
scopes_of zero = Registers ∷ Stack ∷ []
scopes_of (suc index) = []

abbrev pub given_by : Result ℕ Refusal → List Target
given_by (Ok index) = scopes_of index
given_by (Err refusal) = []

-- the scopes that are given
abbrev pub scopes_given : ScopesArguments → Numbers → List Target
scopes_given arguments numbers = given_by (frame_of numbers arguments.frame_id)

-- the same as the answer has them
abbrev pub entries_of : Numbers → ℕ → List Scope
entries_of numbers zero =
    scope.Registers (number_for numbers Registers) ∷ scope.Stack (number_for numbers Stack) ∷ []
entries_of numbers (suc index) = []

abbrev pub body_by : Numbers → Result ℕ Refusal → Result ResponseBody Refusal
body_by numbers (Err refusal) = Err refusal
body_by numbers (Ok index) =
    Ok (Scopes (record { scopes = entries_of (with_targets numbers (scopes_of index)) index }))

-- the answer, in which the scopes have the numbers to come
abbrev pub scopes : ScopesArguments → Numbers → Result ResponseBody Refusal
scopes arguments numbers = body_by numbers (frame_of numbers arguments.frame_id)
