-- Answers of what looks into a machine can be sent.
use Rattle.protocol.specs.declared.command.Command.TheVariants as command
use Rattle.answers.specs.Laws.{LooksAreProper}
use Rattle.answers.proofs.ProperFrames.{frames_are_proper, scopes_are_proper}
use Rattle.answers.proofs.ProperLooks.{bytes_are_proper, entries_are_proper}
use Rattle.answers.proofs.ProperValues.{values_are_proper, variables_are_proper}
use Rattle.answers.proofs.Words.{all_bytes}

pub looks_are_proper : LooksAreProper
looks_are_proper (command.StackTrace arguments) machine table numbers view looks holds narrow issued column =
    frames_are_proper arguments machine table numbers view holds narrow issued column
looks_are_proper (command.Scopes arguments) machine table numbers view looks holds narrow issued column =
    scopes_are_proper arguments numbers issued
looks_are_proper (command.Variables arguments) machine table numbers view looks holds narrow issued column =
    variables_are_proper arguments machine numbers holds
looks_are_proper (command.Evaluate arguments) machine table numbers view looks holds narrow issued column =
    values_are_proper arguments machine numbers holds
looks_are_proper (command.Disassemble arguments) machine table numbers view looks holds narrow issued column =
    entries_are_proper machine.memory arguments (all_bytes machine.memory holds.memory)
looks_are_proper (command.ReadMemory arguments) machine table numbers view looks holds narrow issued column =
    bytes_are_proper machine.memory arguments (all_bytes machine.memory holds.memory)
looks_are_proper other machine table numbers view looks holds narrow issued column = cc
