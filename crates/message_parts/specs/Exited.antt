-- The body of the event `exited`: the program's exit code, which may be below 0 (DAP specification, `ExitedEvent`).
use Rattle.std.specs.Prelude.{Some, codes}
use Rattle.message_parts.specs.Forms.{Form, object_of, none, field, made_of, signed}
use Rattle.message_parts.specs.declared.exited.Exited.{Exited}

abbrev pub exited : Form Exited
exited = made_of (λ e. (e.exit_code, tt)) (λ p. Some (record { exit_code = p.0 }))
    (object_of (field (codes "exitCode") signed none))
