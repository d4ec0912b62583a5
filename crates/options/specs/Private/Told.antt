-- For private clauses alone: a command as clap is told of it.
use Rattle.std.specs.Prelude.{◌≡◌, false}
use Rattle.clap.specs.Words.{App, app_of}
use Rattle.clap.specs.declared.builder.command.Command.{Command}
use Rattle.clap.specs.declared.builder.command.Command.TheViews.{out-Command as fields_of}

-- it is this one, and has no option that holds for the commands in it as well
abbrev pub IsTold : App → Command → Type 0
IsTold app c = (app_of c ≡ app) × ((fields_of c).has_globals ≡ false)
