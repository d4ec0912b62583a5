-- The command line as clap is told of it: what clap's definitions take for a command.
--
--   rvdap [--memory KIB] [--verbose] [--record FOLDER]
--   rvdap --listen ADDR [--program FILE] [--once] [--memory KIB] [--verbose] [--record FOLDER]
--   rvdap asm|convert FILE
--   rvdap watch SCRIPT [C [N]]
--   rvdap run [--memory KIB] [--limit N] [--output-limit BYTES] [--count] [--registers] [--trace N] FILE..
--   rvdap debug [--memory KIB] [-x SCRIPT] FILE
--   rvdap check [--json] FILE..
--   rvdap labels [--json] FILE
--   rvdap replay [--from N] [--to N] [--facts] SCRIPT
--
-- clap gets the words after the program's name. It takes each option at most once, a value after a blank or after `=`,
-- `-x` also as `--commands`, and adds `--help` and `--version`. That options stand beside one another as above is said in
-- `Options`.
use Rattle.std.specs.Prelude.{◌≡◌, ℕ, Some, codes, refl, true}
use Rattle.clap.specs.Words.{App, Rule, Text, is_simple_and_free, new_app, new_rule, with_rule, with_subcommand}
use Rattle.clap.specs.Lexer.{usize_max}
use Rattle.clap.specs.declared.builder.action.ArgAction.TheVariants.{SetTrue}

-- an option with a value, by its long name
abbrev pub option : Text → Rule
option name = record (new_rule name) { long = Some name; value_names = 1 }

-- the same, by a letter too
abbrev pub lettered : Text → ℕ → Rule
lettered name letter = record (option name) { short = Some letter }

-- an option without one
abbrev pub flag : Text → Rule
flag name = record (new_rule name) { long = Some name; action = Some SetTrue }

-- the file of a command, which has to be there
abbrev pub file : Text → Rule
file id = record (new_rule id) { required = true }

-- files of a command, at least one
abbrev pub files : Text → Rule
files id = record (new_rule id) { required = true; range = Some (record { start_inclusive = 1; end_inclusive = usize_max }) }

-- a word after the file, which may be there
abbrev pub word : Text → Rule
word id = new_rule id

-- a command with a file
abbrev pub with_file : Text → Text → App
with_file name id = with_rule (new_app name) (file id)

-- the command: it has a version, no command `help`, and its words begin after the program's name
abbrev pub plain : App
plain = record (new_app (codes "rvdap")) {
  top = record (new_app (codes "rvdap")).top { has_version = true; no_binary_name = true; disable_help_subcommand = true };
}

-- its options
abbrev pub with_options : App
with_options = with_rule (with_rule (with_rule (with_rule (with_rule (with_rule plain (option (codes "memory"))) (option (codes "listen"))) (option (codes "program"))) (flag (codes "once")))
    (flag (codes "verbose"))) (option (codes "record"))

-- the commands
abbrev pub run_of_a_machine : App
run_of_a_machine = with_rule (with_rule (with_rule (new_app (codes "run")) (option (codes "memory"))) (option (codes "limit")))
    (option (codes "output-limit"))

abbrev pub run_that_tells : App
run_that_tells = with_rule (with_rule (with_rule run_of_a_machine (flag (codes "count"))) (flag (codes "registers"))) (option (codes "trace"))

abbrev pub run : App
run = with_rule run_that_tells (files (codes "FILE"))

abbrev pub check : App
check = with_rule (with_rule (new_app (codes "check")) (flag (codes "json"))) (files (codes "FILE"))

abbrev pub labels : App
labels = with_rule (with_rule (new_app (codes "labels")) (flag (codes "json"))) (file (codes "FILE"))

abbrev pub watch : App
watch = with_rule (with_rule (with_file (codes "watch") (codes "SCRIPT")) (word (codes "C"))) (word (codes "N"))

abbrev pub replay_of_a_part : App
replay_of_a_part = with_rule (with_rule (with_rule (new_app (codes "replay")) (option (codes "from"))) (option (codes "to"))) (flag (codes "facts"))

abbrev pub replay : App
replay = with_rule replay_of_a_part (file (codes "SCRIPT"))

-- 120 is `x`
abbrev pub debug : App
debug = with_rule (with_rule (with_rule (new_app (codes "debug")) (option (codes "memory"))) (lettered (codes "commands") 120))
    (file (codes "FILE"))

-- the whole, command by command
unfoldable pub command_line : App
command_line = with_subcommand (with_subcommand (with_subcommand (with_subcommand (with_subcommand (with_subcommand (with_subcommand (with_subcommand with_options
    (with_file (codes "asm") (codes "FILE")).top) watch.top) run.top) check.top) labels.top) (with_file (codes "convert") (codes "FILE")).top)
    replay.top) debug.top

-- clap's definitions say exactly what it makes of words
pub is_exact : is_simple_and_free command_line ≡ true
unfolding command_line
is_exact = refl
