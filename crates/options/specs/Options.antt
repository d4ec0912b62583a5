-- What the words after the program's name ask for, and which words are refused.
--
-- clap reads the words, by its own definitions: which words it refuses, and what it finds in the others. Of what it finds
--
-- - a command stands by itself, with its file and the options that are its own: none of the other options stands beside it;
-- - of `run` and `debug`, `--memory` has a value as in `Memory`; of `run`, `--limit`, `--output-limit` and `--trace` have one as in `Limits`,
--   and so have C and N of `watch`, and `--from` and `--to` of `replay`;
-- - without a command, `--program` and `--once` stand only beside `--listen`, and `--memory` has a value as in `Memory`.
use Rattle.std.specs.Prelude.{◌≡◌, ◌⊎◌, ◌∷◌, ◌||◌, ◌&&◌, ◌++◌, Bool, true, false, not, ℕ, List, [], Option, Some, None, Result, Ok, Err, IsErr, codes, if◌then◌else◌, is_some, refl}
use Rattle.std.specs.Option.{option_map_or}
use Rattle.std.specs.Str.{bytes_eq}
use Rattle.clap.specs.Words.{Kinds, IsAmong, Row, Text, all_of, fault_of, first_of, kind_of, matches_of, subcommand_of}
use Rattle.clap.specs.declared.error.Error.{Error}
use Rattle.clap.specs.declared.error.kind.ErrorKind.TheVariants as kind
use Rattle.clap.proofs.OnLiterals.{clap_on_literals}
use Rattle.options.specs.CommandLine.{command_line}
use Rattle.options.specs.Limits.{limit_for}
use Rattle.options.specs.Memory.{IsOffered, default_memory, kib_for, kib_in}
use Rattle.options.specs.declared.asked.Mode.{Mode}
use Rattle.options.specs.declared.asked.Mode.TheVariants.{Serve, Asm, Watch, Replay, Run, Debug, Check, Labels, Convert}
use Rattle.options.specs.declared.asked.Options.{Options}
use Rattle.options.specs.declared.asked.PlayOptions.{PlayOptions}
use Rattle.options.specs.declared.asked.RunOptions.{RunOptions}
use Rattle.options.specs.declared.usage.Usage.{Usage}
use Rattle.options.specs.declared.usage.Usage.TheVariants as usage

-- ---- what clap found

-- a flag is set: its value is `true`
abbrev pub is_set : Text → List Row → Bool
is_set id rows = option_map_or (λ value. bytes_eq value (codes "true")) (first_of id rows) false

-- an option is given
abbrev pub has_option : List Row → Bool
has_option rows = is_some (first_of (codes "memory") rows) || is_some (first_of (codes "listen") rows)
    || is_some (first_of (codes "program") rows) || is_set (codes "once") rows || is_set (codes "verbose") rows
    || is_some (first_of (codes "record") rows)

-- how a program is run where nothing is said of it
abbrev pub plain_run : RunOptions
plain_run = record { limit = None; output_limit = None; trace = None; count = false; registers = false }

-- how a script is played where nothing is said of it
abbrev pub plain_play : PlayOptions
plain_play = record { connection = None; bytes = None; from = None; to = None; facts = false }

-- ---- without a command

-- what stands only beside `--listen`
abbrev pub lacks_listen : Option Text → Option Text → Bool → Bool
lacks_listen listen program once = not (is_some listen) && (is_some program || once)

abbrev pub serving : Option Text → Option Text → Bool → Bool → Option Text → Option ℕ → Result Options Kinds
serving listen program once verbose recording None = Err (kind.ValueValidation ∷ [])
serving listen program once verbose recording (Some memory) = if lacks_listen listen program once then Err (kind.MissingRequiredArgument ∷ []) else Ok (record {
  mode = Serve;
  file = None;
  others = [];
  listen = listen;
  program = program;
  once = once;
  verbose = verbose;
  recording = recording;
  memory = memory;
  run = plain_run;
  play = plain_play;
  json = false;
  commands = None;
})

-- ---- a command

-- a command with its file, and nothing else
abbrev pub with_file : Mode → Text → Options
with_file mode file = record {
  mode = mode;
  file = Some file;
  others = [];
  listen = None;
  program = None;
  once = false;
  verbose = false;
  recording = None;
  memory = default_memory;
  run = plain_run;
  play = plain_play;
  json = false;
  commands = None;
}

abbrev pub running : Mode → Option Text → Result Options Kinds
running mode None = Err (kind.MissingRequiredArgument ∷ [])
running mode (Some file) = Ok (with_file mode file)

-- how a program is run: how many instructions may run, how many bytes may be printed, how many of the last instructions are told, and
-- whether those that retired are counted and the registers told; there is none where a number is bad
abbrev pub with_numbers : Option (Option ℕ) → Option (Option ℕ) → Option (Option ℕ) → Bool → Bool → Option RunOptions
with_numbers None output trace count registers = None
with_numbers (Some limit) None trace count registers = None
with_numbers (Some limit) (Some output) None count registers = None
with_numbers (Some limit) (Some output) (Some trace) count registers =
    Some (record { limit = limit; output_limit = output; trace = trace; count = count; registers = registers })

abbrev pub run_of : List Row → Option RunOptions
run_of rows = with_numbers (limit_for (first_of (codes "limit") rows)) (limit_for (first_of (codes "output-limit") rows))
    (limit_for (first_of (codes "trace") rows)) (is_set (codes "count") rows) (is_set (codes "registers") rows)

-- a program is run: what its memory is, how it is run, and its files
abbrev pub executing : Option ℕ → Option RunOptions → Option (List Text) → Result Options Kinds
executing None run files = Err (kind.ValueValidation ∷ [])
executing (Some memory) None files = Err (kind.ValueValidation ∷ [])
executing (Some memory) (Some run) None = Err (kind.MissingRequiredArgument ∷ [])
executing (Some memory) (Some run) (Some []) = Err (kind.MissingRequiredArgument ∷ [])
executing (Some memory) (Some run) (Some (file ∷ others)) = Ok (record (with_file Run file) { memory = memory; run = run; others = others })

-- a program is debugged: what its memory is, the script of commands that come first, and its file
abbrev pub debugging : Option ℕ → Option Text → Option Text → Result Options Kinds
debugging None commands file = Err (kind.ValueValidation ∷ [])
debugging (Some memory) commands None = Err (kind.MissingRequiredArgument ∷ [])
debugging (Some memory) commands (Some file) = Ok (record (with_file Debug file) { memory = memory; commands = commands })

-- how a script is played: the connection that is watched and how many bytes for it, the first and the last event that is told, and whether
-- what is known is told; there is none where a number is bad
abbrev pub between : Option (Option ℕ) → Option (Option ℕ) → Option (Option ℕ) → Option (Option ℕ) → Bool → Option PlayOptions
between None bytes from to facts = None
between (Some connection) None from to facts = None
between (Some connection) (Some bytes) None to facts = None
between (Some connection) (Some bytes) (Some from) None facts = None
between (Some connection) (Some bytes) (Some from) (Some to) facts =
    Some (record { connection = connection; bytes = bytes; from = from; to = to; facts = facts })

abbrev pub play_of : List Row → Option PlayOptions
play_of rows = between (limit_for (first_of (codes "C") rows)) (limit_for (first_of (codes "N") rows))
    (limit_for (first_of (codes "from") rows)) (limit_for (first_of (codes "to") rows)) (is_set (codes "facts") rows)

-- a script is played
abbrev pub playing : Mode → Option PlayOptions → Option Text → Result Options Kinds
playing mode None script = Err (kind.ValueValidation ∷ [])
playing mode (Some play) None = Err (kind.MissingRequiredArgument ∷ [])
playing mode (Some play) (Some script) = Ok (record (with_file mode script) { play = play })

-- files are checked
abbrev pub checking : Bool → Option (List Text) → Result Options Kinds
checking json None = Err (kind.MissingRequiredArgument ∷ [])
checking json (Some []) = Err (kind.MissingRequiredArgument ∷ [])
checking json (Some (file ∷ others)) = Ok (record (with_file Check file) { others = others; json = json })

-- labels are told
abbrev pub labelling : Bool → Option Text → Result Options Kinds
labelling json None = Err (kind.MissingRequiredArgument ∷ [])
labelling json (Some file) = Ok (record (with_file Labels file) { json = json })

-- the command of a name, with what clap found for it
abbrev pub commanded : Text → List Row → Result Options Kinds
commanded name rows = if bytes_eq name (codes "asm") then running Asm (first_of (codes "FILE") rows)
    else if bytes_eq name (codes "run") then executing (kib_for (first_of (codes "memory") rows)) (run_of rows)
    (all_of (codes "FILE") rows)
    else if bytes_eq name (codes "check") then checking (is_set (codes "json") rows) (all_of (codes "FILE") rows)
    else if bytes_eq name (codes "labels") then labelling (is_set (codes "json") rows) (first_of (codes "FILE") rows)
    else if bytes_eq name (codes "convert") then running Convert (first_of (codes "FILE") rows)
    else if bytes_eq name (codes "replay") then playing Replay (play_of rows) (first_of (codes "SCRIPT") rows)
    else if bytes_eq name (codes "debug") then debugging (kib_for (first_of (codes "memory") rows)) (first_of (codes "commands") rows)
    (first_of (codes "FILE") rows)
    else playing Watch (play_of rows) (first_of (codes "SCRIPT") rows)

-- ---- the whole

-- what is asked for by what clap found, and by the command that it met, or the kind of error that it is
abbrev pub asked_of : List Row → Option (Text × List Row) → Result Options Kinds
asked_of rows None = serving (first_of (codes "listen") rows) (first_of (codes "program") rows) (is_set (codes "once") rows)
    (is_set (codes "verbose") rows) (first_of (codes "record") rows) (kib_for (first_of (codes "memory") rows))
asked_of rows (Some command) = if has_option rows then Err (kind.ArgumentConflict ∷ []) else commanded command.0 command.1

-- what clap refuses is refused, by one of these kinds of error
abbrev pub unless_refused : Kinds → Result Options Kinds → Result Options Kinds
unless_refused [] asked = asked
unless_refused (kind ∷ kinds) asked = Err (kind ∷ kinds)

-- what words ask for, or the kinds of error; one of them is reported
unfoldable pub asked : List Text → Result Options Kinds
asked words = unless_refused (fault_of command_line words) (asked_of (matches_of command_line words) (subcommand_of command_line words))

-- ---- what is answered

-- the options that are asked for; or an error of one of the kinds; or no memory was left
abbrev pub Tells : Result Options Error → Result Options Kinds → Type 0
Tells (Ok options) asked = asked ≡ Ok options
Tells (Err error) asked = (kind_of error ≡ kind.OutOfMemory) ⊎ ((kinds : Kinds) × (asked ≡ Err kinds) × IsAmong (kind_of error) kinds)

-- the options that are asked for; or that words are refused, where they are; or no memory was left
abbrev pub Answers : Result Options Usage → Result Options Kinds → Type 0
Answers (Ok options) asked = asked ≡ Ok options
Answers (Err usage.Words) asked = IsErr asked
Answers (Err usage.NoMemory) asked = Unit {0}

-- ---- what holds of options, whatever the words

-- a mode is a command's
abbrev pub is_command : Mode → Bool
is_command Serve = false
is_command Asm = true
is_command Watch = true
is_command Replay = true
is_command Run = true
is_command Debug = true
is_command Check = true
is_command Labels = true
is_command Convert = true

-- a program is given memory in a mode
abbrev pub has_memory : Mode → Bool
has_memory Serve = true
has_memory Asm = false
has_memory Watch = false
has_memory Replay = false
has_memory Run = true
has_memory Debug = true
has_memory Check = false
has_memory Labels = false
has_memory Convert = false

-- a program runs to its end in a mode
abbrev pub is_run : Mode → Bool
is_run Serve = false
is_run Asm = false
is_run Watch = false
is_run Replay = false
is_run Run = true
is_run Debug = false
is_run Check = false
is_run Labels = false
is_run Convert = false

-- a script is played in a mode
abbrev pub is_play : Mode → Bool
is_play Watch = true
is_play Replay = true
is_play _ = false

-- commands can be played first in a mode
abbrev pub has_commands : Mode → Bool
has_commands Debug = true
has_commands _ = false

-- several files can be named in a mode
abbrev pub has_others : Mode → Bool
has_others Serve = false
has_others Asm = false
has_others Watch = false
has_others Replay = false
has_others Run = true
has_others Debug = false
has_others Check = true
has_others Labels = false
has_others Convert = false

-- JSON can be asked for in a mode
abbrev pub has_json : Mode → Bool
has_json Serve = false
has_json Asm = false
has_json Watch = false
has_json Replay = false
has_json Run = false
has_json Debug = false
has_json Check = true
has_json Labels = true
has_json Convert = false

pub record IsConsistent (options : Options) : Type 0 where
  -- the memory is a number of KiB that may be asked for
  pub memory : IsOffered options.memory
  -- a program, or an end after the first connection, stands only beside an address
  pub program : options.listen ≡ None → options.program ≡ None
  pub once : options.listen ≡ None → options.once ≡ false
  -- a command has a file, and nothing else does
  pub file : is_some options.file ≡ is_command options.mode
  pub others : has_others options.mode ≡ false → options.others ≡ []
  -- and no option stands beside it that is not its own
  pub address : is_command options.mode ≡ true → options.listen ≡ None
  pub verbose : is_command options.mode ≡ true → options.verbose ≡ false
  pub recording : is_command options.mode ≡ true → options.recording ≡ None
  pub default : has_memory options.mode ≡ false → options.memory ≡ default_memory
  pub run : is_run options.mode ≡ false → options.run ≡ plain_run
  pub play : is_play options.mode ≡ false → options.play ≡ plain_play
  pub json : has_json options.mode ≡ false → options.json ≡ false
  pub commands : has_commands options.mode ≡ false → options.commands ≡ None

-- ---- examples

-- what is asked for where nothing is said
abbrev pub defaults : Options
defaults = record {
  mode = Serve;
  file = None;
  others = [];
  listen = None;
  program = None;
  once = false;
  verbose = false;
  recording = None;
  memory = 1024;
  run = plain_run;
  play = plain_play;
  json = false;
  commands = None;
}

nothing_said : asked [] ≡ Ok defaults
unfolding clap_on_literals asked command_line
nothing_said = refl

memory_said : asked (codes "--memory" ∷ codes "16384" ∷ []) ≡ Ok (record defaults { memory = 16384 })
unfolding clap_on_literals asked command_line
memory_said = refl

no_multiple_of_4 : asked (codes "--memory" ∷ codes "5" ∷ []) ≡ Err (kind.ValueValidation ∷ [])
unfolding clap_on_literals asked command_line
no_multiple_of_4 = refl

no_number : asked (codes "--memory=much" ∷ []) ≡ Err (kind.ValueValidation ∷ [])
unfolding clap_on_literals asked command_line
no_number = refl

no_value : asked (codes "--memory" ∷ []) ≡ Err (kind.InvalidValue ∷ [])
unfolding clap_on_literals asked command_line
no_value = refl

twice : asked (codes "--memory" ∷ codes "8" ∷ codes "--memory" ∷ codes "8" ∷ []) ≡ Err (kind.ArgumentConflict ∷ [])
unfolding clap_on_literals asked command_line
twice = refl

all_said : asked (codes "--once" ∷ codes "--listen" ∷ codes "[::1]:4711" ∷ codes "--program=a.s" ∷ codes "--memory" ∷ codes "8" ∷ []) ≡ Ok (record defaults {
  listen = Some (codes "[::1]:4711");
  program = Some (codes "a.s");
  once = true;
  memory = 8;
})
unfolding clap_on_literals asked command_line
all_said = refl

no_listen : asked (codes "--program" ∷ codes "a.s" ∷ []) ≡ Err (kind.MissingRequiredArgument ∷ [])
unfolding clap_on_literals asked command_line
no_listen = refl

verbose_said : asked (codes "--verbose" ∷ []) ≡ Ok (record defaults { verbose = true })
unfolding clap_on_literals asked command_line
verbose_said = refl

once_without_listen : asked (codes "--once" ∷ []) ≡ Err (kind.MissingRequiredArgument ∷ [])
unfolding clap_on_literals asked command_line
once_without_listen = refl

asm_said : asked (codes "asm" ∷ codes "a.s" ∷ []) ≡ Ok (record defaults { mode = Asm; file = Some (codes "a.s") })
unfolding clap_on_literals asked command_line
asm_said = refl

watch_said : asked (codes "watch" ∷ codes "s" ∷ []) ≡ Ok (record defaults { mode = Watch; file = Some (codes "s") })
unfolding clap_on_literals asked command_line
watch_said = refl

all_of_watch : asked (codes "watch" ∷ codes "s" ∷ codes "2" ∷ codes "1137" ∷ [])
    ≡ Ok (record (with_file Watch (codes "s")) { play = record plain_play { connection = Some 2; bytes = Some 1137 } })
unfolding clap_on_literals asked command_line
all_of_watch = refl

all_of_replay : asked (codes "replay" ∷ codes "--from" ∷ codes "7" ∷ codes "--facts" ∷ codes "--to=9" ∷ codes "s" ∷ [])
    ≡ Ok (record (with_file Replay (codes "s")) { play = record plain_play { from = Some 7; to = Some 9; facts = true } })
unfolding clap_on_literals asked command_line
all_of_replay = refl

recording_said : asked (codes "--record" ∷ codes "there" ∷ []) ≡ Ok (record defaults { recording = Some (codes "there") })
unfolding clap_on_literals asked command_line
recording_said = refl

no_file : asked (codes "asm" ∷ []) ≡ Err (kind.MissingRequiredArgument ∷ [])
unfolding clap_on_literals asked command_line
no_file = refl

no_connection : asked (codes "watch" ∷ codes "s" ∷ codes "t" ∷ []) ≡ Err (kind.ValueValidation ∷ [])
unfolding clap_on_literals asked command_line
no_connection = refl

a_word_too_many : asked (codes "watch" ∷ codes "s" ∷ codes "1" ∷ codes "2" ∷ codes "3" ∷ []) ≡ Err (kind.UnknownArgument ∷ [])
unfolding clap_on_literals asked command_line
a_word_too_many = refl

option_before_asm : asked (codes "--memory" ∷ codes "8" ∷ codes "asm" ∷ codes "a.s" ∷ []) ≡ Err (kind.ArgumentConflict ∷ [])
unfolding clap_on_literals asked command_line
option_before_asm = refl

option_after_asm : asked (codes "asm" ∷ codes "--once" ∷ codes "a.s" ∷ []) ≡ Err (kind.UnknownArgument ∷ [])
unfolding clap_on_literals asked command_line
option_after_asm = refl

unknown_option : asked (codes "--memories" ∷ []) ≡ Err (kind.UnknownArgument ∷ [])
unfolding clap_on_literals asked command_line
unknown_option = refl

unknown_command : asked (codes "as" ∷ []) ≡ Err (kind.UnknownArgument ∷ kind.InvalidSubcommand ∷ [])
unfolding clap_on_literals asked command_line
unknown_command = refl

help_is_asked : asked (codes "--help" ∷ []) ≡ Err (kind.DisplayHelp ∷ [])
unfolding clap_on_literals asked command_line
help_is_asked = refl

version_is_asked : asked (codes "--version" ∷ []) ≡ Err (kind.DisplayVersion ∷ [])
unfolding clap_on_literals asked command_line
version_is_asked = refl

run_said : asked (codes "run" ∷ codes "a.s" ∷ []) ≡ Ok (with_file Run (codes "a.s"))
unfolding clap_on_literals asked command_line
run_said = refl

all_of_run : asked (codes "run" ∷ codes "--count" ∷ codes "--limit" ∷ codes "7" ∷ codes "--memory=8" ∷ codes "a.s" ∷ [])
    ≡ Ok (record (with_file Run (codes "a.s")) { memory = 8; run = record plain_run { limit = Some 7; count = true } })
unfolding clap_on_literals asked command_line
all_of_run = refl

run_of_two : asked (codes "run" ∷ codes "a.s" ∷ codes "--output-limit=9" ∷ codes "b.s" ∷ codes "--registers" ∷ codes "--trace" ∷ codes "3" ∷ [])
    ≡ Ok (record (with_file Run (codes "a.s")) {
      others = codes "b.s" ∷ [];
      run = record plain_run { output_limit = Some 9; trace = Some 3; registers = true };
    })
unfolding clap_on_literals asked command_line
run_of_two = refl

no_number_of_instructions : asked (codes "run" ∷ codes "--limit" ∷ codes "much" ∷ codes "a.s" ∷ []) ≡ Err (kind.ValueValidation ∷ [])
unfolding clap_on_literals asked command_line
no_number_of_instructions = refl

memory_before_run : asked (codes "--memory" ∷ codes "8" ∷ codes "run" ∷ codes "a.s" ∷ []) ≡ Err (kind.ArgumentConflict ∷ [])
unfolding clap_on_literals asked command_line
memory_before_run = refl

debug_said : asked (codes "debug" ∷ codes "a.s" ∷ []) ≡ Ok (with_file Debug (codes "a.s"))
unfolding clap_on_literals asked command_line
debug_said = refl

all_of_debug : asked (codes "debug" ∷ codes "-x" ∷ codes "s" ∷ codes "--memory=8" ∷ codes "a.s" ∷ [])
    ≡ Ok (record (with_file Debug (codes "a.s")) { memory = 8; commands = Some (codes "s") })
unfolding clap_on_literals asked command_line
all_of_debug = refl

commands_twice : asked (codes "debug" ∷ codes "-x" ∷ codes "s" ∷ codes "--commands=t" ∷ codes "a.s" ∷ []) ≡ Err (kind.ArgumentConflict ∷ [])
unfolding clap_on_literals asked command_line
commands_twice = refl

check_said : asked (codes "check" ∷ codes "a.s" ∷ codes "b.s" ∷ codes "c.s" ∷ codes "--json" ∷ [])
    ≡ Ok (record (with_file Check (codes "a.s")) { others = codes "b.s" ∷ codes "c.s" ∷ []; json = true })
unfolding clap_on_literals asked command_line
check_said = refl

nothing_to_check : asked (codes "check" ∷ []) ≡ Err (kind.MissingRequiredArgument ∷ [])
unfolding clap_on_literals asked command_line
nothing_to_check = refl

labels_said : asked (codes "labels" ∷ codes "a.s" ∷ []) ≡ Ok (with_file Labels (codes "a.s"))
unfolding clap_on_literals asked command_line
labels_said = refl

convert_said : asked (codes "convert" ∷ codes "a.s" ∷ []) ≡ Ok (with_file Convert (codes "a.s"))
unfolding clap_on_literals asked command_line
convert_said = refl

labels_of_two : asked (codes "labels" ∷ codes "a.s" ∷ codes "b.s" ∷ []) ≡ Err (kind.UnknownArgument ∷ [])
unfolding clap_on_literals asked command_line
labels_of_two = refl

-- ---- examples with every text

-- each text can stand after `=`
each_memory : (text : Text) → asked ((codes "--memory=" ++ text) ∷ []) ≡ serving None None false false None (kib_in text)
unfolding clap_on_literals asked command_line
each_memory text = refl

each_address : (address program text : Text) → asked ((codes "--listen=" ++ address) ∷ (codes "--program=" ++ program) ∷ codes "--once" ∷ (codes "--memory=" ++ text) ∷ [])
    ≡ serving (Some address) (Some program) true false None (kib_in text)
unfolding clap_on_literals asked command_line
each_address address program text = refl

-- and each can name a file, after `--` also one that looks like an option
each_file : (file : Text) → asked (codes "asm" ∷ codes "--" ∷ file ∷ []) ≡ Ok (record defaults { mode = Asm; file = Some file })
unfolding clap_on_literals asked command_line
each_file file = refl

each_script : (file : Text) → asked (codes "watch" ∷ codes "--" ∷ file ∷ []) ≡ Ok (record defaults { mode = Watch; file = Some file })
unfolding clap_on_literals asked command_line
each_script file = refl
