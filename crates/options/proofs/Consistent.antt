-- What holds of options, whatever the words.
use Rattle.std.proofs.Common.{◌≡◌, ℕ, Bool, true, false, List, [], ◌∷◌, Option, Some, None, Result, Ok, Err, refl, sym, arith, subst, cond}
use Rattle.std.specs.Prelude.{codes}
use Rattle.std.specs.Str.{bytes_eq}
use Rattle.clap.specs.Words.{Kinds, Row, Text, all_of, fault_of, first_of, matches_of, subcommand_of}
use Rattle.numerals.specs.Numerals.{numeral}
use Rattle.numerals.specs.declared.NumeralError.{NumeralError}
use Rattle.options.specs.CommandLine.{command_line}
use Rattle.options.specs.Memory.{IsOffered, default_memory, is_offered, kib_for, offered}
use Rattle.options.specs.Options.{IsConsistent, asked, asked_of, checking, commanded, debugging, executing, has_option, is_command, is_play, is_set, labelling, play_of, playing, run_of, running, serving, unless_refused, with_file}
use Rattle.options.specs.declared.asked.Mode.{Mode}
use Rattle.options.specs.declared.asked.Mode.TheVariants.{Asm, Watch, Replay, Convert}
use Rattle.options.specs.declared.asked.Options.{Options}
use Rattle.options.specs.declared.asked.PlayOptions.{PlayOptions}
use Rattle.options.specs.declared.asked.RunOptions.{RunOptions}
use Rattle.options.proofs.Asking.{is_offered-true}

is_default : IsOffered default_memory
is_default = record { least = omega arith; greatest = omega arith; whole = refl }

offered-some : (read : Result ℕ NumeralError) (kib : ℕ) → offered read ≡ Some kib → IsOffered kib
offered-some (Err error) kib e = absurd (cc e)
offered-some (Ok n) kib e = tested (is_offered n) refl e where
  tested : (test : Bool) → is_offered n ≡ test → cond test (Some n) None ≡ Some kib → IsOffered kib
  tested true passed e = subst IsOffered (cc e) (is_offered-true n passed)
  tested false failed e = absurd (cc e)

kib_for-some : (text : Option Text) (kib : ℕ) → kib_for text ≡ Some kib → IsOffered kib
kib_for-some None kib e = subst IsOffered (cc e) is_default
kib_for-some (Some text) kib e = offered-some (numeral 10 text) kib e

abbrev made_of : Options → Result Options Kinds
made_of options = Ok options

same : (made options : Options) → made_of made ≡ made_of options → IsConsistent made → IsConsistent options
same made options e h =
    let is : made ≡ options = cc e in
    subst IsConsistent is h

served : (listen program : Option Text) (once verbose : Bool) (recording : Option Text) (memory : Option ℕ) → ((kib : ℕ) → memory ≡ Some kib → IsOffered kib)
    → (options : Options) → serving listen program once verbose recording memory ≡ Ok options → IsConsistent options
served listen program once verbose recording None fits options e = absurd (cc e)
served None (Some program) once verbose recording (Some kib) fits options e = absurd (cc e)
served None None true verbose recording (Some kib) fits options e = absurd (cc e)
served None None false verbose recording (Some kib) fits options e = same _ options e (record {
  memory = fits kib refl;
  program = λ none. refl;
  once = λ none. refl;
  file = refl;
  others = λ is. refl;
  address = λ command. absurd (cc command);
  verbose = λ command. absurd (cc command);
  recording = λ command. absurd (cc command);
  default = λ none. absurd (cc none);
  run = λ is. refl;
  play = λ is. refl;
  json = λ is. refl;
  commands = λ is. refl;
})
served (Some listen) program once verbose recording (Some kib) fits options e = same _ options e (record {
  memory = fits kib refl;
  program = λ none. absurd (cc none);
  once = λ none. absurd (cc none);
  file = refl;
  others = λ is. refl;
  address = λ command. absurd (cc command);
  verbose = λ command. absurd (cc command);
  recording = λ command. absurd (cc command);
  default = λ none. absurd (cc none);
  run = λ is. refl;
  play = λ is. refl;
  json = λ is. refl;
  commands = λ is. refl;
})

-- a command with its file, and what else it asks for
of_file : (mode : Mode) (file : Text) → is_command mode ≡ true → IsConsistent (with_file mode file)
of_file mode file command = record {
  memory = is_default;
  program = λ none. refl;
  once = λ none. refl;
  file = sym command;
  others = λ is. refl;
  address = λ is. refl;
  verbose = λ is. refl;
  recording = λ is. refl;
  default = λ is. refl;
  run = λ is. refl;
  play = λ is. refl;
  json = λ is. refl;
  commands = λ is. refl;
}

run : (mode : Mode) (file : Option Text) → is_command mode ≡ true → (options : Options) → running mode file ≡ Ok options
    → IsConsistent options
run mode None command options e = absurd (cc e)
run mode (Some file) command options e = same _ options e (of_file mode file command)

execute : (memory : Option ℕ) (run : Option RunOptions) (files : Option (List Text)) → ((kib : ℕ) → memory ≡ Some kib → IsOffered kib)
    → (options : Options) → executing memory run files ≡ Ok options → IsConsistent options
execute None run files fits options e = absurd (cc e)
execute (Some memory) None files fits options e = absurd (cc e)
execute (Some memory) (Some run) None fits options e = absurd (cc e)
execute (Some memory) (Some run) (Some []) fits options e = absurd (cc e)
execute (Some memory) (Some run) (Some (file ∷ others)) fits options e = same _ options e (record {
  memory = fits memory refl;
  program = λ none. refl;
  once = λ none. refl;
  file = refl;
  others = λ none. absurd (cc none);
  address = λ is. refl;
  verbose = λ is. refl;
  recording = λ is. refl;
  default = λ none. absurd (cc none);
  run = λ none. absurd (cc none);
  play = λ is. refl;
  json = λ is. refl;
  commands = λ is. refl;
})

debug : (memory : Option ℕ) (commands file : Option Text) → ((kib : ℕ) → memory ≡ Some kib → IsOffered kib)
    → (options : Options) → debugging memory commands file ≡ Ok options → IsConsistent options
debug None commands file fits options e = absurd (cc e)
debug (Some memory) commands None fits options e = absurd (cc e)
debug (Some memory) commands (Some file) fits options e = same _ options e (record {
  memory = fits memory refl;
  program = λ none. refl;
  once = λ none. refl;
  file = refl;
  others = λ is. refl;
  address = λ is. refl;
  verbose = λ is. refl;
  recording = λ is. refl;
  default = λ none. absurd (cc none);
  run = λ is. refl;
  play = λ is. refl;
  json = λ is. refl;
  commands = λ none. absurd (cc none);
})

plays : (mode : Mode) (play : Option PlayOptions) (script : Option Text) → is_command mode ≡ true → is_play mode ≡ true → (options : Options)
    → playing mode play script ≡ Ok options → IsConsistent options
plays mode None script command played options e = absurd (cc e)
plays mode (Some play) None command played options e = absurd (cc e)
plays mode (Some play) (Some script) command played options e = same _ options e (record {
  memory = is_default;
  program = λ none. refl;
  once = λ none. refl;
  file = sym command;
  others = λ is. refl;
  address = λ is. refl;
  verbose = λ is. refl;
  recording = λ is. refl;
  default = λ is. refl;
  run = λ is. refl;
  play = λ none. absurd (cc (none, played));
  json = λ is. refl;
  commands = λ is. refl;
})

check : (json : Bool) (files : Option (List Text)) (options : Options) → checking json files ≡ Ok options → IsConsistent options
check json None options e = absurd (cc e)
check json (Some []) options e = absurd (cc e)
check json (Some (file ∷ others)) options e = same _ options e (record {
  memory = is_default;
  program = λ none. refl;
  once = λ none. refl;
  file = refl;
  others = λ none. absurd (cc none);
  address = λ is. refl;
  verbose = λ is. refl;
  recording = λ is. refl;
  default = λ is. refl;
  run = λ is. refl;
  play = λ is. refl;
  json = λ none. absurd (cc none);
  commands = λ is. refl;
})

label : (json : Bool) (file : Option Text) (options : Options) → labelling json file ≡ Ok options → IsConsistent options
label json None options e = absurd (cc e)
label json (Some file) options e = same _ options e (record {
  memory = is_default;
  program = λ none. refl;
  once = λ none. refl;
  file = refl;
  others = λ is. refl;
  address = λ is. refl;
  verbose = λ is. refl;
  recording = λ is. refl;
  default = λ is. refl;
  run = λ is. refl;
  play = λ is. refl;
  json = λ none. absurd (cc none);
  commands = λ is. refl;
})

by_name : (is_asm is_run is_check is_labels is_convert is_replay is_debug : Bool) (rows : List Row) (options : Options)
    → cond is_asm (running Asm (first_of (codes "FILE") rows))
    (cond is_run (executing (kib_for (first_of (codes "memory") rows)) (run_of rows) (all_of (codes "FILE") rows))
    (cond is_check (checking (is_set (codes "json") rows) (all_of (codes "FILE") rows))
    (cond is_labels (labelling (is_set (codes "json") rows) (first_of (codes "FILE") rows))
    (cond is_convert (running Convert (first_of (codes "FILE") rows))
    (cond is_replay (playing Replay (play_of rows) (first_of (codes "SCRIPT") rows))
    (cond is_debug (debugging (kib_for (first_of (codes "memory") rows)) (first_of (codes "commands") rows) (first_of (codes "FILE") rows))
    (playing Watch (play_of rows) (first_of (codes "SCRIPT") rows)))))))) ≡ Ok options → IsConsistent options
by_name true is_run is_check is_labels is_convert is_replay is_debug rows options e = run Asm (first_of (codes "FILE") rows) refl options e
by_name false true is_check is_labels is_convert is_replay is_debug rows options e = execute (kib_for (first_of (codes "memory") rows)) (run_of rows)
    (all_of (codes "FILE") rows) (kib_for-some (first_of (codes "memory") rows)) options e
by_name false false true is_labels is_convert is_replay is_debug rows options e =
    check (is_set (codes "json") rows) (all_of (codes "FILE") rows) options e
by_name false false false true is_convert is_replay is_debug rows options e =
    label (is_set (codes "json") rows) (first_of (codes "FILE") rows) options e
by_name false false false false true is_replay is_debug rows options e = run Convert (first_of (codes "FILE") rows) refl options e
by_name false false false false false true is_debug rows options e =
    plays Replay (play_of rows) (first_of (codes "SCRIPT") rows) refl refl options e
by_name false false false false false false true rows options e = debug (kib_for (first_of (codes "memory") rows))
    (first_of (codes "commands") rows) (first_of (codes "FILE") rows) (kib_for-some (first_of (codes "memory") rows)) options e
by_name false false false false false false false rows options e =
    plays Watch (play_of rows) (first_of (codes "SCRIPT") rows) refl refl options e

by_command : (beside : Bool) (name : Text) (rows : List Row) (options : Options) (refusal : Kinds)
    → cond beside (Err refusal) (commanded name rows) ≡ Ok options → IsConsistent options
by_command true name rows options refusal e = absurd (cc e)
by_command false name rows options refusal e =
    by_name (bytes_eq name (codes "asm")) (bytes_eq name (codes "run")) (bytes_eq name (codes "check")) (bytes_eq name (codes "labels"))
    (bytes_eq name (codes "convert")) (bytes_eq name (codes "replay")) (bytes_eq name (codes "debug")) rows options e

found : (rows : List Row) (command : Option (Text × List Row)) (options : Options) → asked_of rows command ≡ Ok options
    → IsConsistent options
found rows None options e = served (first_of (codes "listen") rows) (first_of (codes "program") rows) (is_set (codes "once") rows)
    (is_set (codes "verbose") rows) (first_of (codes "record") rows) (kib_for (first_of (codes "memory") rows)) (kib_for-some (first_of (codes "memory") rows)) options e
found rows (Some command) options e = by_command (has_option rows) command.0 command.1 options _ e

taken : (kinds : Kinds) (rows : List Row) (command : Option (Text × List Row)) (options : Options)
    → unless_refused kinds (asked_of rows command) ≡ Ok options → IsConsistent options
taken [] rows command options e = found rows command options e
taken (k ∷ ks) rows command options e = absurd (cc e)

pub consistent : (words : List Text) (options : Options) → asked words ≡ Ok options → IsConsistent options
unfolding asked
consistent words options e =
    taken (fault_of command_line words) (matches_of command_line words) (subcommand_of command_line words) options e
