-- From what clap says of a parse to what words ask for.
use Rattle.std.proofs.Common.{◌≡◌, ◌∙◌, ◌⊎◌, inl, inr, refl, sym, ap, ap₂, subst, true, List, [], ◌∷◌, Result, Ok, Err, IfOk}
use Rattle.std.specs.Result.{IsErr, IsErrAnd}
use Rattle.clap.specs.Words.{App, FailsBy, HasKind, HasMatchesOf, IsAmong, Kinds, Text, fault_of, found_of, is_simple, is_simple_and_free, kind_of, matches_of, rows_of, subcommand_of, subcommand_rows_of}
use Rattle.clap.specs.declared.error.Error.{Error}
use Rattle.clap.specs.declared.error.kind.ErrorKind.TheVariants as kind
use Rattle.clap.specs.declared.parser.matches.ArgMatches.{ArgMatches}
use Rattle.options.specs.CommandLine.{command_line, is_exact}
use Rattle.options.specs.Options.{Tells, asked, asked_of, unless_refused}
use Rattle.options.specs.Private.Broken.{Finds, kind_of_fault}
use Rattle.options.specs.declared.asked.Options.{Options}
use Rattle.options.specs.declared.fault.Fault.{Fault}

-- clap says exactly which words it refuses
pub fails : (app : App) (words : List Text) (r : Result ArgMatches Error) → app ≡ command_line
    → (is_simple_and_free app ≡ true → FailsBy (fault_of app words) r)
    → FailsBy (fault_of command_line words) r
fails app words r e h = subst (λ (a : App). FailsBy (fault_of a words) r) e (h (ap is_simple_and_free e ∙ is_exact))

is_simple_line : is_simple command_line ≡ true
unfolding command_line
is_simple_line = refl

-- and what it finds in the others
pub matches : (app : App) (words : List Text) (m : ArgMatches) → app ≡ command_line → HasMatchesOf app words m
    → (rows_of (found_of m) ≡ matches_of command_line words) × (subcommand_rows_of m ≡ subcommand_of command_line words)
matches app words m e h =
    let found = h (ap is_simple e ∙ is_simple_line) in
    (found.0 ∙ ap (λ (a : App). matches_of a words) e, found.1 ∙ ap (λ (a : App). subcommand_of a words) e)

among : (kinds : Kinds) (found : Result Options Kinds) (error : Error) → HasKind kinds error
    → (kind_of error ≡ kind.OutOfMemory) ⊎ ((all : Kinds) × (unless_refused kinds found ≡ Err all) × IsAmong (kind_of error) all)
among [] found error (inl h) = inl h
among [] found error (inr h) = absurd h
among (k ∷ ks) found error (inl h) = inl h
among (k ∷ ks) found error (inr h) = inr (k ∷ ks, refl, h)

-- what clap refuses is refused
pub refused : (app : App) (words : List Text) (error : Error) (r : Result Options Error) → app ≡ command_line
    → (is_simple_and_free app ≡ true → FailsBy {T = ArgMatches} (fault_of app words) (Err error)) → IsErrAnd r (λ e. e ≡ error)
    → Tells r (asked words)
unfolding asked
refused app words error (Ok options) e h is = absurd is
refused app words error (Err same) e h is =
    subst (λ (x : Error). Tells (Err x) (asked words)) (sym is) (own (fails app words (Err error) e h)) where
      own : HasKind (fault_of command_line words) error → Tells (Err error) (asked words)
      own kinds = among (fault_of command_line words) _ error kinds

-- what it takes is looked at by the rules
pub taken : (app : App) (words : List Text) (m : ArgMatches) → app ≡ command_line
    → (is_simple_and_free app ≡ true → FailsBy (fault_of app words) (Ok m)) → HasMatchesOf app words m
    → asked words ≡ asked_of (rows_of (found_of m)) (subcommand_rows_of m)
unfolding asked
taken app words m e h has =
    let none = fails app words (Ok m) e h in
    let (rows, subcommand) = matches app words m e has in
    ap (λ (ks : Kinds). unless_refused ks (asked_of (matches_of command_line words) (subcommand_of command_line words))) none
    ∙ ap₂ asked_of (sym rows) (sym subcommand)

-- a rule that is broken is reported
pub broken : (words : List Text) (found : Result Options Kinds) (fault : Fault) (error : Error) → asked words ≡ found
    → Finds (Err fault) found
    → (kind_of error ≡ kind.OutOfMemory) ⊎ (kind_of error ≡ kind_of_fault fault) → Tells (Err error) (asked words)
broken words found fault error e finds (inl h) = inl h
broken words found fault error e (inl none) (inr h) = inl (h ∙ none)
broken words found fault error e (inr is) (inr h) = inr (kind_of_fault fault ∷ [], e ∙ is, inl h)

-- a clause on an answer says nothing of a refusal
pub not_ok : (r : Result Options Error) (P : Options → Type 0) → IsErr r → IfOk r P
not_ok (Ok options) P is = absurd (cc is)
not_ok (Err error) P is = tt
