-- What holds of the table of requests, row by row.
use Rattle.std.proofs.Common.{◌≡◌, ℕ, Bool, true, false, cond, List, [], ◌∷◌, Option, Some, None, Result, Ok, Err, refl, sym, ◌∙◌, ap, subst, rules, ◌++◌}
use Rattle.std.proofs.lemmas.Grind.{common_steps}
use Rattle.std.proofs.lemmas.Slice.Eq.{bytes_eq-Decides}
use Rattle.std.specs.List.{AllByRecursion}
use Rattle.std.specs.Prelude.{IfSome, if◌then◌else◌, ok_or, bytes_eq, option_and_then, option_map}
use Rattle.serde_json.specs.Data.{Data, Members}
use Rattle.protocol.specs.Arguments.{arguments_members}
use Rattle.protocol.specs.Commands.{requests, execution_requests, inspection_requests, command_among, command_of, name_of}
use Rattle.protocol.specs.Rows.{Row, row, bare}
use Rattle.protocol.specs.Laws.{KnowsRequestsByName, KeepsTheName}
use Rattle.protocol.specs.declared.command.Command.{Command}
use Rattle.protocol.specs.declared.refusal.Refusal.{Refusal}
use Rattle.protocol.specs.declared.refusal.Refusal.TheVariants.{UnknownCommand, BadArguments}

-- a name that no row has is unknown, whatever the members of the arguments are
unknown_at : (here : Bool) (f g : Option Command) (x y : Result Command Refusal)
    → (x ≡ Err UnknownCommand → y ≡ Err UnknownCommand)
    → cond here (ok_or f BadArguments) x ≡ Err UnknownCommand
    → cond here (ok_or g BadArguments) y ≡ Err UnknownCommand
unknown_at true None g x y later e = cc
unknown_at true (Some c) g x y later e = cc
unknown_at false f g x y later e = later e

unknown_among : (rows : List Row) (name : List ℕ) (a b : Option Members)
    → command_among rows name a ≡ Err UnknownCommand
    → command_among rows name b ≡ Err UnknownCommand
unknown_among [] name a b e = refl
unknown_among (r ∷ rs) name a b e =
    unknown_at (bytes_eq name r.name) (option_and_then r.meaning a) _ _ _
    (unknown_among rs name a b) e

pub knows_by_name : KnowsRequestsByName
knows_by_name name some all e =
    unknown_among requests name (arguments_members some) (arguments_members all) e

-- what a row reads has the row's name
abbrev KeepsItsName : Row → Type 0
KeepsItsName r = (members : Members) (command : Command)
    → r.meaning members ≡ Some command → name_of command ≡ r.name

made : {A : Type 0} (name : List ℕ) (make : A → Command) (found : Option A) (command : Command)
    → ((a : A) → name_of (make a) ≡ name)
    → option_map make found ≡ Some command → name_of command ≡ name
made name make None command named e = absurd (cc)
made name make (Some a) command named e =
    let same : make a ≡ command = cc in
    ap name_of (sym same) ∙ named a

row_keeps : {A : Type 0} (name : List ℕ) (arguments : Members → Option A) (make : A → Command)
    → ((a : A) → name_of (make a) ≡ name)
    → KeepsItsName (row name arguments make)
row_keeps name arguments make named members command e =
    made name make (arguments members) command named e

ok_is : (found : Option Command) (command : Command) → ok_or found BadArguments ≡ Ok command
    → found ≡ Some command
ok_is None command e = absurd (cc)
ok_is (Some c) command e = cc

meant : (r : Row) (members : Option Members) (command : Command) → KeepsItsName r
    → option_and_then r.meaning members ≡ Some command → name_of command ≡ r.name
meant r None command keeps e = absurd (cc)
meant r (Some ms) command keeps e = keeps ms command e

named_at : (here : Bool) (r : Row) (name : List ℕ) (members : Option Members)
    (rest : Result Command Refusal) (command : Command)
    → bytes_eq name r.name ≡ here → KeepsItsName r → (rest ≡ Ok command → name_of command ≡ name)
    → cond here (ok_or (option_and_then r.meaning members) BadArguments) rest ≡ Ok command
    → name_of command ≡ name
named_at true r name members rest command same keeps later e =
    meant r members command keeps (ok_is _ command e) ∙ sym ((bytes_eq-Decides name r.name).0 same)
named_at false r name members rest command other keeps later e = later e

named_among : (rows : List Row) (name : List ℕ) (members : Option Members) (command : Command)
    → AllByRecursion KeepsItsName rows
    → command_among rows name members ≡ Ok command → name_of command ≡ name
named_among [] name members command keep e = absurd (cc)
named_among (r ∷ rs) name members command keep e =
    named_at (bytes_eq name r.name) r name members _ command refl keep.0
    (named_among rs name members command keep.1) e

-- A request is asked for with an object, and without one: the name is known to both or to neither, and it is refused without.
pub record Without (with_object without : Result Command Refusal) : Type 0 where
  pub unknown : with_object ≡ Err UnknownCommand → without ≡ Err UnknownCommand
  pub known : (with_object ≡ Err UnknownCommand → ⊥) → without ≡ Err BadArguments

-- a row that is not asked for is passed over
by_row : (found : Option Command) (with_object without : Result Command Refusal) (asked : Bool) → Without with_object without
    → Without (if asked then ok_or found BadArguments else with_object) (if asked then Err BadArguments else without)
by_row found with_object without false h = h
by_row None with_object without true h = record { unknown = λ e. absurd (cc); known = λ _. refl }
by_row (Some command) with_object without true h = record { unknown = λ e. absurd (cc); known = λ _. refl }

pub without_object : (rows : List Row) (name : List ℕ) (members : Members)
    → Without (command_among rows name (Some members)) (command_among rows name None)
without_object [] name _ = record { unknown = λ _. refl; known = λ never. absurd (never refl) }
without_object (r ∷ rs) name members = by_row (r.meaning members) _ _ (bytes_eq name r.name) (without_object rs name members)

-- names that are not asked for are passed over
pub others_skipped : (rows rest : List Row) (name : List ℕ) (found : Option Members)
    → AllByRecursion (λ r. name ≡ r.name → ⊥) rows
    → command_among (rows ++ rest) name found ≡ command_among rest name found
others_skipped [] rest name found others = refl
others_skipped (r ∷ rs) rest name found others =
    let other : bytes_eq name r.name ≡ false = search (rules, common_steps, bytes_eq-Decides) in
    rw other (others_skipped rs rest name found others.1)

bare_keeps : (name : List ℕ) (command : Command) → name_of command ≡ name → KeepsItsName (bare name command)
bare_keeps name command named _ c e =
    let same : command ≡ c = cc in
    ap name_of (sym same) ∙ named

-- each row does so
requests_keep : AllByRecursion KeepsItsName requests
unfolding execution_requests inspection_requests
requests_keep = search (rules, row_keeps, bare_keeps)

pub keeps_the_name : KeepsTheName
keeps_the_name name arguments command e =
    named_among requests name (arguments_members arguments) command requests_keep e

-- ---- what holds of the commands of one request alone

-- as it is read by the name of the command
pub read_by_its_name : (name : List ℕ) (arguments : Option Data) (command : Command)
    → command_of name arguments ≡ Ok command → command_of (name_of command) arguments ≡ Ok command
read_by_its_name name arguments command e =
    subst (λ n. command_of n arguments ≡ Ok command) (sym (keeps_the_name name arguments command e)) e

-- what holds of all arguments that a request may find holds of those of its command
pub of_arguments : {A : Type 0} (P : A → Type 0) (Q : Command → Type 0) (make : A → Command)
    (arguments : Members → Option A) (found : Option Members) (command : Command)
    → ((members : Members) → IfSome (arguments members) P) → ((a : A) → P a → Q (make a))
    → ok_or (option_and_then (λ members. option_map make (arguments members)) found) BadArguments ≡ Ok command
    → Q command
of_arguments P Q make arguments None command h on e = absurd (cc)
of_arguments {A} P Q make arguments (Some members) command h on e = by (arguments members) (h members) e where
  by : (found : Option A) → IfSome found P → ok_or (option_map make found) BadArguments ≡ Ok command → Q command
  by None p e = absurd (cc)
  by (Some a) p e = let same : make a ≡ command = cc in subst Q same (on a p)
