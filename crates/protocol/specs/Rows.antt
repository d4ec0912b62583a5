-- A request, as a row of the table of all.
use Rattle.std.specs.Prelude.{ℕ, List, Option, Some, option_map}
use Rattle.serde_json.specs.Data.{Members}
use Rattle.protocol.specs.declared.command.Command.{Command}

-- a request: its name, and what the members of its arguments mean, where they mean something
pub record Row : Type 0 where
  pub name : List ℕ
  pub meaning : Members → Option Command

-- the request of that name, made of the arguments that are read
abbrev pub row : {A : Type 0} → List ℕ → (Members → Option A) → (A → Command) → Row
row name arguments make =
    record { name = name; meaning = λ members. option_map make (arguments members) }

-- the request of that name; none of its arguments is looked at
abbrev pub bare : List ℕ → Command → Row
bare name command = record { name = name; meaning = λ _. Some command }
