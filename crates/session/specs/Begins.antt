-- What a session is at first, and why there is none.
use Rattle.std.specs.Prelude.{◌≡◌, false, true, Result, Ok, Err}
use Rattle.session.specs.declared.config.Config.{Config}
use Rattle.session.specs.declared.config.ConfigError.{ConfigError}
use Rattle.session.specs.declared.config.ConfigError.TheVariants.{BadMemorySize, BadLimit, Assembly, NoMemory}
use Rattle.session.specs.declared.limits.Limits.{Limits}
use Rattle.handlers.specs.Sizes.{is_size}
use Rattle.session.specs.Config.{HasError, HasImage, IsWhole}
use Rattle.session.specs.Kept.{Kept, Stands}
use Rattle.session.specs.Limits.{are_limits}
use Rattle.session.specs.Sessions.{Beginning, start}

-- the numbers are right
pub record AreRight (config : Config) (limits : Limits) : Type 0 where
  pub size : is_size config.memory_size ≡ true
  pub numbers : are_limits limits ≡ true

-- what a session of these begins with
abbrev pub beginning_of : (config : Config) (limits : Limits) → AreRight config limits
    → HasImage config.program config.memory_size → Beginning
beginning_of config limits right image = record {
  limits = limits;
  size = config.memory_size;
  program = config.program;
  numbers = right.numbers;
  memory = right.size;
  image = image;
}

-- a session of these is what has begun so
pub record HasBegun (config : Config) (limits : Limits) (k : Kept) : Type 0 where
  pub right : AreRight config limits
  pub image : HasImage config.program config.memory_size
  pub stands : Stands k (start (beginning_of config limits right image))

-- A session is made of it, or the first error that applies is answered. Only a program takes memory, and
-- not before its text is found to be short enough and UTF-8.
abbrev pub Begins : Config → Limits → Result Kept ConfigError → Type 0
Begins config limits (Ok k) = HasBegun config limits k
Begins config limits (Err BadMemorySize) = is_size config.memory_size ≡ false
Begins config limits (Err BadLimit) = (is_size config.memory_size ≡ true) × (are_limits limits ≡ false)
Begins config limits (Err (Assembly error)) =
    AreRight config limits × HasError config.program config.memory_size error
Begins config limits (Err NoMemory) = AreRight config limits × IsWhole config.program
