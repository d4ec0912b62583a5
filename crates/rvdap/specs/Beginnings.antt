-- What the program begins with: a session with a size of memory for a machine, a program or none, and the greatest limits.
use Rattle.std.specs.Prelude.{◌≡◌, ℕ, List, Option, Result, Ok, Err, refl, true, ⊤}
use Rattle.rvdap.specs.declared.serving.NoSession.{NoSession}
use Rattle.rvdap.specs.declared.serving.NoSession.TheVariants.{Assembly, NoMemory}
use Rattle.handlers.specs.Sizes.{is_size}
use Rattle.session.specs.Config.{HasError, HasImage}
use Rattle.session.specs.Kept.{Kept, Stands}
use Rattle.session.specs.Limits.{greatest_limits}
use Rattle.session.specs.Sessions.{Beginning, start}

-- what a session begins with, where a machine can get this many bytes and the program has an image
abbrev pub begins_with : (bytes : ℕ) (program : Option (List ℕ × List ℕ)) → is_size bytes ≡ true → HasImage program bytes → Beginning
begins_with bytes program can image = record {
  limits = greatest_limits;
  size = bytes;
  program = program;
  numbers = refl;
  memory = can;
  image = image;
}

-- a session that has begun so
pub record IsBegun (bytes : ℕ) (program : Option (List ℕ × List ℕ)) (kept : Kept) : Type 0 where
  pub can : is_size bytes ≡ true
  pub image : HasImage program bytes
  pub stands : Stands kept (start (begins_with bytes program can image))

-- it begins, or what is wrong with the program is said; or no memory was left
abbrev pub Makes : ℕ → Option (List ℕ × List ℕ) → Result Kept NoSession → Type 0
Makes bytes program (Ok kept) = IsBegun bytes program kept
Makes bytes program (Err (Assembly error)) = HasError program bytes error
Makes bytes program (Err NoMemory) = ⊤
