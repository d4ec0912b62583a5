-- How much memory a machine gets.
use Rattle.std.specs.Prelude.{◌≡◌, ℕ, ◌%◌, ◌==◌, ◌≤◌, nat_le, Bool, ◌&&◌}

-- a size that memory can have, in bytes
pub record IsSize (size : ℕ) : Type 0 where
  pub whole : size % 4096 ≡ 0
  pub some : 4096 ≤ size
  pub few : size ≤ 16777216

abbrev pub is_size : ℕ → Bool
is_size size = (size % 4096 == 0) && nat_le 4096 size && nat_le size 16777216
