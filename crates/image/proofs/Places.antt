-- Addresses and their places.
use Rattle.std.proofs.Common.{◌≡◌, ℕ, ◌+◌, ◌-◌, ◌*◌, ◌/◌, ◌%◌, ◌^◌, ◌<◌, ◌≤◌, arith}

-- where an address lies in memory of pages
pub record Lies (addr index offset : ℕ) : Type 0 where
  pub low : 65536 ≤ addr
  pub place : addr - 65536 ≡ 4096 * index + offset
  pub within : offset < 4096

-- an address's place, counted in a ring
abbrev pub place_of : ℕ → ℕ
place_of addr = (addr + 4294901760) % 4294967296

pub lies : (addr pages : ℕ) → addr < 2 ^ 32 → pages ≤ 4096 → place_of addr / 4096 < pages
    → Lies addr (place_of addr / 4096) (place_of addr % 4096)
lies addr pages fits few h = record { low = omega arith; place = omega arith; within = omega arith }

-- bytes that lie in memory of pages
pub lies_low : (addr pages n : ℕ) → addr < 2 ^ 32 → pages ≤ 4096 → 1 ≤ n → place_of addr + n ≤ 4096 * pages → 65536 ≤ addr
lies_low addr pages n fits few some h = omega arith

pub lies_at : (addr pages n : ℕ) → addr < 2 ^ 32 → pages ≤ 4096 → 1 ≤ n → place_of addr + n ≤ 4096 * pages
    → addr - 65536 ≡ place_of addr
lies_at addr pages n fits few some h = omega arith
