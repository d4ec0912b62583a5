-- The pages of memory. A page is a vector of its 4,096 bytes, or an empty one as long as
-- it was not made, which represents a page of zeros.
use Rattle.std.specs.Prelude.{◌≡◌, ℕ, ◌+◌, ◌*◌, ◌<◌, ◌≤◌, ◌⊎◌, List, [], ◌∷◌, ◌++◌, length}
use Rattle.std.specs.Prelude.{replicate, take, drop, slice_index_or}
use Rattle.std.specs.declared.alloc.Global.{Global}
use Rattle.std.specs.declared.vec.Vec.{Vec}

-- the bytes of a page that was not made
unfoldable pub zeros : List ℕ
zeros = replicate 4096 0

-- the bytes of a page, made or not
abbrev pub page_bytes : List ℕ → List ℕ
page_bytes [] = zeros
page_bytes (byte ∷ bytes) = byte ∷ bytes

-- a page was not made, or has all of its bytes
abbrev pub IsPage : List ℕ → Type 0
IsPage page = (length page ≡ 0) ⊎ (length page ≡ 4096)

-- each of these is a page
abbrev pub ArePages : List (Vec ℕ Global) → Type 0
ArePages [] = Unit {0}
ArePages (page ∷ pages) = IsPage page.items × ArePages pages

-- all bytes, page after page
abbrev pub flat : List (Vec ℕ Global) → List ℕ
flat [] = []
flat (page ∷ pages) = page_bytes page.items ++ flat pages

-- pages, and no more of them than memory has at most
pub record AreWhole (pages : List (Vec ℕ Global)) : Type 0 where
  pub each : ArePages pages
  pub few : length pages ≤ 4096

-- `count` pages, none of them made
pub record AreBlank (pages : List (Vec ℕ Global)) (count : ℕ) : Type 0 where
  pub each : ArePages pages
  pub many : length pages ≡ count
  pub bytes : flat pages ≡ replicate (4096 * count) 0

-- as many pages as before, with these bytes
pub record HaveBytes (before : List (Vec ℕ Global)) (bytes : List ℕ) (after : List (Vec ℕ Global))
    : Type 0 where
  pub each : ArePages after
  pub many : length after ≡ length before
  pub same : flat after ≡ bytes

-- the pages from one up to another were made
abbrev pub AreMade : List (Vec ℕ Global) → ℕ → ℕ → Type 0
AreMade pages first last = (index : ℕ) (absent : Vec ℕ Global) → first ≤ index → index < last →
    length (slice_index_or pages index absent).items ≡ 4096

-- one of the pages from one up to another was not made
pub record LacksOne (pages : List (Vec ℕ Global)) (first last : ℕ) : Type 0 where
  pub at : ℕ
  pub from : first ≤ at
  pub below : at < last
  pub page : Vec ℕ Global
  pub there : page ≡ slice_index_or pages at page
  pub none : page.items ≡ []

-- a list with these elements from an index on, in place of as many of its own
abbrev pub put : List ℕ → ℕ → List ℕ → List ℕ
put list index elements = take index list ++ elements ++ drop (index + length elements) list
