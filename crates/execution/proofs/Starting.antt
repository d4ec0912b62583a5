-- An image that is right for a text can be loaded.
use Rattle.std.proofs.Common.{◌≡◌, ℕ, ◌%◌, ◌≤◌, List}
use Rattle.assembler.proofs.Loadable.{loadable}
use Rattle.assembler.specs.Placed.{Placed}
use Rattle.image.specs.declared.Image.{Image}
use Rattle.stepping.specs.Loading.{CanBeLoaded}

pub can_be_loaded : (text : List ℕ) (image : Image) (size : ℕ) → size % 4096 ≡ 0 → 4096 ≤ size → size ≤ 16777216 → Placed text size image
    → CanBeLoaded image size
can_be_loaded text image size whole some few p =
    let l = loadable text size image p in
    record { whole = whole; some = some; few = few; fits = l.fits; aligned = l.aligned }
