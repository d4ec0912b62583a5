-- A machine into which a program was loaded that was a text.
use Rattle.std.specs.Prelude.{◌≡◌, ℕ, List}
use Rattle.assembler.specs.Placed.{Placed}
use Rattle.image.specs.declared.Image.{Image}
use Rattle.stepping.specs.Loading.{IsLoaded, no_breakpoints}
use Rattle.execution.specs.declared.loading.Loaded.{Loaded}

-- It is as the image says that is right for the text, and so are the lines and labels, the bytes and where it starts.
pub record IsLoadedFrom (text : List ℕ) (size : ℕ) (loaded : Loaded) : Type 0 where
  pub image : Image
  pub placed : Placed text size image
  pub machine : IsLoaded image size no_breakpoints loaded.runner
  pub lines : loaded.lines ≡ image.lines
  pub bytes : loaded.bytes ≡ image.bytes
  pub entry : loaded.entry ≡ image.entry
