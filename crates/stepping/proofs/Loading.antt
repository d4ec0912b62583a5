-- One machine is as an image says.
use Rattle.stepping.proofs.Common.{arith, Debugged, first_address, Lists, ℕ, ◌+◌, ◌≡◌}
use Rattle.image.specs.declared.Image.{Image}
use Rattle.stepping.specs.Loading.{IsLoaded, loaded, LabelsAreNotLoaded, not_hit, OneIsLoaded, OneIsReloaded, started}
use Rattle.stepping.proofs.Determined.{harts_equal}

as_loaded : (image : Image) (size : ℕ) (lists : Lists) (d : Debugged) → IsLoaded image size lists d → d ≡ loaded image size lists
as_loaded image size lists d h =
    let hart = harts_equal d.hart (started image.entry (first_address + size)) h.pc h.x in grind arith

pub one_is_loaded : OneIsLoaded
one_is_loaded image size lists d = (as_loaded image size lists d, λ e. rw e (assumption))

pub one_is_reloaded : OneIsReloaded
one_is_reloaded image before after = one_is_loaded image before.size (not_hit before.lists) after

pub labels_are_not_loaded : LabelsAreNotLoaded
labels_are_not_loaded image other size lists bytes entry rows end = rw (bytes, entry, rows, end)
