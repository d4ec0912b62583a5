-- What has been read, placed and filled is placed as a whole.
use Rattle.assembler.proofs.Common.{ap, AreParts, arith, content_error, entry_of, error_by, first_address, first_of, IsLayout, Label, labels_in, length, List, memory_end, Ok, Placed, placed, places, read_text, Row, Source, subst, sym, ℕ, ◌+◌, ◌∙◌, ◌≡◌, ◌≤◌}
use Rattle.image.specs.declared.Image.{Image}
use Rattle.assembler.proofs.Filling.{parts_length, parts_right}

pub placed_so : (text : List ℕ) (size : ℕ) (image : Image) (program : List Source) (labels : List Label) (rows : List Row) (end : ℕ) (bytes : List ℕ)
    → read_text text ≡ Ok program → IsLayout (memory_end size) program labels rows end
    → AreParts labels (places first_address program) bytes → image.bytes ≡ bytes → image.entry ≡ entry_of labels rows
    → image.lines.rows ≡ rows → image.lines.labels ≡ labels → image.lines.end ≡ end → Placed text size image
placed_so text size image program labels rows end bytes h l parts b e r a z =
    let all : AreParts (labels_in (placed program)) (placed program) bytes = subst
    (λ (s : List Label). AreParts s (placed program) bytes) l.labels_are parts in
    record {
      right =
          ap (error_by size) h ∙ ap (λ w. first_of w (content_error (labels_in (placed program)) (placed program))) l.fits
          ∙ parts_right (labels_in (placed program)) (placed program) bytes all;
      program = program;
      read = h;
      bytes = subst (AreParts (labels_in (placed program)) (placed program)) (sym b) all;
      entry = e ∙ ap (λ (s : List Label). entry_of s rows) l.labels_are ∙ ap (entry_of (labels_in (placed program))) l.rows_are;
      rows = r ∙ l.rows_are;
      labels = a ∙ l.labels_are;
      end =
          z ∙ l.end_is ∙ sym (parts_length (labels_in (placed program)) first_address program bytes all)
          ∙ ap (λ (s : List ℕ). first_address + length s) (sym b);
    }

-- what lies below the end of memory is no longer than memory
pub fits_so : (size : ℕ) (image : Image) (program : List Source) (labels : List Label) (rows : List Row) (end : ℕ) (bytes : List ℕ)
    → IsLayout (memory_end size) program labels rows end → AreParts labels (places first_address program) bytes → image.bytes ≡ bytes
    → length image.bytes ≤ size
fits_so size image program labels rows end bytes l parts b =
    let e = parts_length labels first_address program bytes parts in
    let at = l.end_is in
    let within = l.within in
    let same = ap length b in
    omega (arith, e, at, within, same)
