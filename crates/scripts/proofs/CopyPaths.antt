-- The paths of copies have lines.
use Rattle.scripts.proofs.Common.{[], arith, codes, decimal, has_line, IsAscii, IsAscii-decimal, IsInRange, refl, Some, true, Turn, ℕ, ◌<◌, ◌^◌, ◌∷◌, ◌≡◌}
use Rattle.std.proofs.lemmas.Str.{IsAscii-append, IsUtf8-from_ascii, is_utf8-from_IsUtf8}
use Rattle.std.proofs.lemmas.Str.Ascii.{IsAscii-cons, IsAscii-nil}
use Rattle.scripts.specs.Copies.{path_of}
use Rattle.scripts.proofs.Lines.{can_end, number_ends, word_ends}

pub paths : (number : ℕ) → number < 2 ^ 32 → IsInRange (Turn (Some (path_of number))) × (has_line (Turn (Some (path_of number))) ≡ true)
paths number h =
    let digits = decimal number in
    let one = (can_end digits (number_ends number (omega arith))).one in
    let end : IsAscii (codes ".s") = IsAscii-cons 46 (115 ∷ []) (omega arith) (IsAscii-cons 115 [] (omega arith) IsAscii-nil) in
    let ascii : IsAscii (path_of number) = IsAscii-append digits (codes ".s") (IsAscii-decimal number (omega arith)) end in
    (is_utf8-from_IsUtf8 (path_of number) (IsUtf8-from_ascii (path_of number) ascii), word_ends digits (codes ".s") one refl)
