-- Rows that rise, tested one after the other.
use Rattle.std.proofs.Common.{◌≡◌, ℕ, zero, suc, ◌+◌, ◌*◌, ◌%◌, ◌<◌, ◌≤◌, List, [], ◌∷◌, ◌++◌, length, get_or, sym, subst, ◌∙◌, ap, arith}
use Rattle.std.specs.Prelude.{All, take}
use Rattle.std.proofs.Math.Seq.{take-suc}
use Rattle.std.proofs.lemmas.List.Elements.{All-append}
use Rattle.image.specs.Memory.{first_address}
use Rattle.image.specs.Lines.{Row, RowsRise, line_in, start_of, words_in, end_of}
use Rattle.image.proofs.Rows.{rows_rise-push}

-- The rows rise up to an address, and are of lines before this one.
pub record IsRising (rows : List Row) (line address : ℕ) : Type 0 where
  pub rise : RowsRise rows address
  pub lines : All (λ row. line_in row < line) rows
  pub first : first_address ≤ address

single : (P : Row → Type 0) (row : Row) → P row → All P (row ∷ [])
single P row holds zero d h = holds
single P row holds (suc k) d h = absurd (omega arith)

pub rising-push : (rows : List Row) (row : Row) (line address : ℕ) → IsRising rows line address → line ≤ line_in row
    → address ≤ start_of row → start_of row % 4 ≡ 0 → 1 ≤ words_in row → IsRising (rows ++ row ∷ []) (line_in row + 1) (end_of row)
rising-push rows row line address rising later after aligned words =
    let before : All (λ each. line_in each < line_in row) rows = λ k d h. let e = rising.lines k d h in omega arith in
    let from : first_address ≤ address = rising.first in
    record {
      rise = rows_rise-push rows row address rising.rise after before (omega arith) aligned words;
      lines =
          All-append (λ each. line_in each < line_in row + 1) rows (row ∷ []) (λ k d h. let e = rising.lines k d h in omega arith)
          (single (λ each. line_in each < line_in row + 1) row (omega arith));
      first = omega arith;
    }

-- The rows before an index that rise, rise with the row there where it is of a later line and starts where they end or after that.
pub rising-step : (rows : List Row) (index line address number start words : ℕ) → index < length rows
    → get_or rows index (0, 0, 0) ≡ (number, start, words) → IsRising (take index rows) line address → line ≤ number → address ≤ start
    → start % 4 ≡ 0 → 1 ≤ words → IsRising (take (index + 1) rows) (number + 1) (start + 4 * words)
rising-step rows index line address number start words within here rising later after aligned some =
    let one : index + 1 ≡ suc index = omega arith in
    let more : take (index + 1) rows ≡ take index rows ++ (number, start, words) ∷ [] = rw one
    (take-suc rows index (0, 0, 0) within ∙ ap (λ row. take index rows ++ row ∷ []) here) in
    subst (λ all. IsRising all (number + 1) (start + 4 * words)) (sym more)
    (rising-push (take index rows) (number, start, words) line address rising later after aligned some)
