-- Lines that are placed one by one.
use Rattle.assembler.proofs.Common.{[], ap, AsmError, AsmErrorKind, drop, end_of, error_at, first_address, Label, labels_in, List, Option, place_error, places, refl, reported_at, reported_kind, Reports, Row, rows_in, Source, ℕ, ◌++◌, ◌∙◌, ◌≡◌, ◌≤◌}
use Rattle.assembler.specs.declared.error.AsmErrorKind.TheVariants as k

-- ---- lines so far

pub record IsReached (limit : ℕ) (program : List Source) (count : ℕ) (labels : List Label) (rows : List Row) (address : ℕ) : Type 0 where
  pub wrong : place_error limit [] (places first_address program) ≡ place_error limit labels (places address (drop count program))
  pub labels_are : labels_in (places first_address program) ≡ labels ++ labels_in (places address (drop count program))
  pub rows_are : rows_in (places first_address program) ≡ rows ++ rows_in (places address (drop count program))
  pub end_is : end_of first_address program ≡ end_of address (drop count program)
  pub from : first_address ≤ address
  pub to : address ≤ limit

-- what is wrong with a line is reported of the lines from it on
pub reported_so : (kind : AsmErrorKind) (line : ℕ) (wrong : Option AsmErrorKind) (later found : Option AsmError) → reported_kind kind wrong
    → found ≡ error_at line wrong later → Reports (reported_at line kind) found
reported_so k.NoMemory line wrong later found h e = refl
reported_so _ line wrong later found h e = e ∙ ap (λ w. error_at line w later) h
