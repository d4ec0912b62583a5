-- What private clauses alone cite: how the code works. No statement of a public call needs any of it.

-- words that are remembered decoded
pub mod Words
-- what undoes a move
pub mod Moves
