-- What private clauses alone cite: how the code works. No statement of a public call needs any of it.

-- an expression as a flat list of operations
pub mod Flat
