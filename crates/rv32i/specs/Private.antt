-- What private clauses alone cite: how the code works. No statement of a public call needs any of it.

-- how the code finds the register that a name means
pub mod Candidates
