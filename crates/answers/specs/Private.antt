-- What private clauses alone cite: how the code works. No statement of a public call needs any of it.

-- what the code makes on the way
pub mod Steps
