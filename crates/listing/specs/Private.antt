-- What private clauses alone cite: how the code works. No statement of a public call needs any of it.

-- how the code makes a listing
pub mod Steps
