-- What private clauses alone cite: how the code works. No statement of a public call needs any of it.

-- how the code goes, slice by slice
pub mod Slices
