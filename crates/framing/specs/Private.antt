-- What private clauses alone cite: how the code works. No statement of a public call needs any of it.

-- the lines of a header part, one after the other
pub mod Lines
-- the bytes and the bodies that are held
pub mod Parts
