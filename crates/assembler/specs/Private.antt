-- What private clauses alone cite: how the code works. No statement of a public call needs any of it.

-- what one step of a pass does
pub mod Steps
