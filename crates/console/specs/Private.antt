-- What private clauses alone cite: how the code works. No statement of a public call needs any of it.

-- a page, and what fills it
pub mod Pages
