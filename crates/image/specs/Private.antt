-- What private clauses alone cite: how the code works. No statement of a public call needs any of it.

-- what a line table keeps beside that, so that a label can be found by halving
pub mod Orders
-- pages: a table of them as the list of the bytes of memory
pub mod Pages
