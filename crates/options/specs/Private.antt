-- What private clauses alone cite: how the code works. No statement of a public call needs any of it.

-- which rule is broken
pub mod Broken
-- a command as clap is told of it
pub mod Told
