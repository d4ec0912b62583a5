-- What private clauses alone cite: how the code works. No statement of a public call needs any of it.

-- what `poll` is asked, and what its answer comes to
pub mod Polling
