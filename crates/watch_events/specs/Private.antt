-- What private clauses alone cite: how the code works. No statement of a public call needs any of it.

-- what is kept while events are done
pub mod Tracking
pub mod Replaying
