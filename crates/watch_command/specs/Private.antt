-- What private clauses alone cite: how the code works. No statement of a public call needs any of it.

pub mod Playing
pub mod Conversing
