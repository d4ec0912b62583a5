-- What private clauses alone cite: how the code works. No statement of a public call needs any of it.

pub mod Preparing
pub mod Beats
