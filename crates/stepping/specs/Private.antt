-- What private clauses alone cite: how the code works. No statement of a public call needs any of it.

-- what holds of every machine that is debugged
pub mod Running
-- instructions in a row, with nothing to report
pub mod Bursts
