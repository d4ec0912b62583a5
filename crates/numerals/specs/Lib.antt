-- which number a text writes
pub mod Numerals
-- which word a text writes, with at most eight hexadecimal digits
pub mod Words
-- addresses as requests name them
pub mod MemoryReferences
