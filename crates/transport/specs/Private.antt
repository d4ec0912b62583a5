-- What private clauses alone cite: how the code works. No statement of a public call needs any of it.

-- what a server keeps of what it read, step by step
pub mod Inbox
pub mod Drives
pub mod Rounds
pub mod Serving
pub mod Told
pub mod Outbox
