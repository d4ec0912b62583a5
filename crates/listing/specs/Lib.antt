-- The definitions of `listing`, in reading order.

-- the listing of an image: a line for each instruction
pub mod Entries
-- what `listing` writes, and what it reports
pub mod Listing
-- the labels of a text
pub mod Labels
-- what private clauses alone cite
pub mod Private
