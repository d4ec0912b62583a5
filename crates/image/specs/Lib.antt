-- The definitions of `image`, in reading order.

-- memory: the byte at each address, what an access reads or writes, and its faults
pub mod Memory
-- what holds of every memory, by the byte at each address
pub mod Laws
-- the line table: which line the code at an address came from, where a line's code starts, the label of an address
pub mod Lines
-- what private clauses alone cite
pub mod Private
