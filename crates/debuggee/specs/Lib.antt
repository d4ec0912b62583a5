-- The definitions of `debuggee`, in reading order.

-- the program that is debugged, and what is done to it
pub mod Programs
-- what holds of its moves
pub mod Laws
