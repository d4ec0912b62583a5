-- The definitions of `range_laws`, in reading order.

-- a machine whose numbers are words and bytes, and what keeps it so
pub mod Machines
-- the same of a debugged machine, of the image that is loaded into it, and of ticks
pub mod Debugging
-- the value of an expression on such a machine
pub mod Values
-- the image of a text
pub mod Images
-- what an editor gives to be set: bytes, and the value of a register
pub mod Requests
-- the same of the program that is debugged, and of all that is done to it
pub mod Programs
