-- What waits on a connection: requests for their answers, and bytes to be sent.

-- the requests that wait: which join, which are repeats, what a `cancel` does
pub mod Arrivals
-- the frame of a message with its number
pub mod Writing
