-- What an editor writes.

-- the arguments of each request
pub mod Arguments
-- requests, as JSON and as text
pub mod Requests
