-- What holds of going back after every list of events.

-- what is recorded: a run that leads to where the machine is, and how many moves of it
pub mod Recorded
-- when going back is refused, since nothing is recorded
pub mod Refused
-- what a success of a request to go back begins
pub mod GoingBack
-- where a step back leads
pub mod SteppingBack
-- where a run back stops
pub mod RunningBack
-- the moves that were undone, made again
pub mod Again
-- the same by requests
pub mod ByRequests
