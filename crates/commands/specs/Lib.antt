-- What the program says when it ends.
-- why it ends: its status, and its line on standard error
pub mod ExitReasons
-- how `rvdap run` says how a program ended
pub mod Runs
