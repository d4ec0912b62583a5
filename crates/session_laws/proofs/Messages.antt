-- That an editor can read each message.

pub mod Common
-- plain texts
pub mod Words
pub mod Instructions
pub mod FileNames
-- what comes and what is debugged
pub mod Programs
pub mod Requests
-- what is said
pub mod Bodies
pub mod Events
pub mod Sessions
pub mod Numbered
pub mod Readable
