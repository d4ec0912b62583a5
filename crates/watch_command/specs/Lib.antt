-- A script that is played.

-- why it is not
pub mod Playing
-- a line of what was said
pub mod Shown
-- what was said
pub mod Conversing
-- what private clauses alone cite
pub mod Private
