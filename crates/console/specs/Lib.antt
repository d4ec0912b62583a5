-- A debugger's conversation.

-- a client that follows a session
pub mod Following
-- what is shown, and what of it is a fact
pub mod Screens
-- the texts of pieces
pub mod Texts
-- what private clauses alone cite
pub mod Private
