-- A client of a session.

-- what a client keeps, which sessions it follows, and what each call of it does
pub mod Following
