-- The definitions of `text_laws`, in reading order.

-- a text of a length, and one that a JSON text has as it is
pub mod Texts
-- the texts of a request that is read
pub mod Requests
-- the labels of a program
pub mod Labels
-- how long the text of a message can be
pub mod Lengths
