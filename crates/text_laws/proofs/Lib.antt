pub mod Common
-- plain texts
pub mod Plain
-- ---- requests
-- the text that a string represents
pub mod Strings
-- the texts of tokens, of a JSON value, and of what it is read as
pub mod Tokens
pub mod Trees
pub mod Values
pub mod Requests
-- ---- programs
-- the names of labels
pub mod Labels
-- ---- messages
-- how many bytes a JSON value is written in
pub mod Sizes
-- bytes in base64, and messages
pub mod Encoded
pub mod Lengths
