-- A line at a prompt.

-- parts of a line, and words
pub mod Parts
-- what parts a text in two
pub mod Separators
-- the words that a line may begin with
pub mod Words
-- texts, numbers and places
pub mod Arguments
-- what a line asks for
pub mod Lines
-- what holds of every line
pub mod Laws
