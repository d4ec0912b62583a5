-- How the players of the tests answer.

-- an answer, word by word
pub mod Words
