-- what a text asks for
mod Asking
-- what holds of options, whatever the words
mod Consistent
-- from what clap says of a parse to what words ask for
mod Parsing
