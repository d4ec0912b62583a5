-- why it ends, by how serving ended
pub mod ExitReasons
-- what it begins with
pub mod Beginnings
-- the editors that it serves
pub mod Editors
-- the lines with which a program is debugged in a terminal
pub mod Lines
-- the colours of what they lead to
pub mod Colours
-- ---- of `transport`
-- the rounds in which an editor is served
pub use Rattle.transport.specs.Drives
