-- What a program is talked to over.

-- what a wire does
pub mod Wires
-- what a door does
pub mod Doors
