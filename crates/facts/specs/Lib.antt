-- What can be known of a machine from outside.

-- the facts
pub mod Facts
