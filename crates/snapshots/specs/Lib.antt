-- What an editor could see of a program that is debugged, and what a snapshot keeps of it.

-- what an editor could see, as facts
pub mod Shown
-- what a snapshot keeps of it
pub mod Snapshots
-- ---- of the layers below
-- what can be known of a machine
pub use Rattle.facts.specs.Facts
