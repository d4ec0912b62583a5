-- That what an editor knows was so.

pub mod Common
pub mod Agreeing
pub mod Knowing
pub mod Remembering
pub mod Owing
pub mod Leading
pub mod Beating
pub mod Resuming
pub mod Valuing
pub mod Showing
pub mod Changing
pub mod Listing
pub mod Leaving
pub mod Truth
pub mod Printed
pub mod Readable
pub mod Editing
pub mod Mirrored
pub mod Newly
pub mod Referring
pub mod Following
pub mod Seen
