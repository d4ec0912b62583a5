-- The definitions of `watch_events`.

-- what `watch` shows: what is known, beside what could be seen
pub mod Replaying
-- what private clauses alone cite
pub mod Private
-- ---- of the crates below
-- what an editor knows by the bytes that it got, and whether that is so
pub use Rattle.session_laws.specs.Concluding
pub use Rattle.session_laws.specs.Headline
pub use Rattle.session_laws.specs.Holding
