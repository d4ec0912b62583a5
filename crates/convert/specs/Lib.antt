-- The definitions of `convert`.

-- what stays as it is
pub mod Conversions
-- names that mean the same elsewhere
pub mod Tables
-- what private clauses alone cite
pub mod Private
