pub mod Runs
pub mod Trees
pub mod Maybe
pub mod Moved
pub mod Noted
