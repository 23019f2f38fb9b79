-- Read in this order; `Matches` says in the words of the rules what `Matching` finds, and `Decisions` is for private clauses.
pub mod Bound
pub mod Matching
pub mod Matches
pub mod Deciding
pub mod Rewriting
pub mod RewriterState
pub mod Decisions
