-- The reader's own words: where it stands after a step.
pub mod After
