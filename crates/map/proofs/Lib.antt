pub mod Wording
pub mod HeaderLemmas
pub mod Lining
pub mod ReadingLemmas
pub mod OneReading
pub mod Surveyed
