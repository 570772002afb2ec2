-- What a script's calls are, and what is read of their answers.
-- Assumes nothing.
pub mod Answers
pub mod Calls
