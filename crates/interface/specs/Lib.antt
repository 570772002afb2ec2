pub mod Asked
pub mod Replies
pub mod Recorded
pub mod Tables
pub mod Writers
pub mod Checked
