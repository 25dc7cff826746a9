-- Document 01, with request [3] of document 02, as definitions that compute, one module for each section. Each definition has the sentence it stands for.
pub mod Rows
pub mod File
pub mod Drivers
pub mod Groups
pub mod Published
pub mod Vectors
pub mod Lines
pub mod Marks
pub mod Refusals
pub mod Answers
pub mod Checking
