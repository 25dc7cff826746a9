-- General notions: tests below n, counting, digits, lists.
pub mod Tests
pub mod Counting
pub mod Digits
pub mod Lists
pub mod Weave
