-- Lemmas, in a folder for each subject; the theorems for use are in Theorems, in the words of Searches, for SSS* within
-- an allowance in Within, and for searches made of tests in TestRuns.
pub mod Minimax
pub mod Alphabeta
pub mod Mtd
pub mod Sss
pub mod Allowance
pub mod Certificates
pub mod Tests
pub mod Results
pub mod Searches
pub mod Theorems
pub mod Within
pub mod TestRuns
