-- Lemmas on written lines and files and the questions of the writer, and small cases.
pub mod Laying
mod Writing
pub mod Questions
pub mod Cases
