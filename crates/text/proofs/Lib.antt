-- Lemmas on text: pieces laid into a buffer, the digits of numbers, and pieces pushed behind a text.
pub mod Laying
pub mod Signs
pub mod Digits
pub mod Pushing
pub mod Sizes
