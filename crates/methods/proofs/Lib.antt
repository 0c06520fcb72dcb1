-- What holds of the leaves that a method evaluates, and how an answer ends in the outcome of a call.
pub mod Rules
pub mod Certifying
