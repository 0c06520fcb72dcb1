-- SSS*: what a tree answers, steps, that it does what MTD does, and the lists that it reaches.
pub mod Lookups
pub mod OwnNodes
pub mod Steps
pub mod Frontier
pub mod Around
pub mod Work
pub mod Simulation
pub mod Run
pub mod Lists
pub mod Fronts
pub mod FrontSteps
pub mod LastMove
