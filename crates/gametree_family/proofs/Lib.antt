-- Theory that no call needs: null windows, other strategies, the game with the sides exchanged, Scout.
pub mod Narrower
pub mod Null
pub mod Move
pub mod Mirror
pub mod Few
pub mod Bisection
pub mod Scout
pub mod Theorems
