-- The lemmas on one turn of SSS*.
pub mod Puts
pub mod Taking
pub mod Merits
