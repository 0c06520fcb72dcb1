-- What a search writes is a certificate.
pub mod Certified
-- What SSS* and the principal variation of its certificate give together.
pub mod Whole
