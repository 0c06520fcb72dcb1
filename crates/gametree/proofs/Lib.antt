-- Small trees, computed from the definitions.
pub mod Tests
pub mod Results
