-- Definitions of what converting a file means.
pub mod RaiseCase
pub mod Convert
pub mod Printed
pub mod Results
unfoldable pub use RaiseCase.{raise_case}
pub use RaiseCase.{raised}
unfoldable pub use Convert.{convert_rejection, convert_outcome}
unfoldable pub use Printed.{laid_text}
pub use Printed.{length_printed, output_outcome}
pub use Results.Converted.{base_rejection, Converted}
pub use Results.Cases.{computed, cases}
