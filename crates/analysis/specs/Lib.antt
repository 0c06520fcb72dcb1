-- Definitions of what the program prints.
pub mod Report
pub mod Engine
pub mod Results
pub use Report.{heading, method_line, analysis_on, report}
unfoldable pub use Engine.Lines.{line_by}
pub use Engine.Lines.{findings_line, answer_line, methods, lines, analysis}
pub use Results.Cases.{computed, expected, cases}
