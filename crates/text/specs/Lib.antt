-- Definitions of text as bytes.
pub mod Text
unfoldable pub use Text.{decimal_within, text_of, laid}
pub use Text.{decimal, signed_decimal, refused_line, TextRoom, Put, pushed_byte, pushed, HasRoom, text_size}
