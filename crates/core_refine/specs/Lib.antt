pub mod Piped
