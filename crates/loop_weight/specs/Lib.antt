pub mod Constructs
