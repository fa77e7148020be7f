pub mod Breaches
pub mod Caps
pub mod Choices
pub mod Constructs
pub mod Copies
pub mod Items
pub mod Lists
pub mod Scopes
