pub mod FirstUnlike
pub mod Listed
pub mod Shaped
pub mod Visibility
