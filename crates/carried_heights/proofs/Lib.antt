pub mod HeadHeights
pub mod GenHeights
pub mod Walk
pub mod Admitted
