pub mod Admission
pub mod Alike
pub mod Walks
