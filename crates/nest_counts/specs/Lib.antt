pub mod HasKinds
pub mod Plans
pub mod Statements
pub mod Bounds
pub mod Found
pub mod Admitted
pub mod Laws
