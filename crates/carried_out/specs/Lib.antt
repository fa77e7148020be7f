pub mod DistinctNames
pub mod CarriedOut
pub mod AllReverse
pub mod Reversible
