-- The loops and the leaves of programs.
pub mod Parts
pub mod Skeleton
