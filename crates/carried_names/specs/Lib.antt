pub mod BoundsApart
pub mod Laws
