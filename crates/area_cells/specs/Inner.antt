pub mod Apart
pub mod Cuts
pub mod Filled
pub mod Merged
pub mod Stretches
pub mod Taking
