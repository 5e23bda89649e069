pub mod BestLaws
pub mod FaultLaws
pub mod Finishing
pub mod Orders
pub mod Reorderings
pub mod Results
pub mod Unions
pub mod Witness
