pub mod BlockLaws
pub mod PairLaws
pub mod PullLaws
pub mod TypedLaws
pub mod UnpackLaws
