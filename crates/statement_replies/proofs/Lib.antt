pub mod Answering
mod AnswersWorked
pub mod Asking
pub mod Causes
pub mod Coming
pub mod Lines
pub mod Listed
pub mod Making
pub mod Offers
pub mod PlanReplies
pub mod QueryReplies
mod RepliesWorked
pub mod Replying
pub mod Saying
pub mod Standing
pub mod StatementReplies
pub mod Targets
pub mod TextLaws
pub mod TracedReplies
