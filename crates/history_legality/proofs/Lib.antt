pub mod JoinLaws
pub mod KindLaws
pub mod OrderLaws
pub mod DoingLaws
pub mod LentLaws
