pub mod AnswerLaws
pub mod DepthLaws
pub mod PointLaws
pub mod SearchLaws
pub mod StackLaws
pub mod TreeLaws
