pub mod Answer
pub mod Inner
pub mod LineEnd
pub mod LineInHand
pub mod Task
