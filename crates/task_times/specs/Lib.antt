pub mod Living
pub mod DoingTimes
pub mod TaskSums
