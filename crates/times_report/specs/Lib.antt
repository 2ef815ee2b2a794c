pub mod TaskLines
pub mod WaitLines
pub mod Summary
