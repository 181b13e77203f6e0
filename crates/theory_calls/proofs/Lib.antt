pub mod Weight
pub mod Queue
pub mod Reach
pub mod Judged
pub mod Said
pub mod Parts
