pub mod SetUp
mod Examples
