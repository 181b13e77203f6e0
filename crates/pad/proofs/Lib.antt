mod Columns
mod Halving
