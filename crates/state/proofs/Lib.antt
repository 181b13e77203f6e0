pub mod Sinces
