pub mod Successors
