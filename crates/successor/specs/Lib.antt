pub mod Successor
