pub mod Printing
pub mod Clauses
