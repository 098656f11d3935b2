pub mod FastWord
