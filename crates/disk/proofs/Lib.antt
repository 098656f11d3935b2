pub mod FastPath
