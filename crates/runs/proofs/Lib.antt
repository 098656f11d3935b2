pub mod OneSector
pub mod Witnesses
pub mod Silence
pub mod Leaks
pub mod BlockLeaks
pub mod BrokenClaims
