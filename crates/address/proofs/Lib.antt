pub mod RoundTrips
pub mod Chs
pub mod Addresses
pub mod Numbers
