pub mod Dnat
