pub mod Input
pub mod Meaning
pub mod Resolution
pub mod Routers
pub mod Routing
pub mod Translation
