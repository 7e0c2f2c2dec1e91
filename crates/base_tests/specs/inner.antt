-- What ghost members cite.
pub mod Tags
