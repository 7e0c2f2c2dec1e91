mod Cut
mod Indexed
mod Numbered
mod Removed
