mod Back
mod Changed
