pub mod EachEdit
pub mod Known
pub mod Microflows
pub mod QueryWords
pub mod ReadableLines
pub mod ShortLines
pub mod Small
pub mod CommandReadings
