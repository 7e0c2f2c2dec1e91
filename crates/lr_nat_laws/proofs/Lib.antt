pub mod Choosing
pub mod Defragging
pub mod Hiding
pub mod Redirecting
pub mod TranslationStages
pub mod Unsnatting
