pub mod Decoding
pub mod JsonTexts
pub mod Lists
pub mod Meanings
pub mod Requests
