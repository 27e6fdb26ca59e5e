pub mod Reading
pub mod Literal
pub mod Place
pub mod Written
pub mod Forms
pub mod Drafts
pub mod Statements
pub mod laws
