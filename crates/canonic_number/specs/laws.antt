pub mod Canonic
pub mod Classes
pub mod Digits
pub mod Grammar
pub mod Literal
pub mod Place
