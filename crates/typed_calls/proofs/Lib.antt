pub mod Within
pub mod Below
pub mod InTurn
pub mod Asked
