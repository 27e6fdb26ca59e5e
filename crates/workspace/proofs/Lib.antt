mod Layered
mod TakenBack
