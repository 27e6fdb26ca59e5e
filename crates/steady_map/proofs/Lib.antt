mod HiddenKeys
mod RunsTaken
mod Shows
mod Alones
