pub mod SlipLemmas
pub mod StepLemmas
pub mod SeatLemmas
pub mod DrawLemmas
