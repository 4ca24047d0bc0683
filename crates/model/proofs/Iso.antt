-- What ISO 14229-1 fixes holds of the definition; where it does not, the departure is shown by computation.
pub mod Frames
pub mod Request
pub mod Session
pub mod Time
pub mod Enter
pub mod Security
pub mod Data
pub mod Periodic
pub mod Scenes
pub mod Departures
pub mod Answers
