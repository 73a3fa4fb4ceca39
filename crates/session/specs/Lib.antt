pub mod Steps
pub mod Start
pub mod MagStripe
pub mod Answer
pub mod Calls
