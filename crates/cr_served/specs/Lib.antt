pub mod Running
pub mod RunningLaws
pub mod Alone
pub mod AloneLaws
