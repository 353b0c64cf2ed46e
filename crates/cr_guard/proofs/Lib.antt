pub mod Finding
pub mod HeardLaws
pub mod PolicyLaws
pub mod Rising
