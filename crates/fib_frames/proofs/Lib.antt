pub mod Sending
pub mod Piecing
pub mod Showing
pub mod Back
