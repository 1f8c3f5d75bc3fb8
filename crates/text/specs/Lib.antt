pub mod Render
pub mod Characters
pub mod Grammar
pub mod Answer
pub mod Claim
pub mod inner
