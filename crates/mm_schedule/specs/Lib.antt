pub mod Events
pub mod Headers
pub mod Laws
pub mod Replies
