pub mod Rules
pub mod Calls
pub mod Replies
pub mod Laws
