-- What the C forms of the calls on wide symbols share.
pub mod Pages
pub mod Calls
pub mod Decodes
