-- What the calls on wide symbols share.
pub mod Later
pub mod Received
