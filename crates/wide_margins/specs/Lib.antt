-- What the functions that write margins of wide symbols as bytes share.
pub mod Marked
