-- What the decoders of wide symbols share.
pub mod Marks
