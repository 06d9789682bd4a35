-- What decoding a page gives as the contracts here cite it, and its laws.
pub mod Decoded
